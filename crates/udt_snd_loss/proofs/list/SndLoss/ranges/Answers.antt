use Rattle.std.proofs.Common.{◌+◌, length, sym, ap, ◌∙◌}
use Rattle.std.proofs.lemmas.List.{length-map}
use Rattle.udt_snd_loss.proofs.RangeLemmas.{ranges_of-items, ends_of}
use Rattle.udt_snd_loss.proofs.list.SndLoss.ranges.Goals as goal

pub returns : goal.returns
returns c =
    let l = c.self.inside in
    let i = c.self.invariant in
    rw (← c.self.view_is) (c.count.ensures.value ∙ sym (length-map l.ranges.ranges ends_of) ∙ sym (ap length (ranges_of-items l.floor (l.floor + l.ranges.window) l.ranges.ranges i.rises i.maximal)))
