use Rattle.std.proofs.Common.{length, sym, ap, ◌∙◌}
use Rattle.std.proofs.lemmas.List.{length-map}
use Rattle.udt_ranges.proofs.PlaceLemmas.{bounds}
use Rattle.udt_rcv_loss.proofs.MissingLemmas.{missing_ranges-items, missing_of}
use Rattle.udt_rcv_loss.proofs.list.RcvLoss.ranges.Goals as goal

pub returns : goal.returns
returns c =
    let l = c.self.inside in
    let b = bounds l.ranges.window l.ranges.ranges c.self.invariant.within in
    rw (← c.self.view_is) (c.count.ensures.value ∙ sym (length-map l.ranges.ranges missing_of) ∙ sym (ap length (missing_ranges-items b.low b.high l.ranges.ranges b.rises c.self.invariant.maximal)))
