use Rattle.std.proofs.Common.{◌+◌, ap, ◌∙◌}
use Rattle.udt_ranges.proofs.OffsetLemmas.{without_least}
use Rattle.udt_snd_loss.proofs.list.SndLoss.take_first.Goals as goal

pub returns-clause-next : goal.returns-clause-next
returns-clause-next c =
    let s = c.args.self.now in
    let e = c.in-Some.ensures in
    c.remove.ensures ∙ ap (λ ns. record s { lost = ns }) (without_least c.in-Some.first s.floor (s.floor + s.window) s.lost e.value e.within)
