use Rattle.std.proofs.Common.{ap, ◌∙◌}
use Rattle.udt_ranges.specs.Offsets.{least}
use Rattle.udt_rcv_loss.proofs.ListedLemmas.{offsets_in-missing}
use Rattle.udt_ranges.proofs.PlaceLemmas.{bounds}
use Rattle.udt_ranges.proofs.OffsetLemmas.{least-items}
use Rattle.udt_rcv_loss.proofs.MissingLemmas.{IsInWindow-items}
use Rattle.udt_rcv_loss.proofs.list.RcvLoss.first.Goals as goal

pub returns-clause-value : goal.returns-clause-value
returns-clause-value c =
    let l = c.self.inside in
    let b = bounds l.ranges.window l.ranges.ranges c.self.invariant.within in
    rw (← c.self.view_is) (c.first.ensures.value ∙ least-items b.low b.high l.ranges.ranges b.rises ∙ ap least (offsets_in-missing l.ranges.ranges))

pub returns-clause-within : goal.returns-clause-within
returns-clause-within c =
    let l = c.self.inside in rw (← c.self.view_is) (IsInWindow-items l.ranges.window l.ranges.ranges c.self.invariant.within)
