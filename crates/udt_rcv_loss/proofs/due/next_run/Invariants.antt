use Rattle.std.proofs.Common.{◌≡◌, ℕ, length}
use Rattle.udt_model.specs.Losses.{due_ranges}
use Rattle.udt_ranges.specs.Ranges.{IsFrom}
use Rattle.udt_ranges.specs.Cursors.{IsCursor, following}
use Rattle.udt_rcv_loss.proofs.due.next_run.Given as goal
use Rattle.udt_rcv_loss.specs.Tags.{missing_in}

-- nothing that was passed is due
abbrev pub invariant-skip : goal.invariant-skip
invariant-skip l = record {
  cursor : IsCursor l.cursor l.ranges.ranges;
  due : due_ranges l.now l.rtt (missing_in (following l.fn.from l.ranges.ranges)) ≡ due_ranges l.now l.rtt (missing_in (following l.cursor l.ranges.ranges));
  later : (k : ℕ) → IsFrom k (following l.fn.from l.ranges.ranges) → IsFrom k (following l.cursor l.ranges.ranges);
}

abbrev pub decreases-skip : goal.decreases-skip
decreases-skip l = length (following l.cursor l.ranges.ranges)
