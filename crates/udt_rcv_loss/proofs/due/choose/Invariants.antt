use Rattle.std.proofs.Common.{◌≡◌, ◌+◌, ◌≤◌, ◌++◌, [], length, IfSome, IfNone}
use Rattle.udt_model.specs.Losses.{due_ranges, fitting_ranges}
use Rattle.udt_ranges.specs.Ranges.{IsFrom, EndsBelow}
use Rattle.udt_ranges.specs.Cursors.{IsCursor, before, following}
use Rattle.udt_rcv_loss.specs.Runs.{AllBy}
use Rattle.udt_rcv_loss.proofs.due.choose.Given as goal
use Rattle.udt_rcv_loss.specs.Tags.{missing_in}

-- the runs up to the place were taken, and those after it are left for the words that are left
abbrev pub invariant-choose : goal.invariant-choose
invariant-choose l = record {
  kept : l.into.words ≡ l.fn.into.words;
  cursor : IsCursor l.cursor l.ranges.ranges;
  due : due_ranges l.now l.rtt (missing_in l.ranges.ranges) ≡ l.into.ranges ++ due_ranges l.now l.rtt (missing_in (following l.cursor l.ranges.ranges));
  report : fitting_ranges l.words (due_ranges l.now l.rtt (missing_in l.ranges.ranges)) ≡ l.into.ranges ++ fitting_ranges l.left (due_ranges l.now l.rtt (missing_in (following l.cursor l.ranges.ranges)));
  room : length l.into.ranges + l.left ≤ l.words;
  none : IfNone l.taken (l.into.ranges ≡ []);
  ends : IfSome l.taken (λ last. EndsBelow (last + 1) (before l.cursor l.ranges.ranges));
  from : IfSome l.taken (λ last. IsFrom (last + 1) (following l.cursor l.ranges.ranges));
  by : IfSome l.taken (λ last. AllBy last l.into.ranges);
}

abbrev pub decreases-choose : goal.decreases-choose
decreases-choose l = l.left
