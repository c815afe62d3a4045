use Rattle.std.proofs.Common.{◌≡◌, ◌++◌, map, length}
use Rattle.udt_ranges.specs.Ranges.{IsWithin}
use Rattle.udt_ranges.specs.Merging.{IsMaximal}
use Rattle.udt_ranges.specs.Cursors.{IsCursor, before, following}
use Rattle.udt_rcv_loss.specs.Tags.{missing_in, reported_to, same_report}
use Rattle.udt_rcv_loss.proofs.renew.report.Given as goal

-- the ranges before the place are those that were gone over, and those after it are as they were
abbrev pub invariant-report : goal.invariant-report
invariant-report l = record {
  kept : l.ranges.window ≡ l.fn.ranges.window;
  cursor : IsCursor l.cursor l.ranges.ranges;
  within : IsWithin l.ranges.window l.ranges.ranges;
  missing : missing_in (before l.cursor l.ranges.ranges) ++ missing_in (map (reported_to l.last l.now l.rtt) (following l.cursor l.ranges.ranges)) ≡ missing_in (map (reported_to l.last l.now l.rtt) l.fn.ranges.ranges);
  maximal : IsMaximal same_report (before l.cursor l.ranges.ranges);
}

abbrev pub decreases-report : goal.decreases-report
decreases-report l = length (following l.cursor l.ranges.ranges)
