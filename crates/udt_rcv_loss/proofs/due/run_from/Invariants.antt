use Rattle.std.proofs.Common.{◌≡◌, ◌++◌, ◌∷◌, ◌≤◌, length}
use Rattle.udt_model.specs.Losses.{offsets_between, ranges_of, due_ranges}
use Rattle.udt_ranges.specs.Cursors.{beyond}
use Rattle.udt_rcv_loss.specs.Runs.{IsCutAt}
use Rattle.udt_rcv_loss.proofs.RunLemmas.{due_in}
use Rattle.udt_rcv_loss.proofs.due.run_from.Given as goal
use Rattle.udt_rcv_loss.specs.Tags.{missing_in}

-- so far the run goes up to a range, and goes on with what is due after it
abbrev pub invariant-run : goal.invariant-run
invariant-run l = record {
  cut : IsCutAt l.cursor l.last l.ranges.ranges;
  order : l.range.first ≤ l.last;
  due : due_ranges l.now l.rtt (missing_in (l.range ∷ beyond l.range.first l.ranges.ranges)) ≡ ranges_of (offsets_between l.range.first l.last ++ due_in l.now l.rtt (missing_in (beyond l.cursor l.ranges.ranges)));
}

abbrev pub decreases-run : goal.decreases-run
decreases-run l = length (beyond l.cursor l.ranges.ranges)
