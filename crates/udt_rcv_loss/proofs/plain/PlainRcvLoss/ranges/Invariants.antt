use Rattle.std.proofs.Common.{◌≡◌, ◌≤◌, ◌+◌, length, drop}
use Rattle.udt_model.specs.Losses.{missing_ranges}
use Rattle.udt_rcv_loss.proofs.plain.PlainRcvLoss.ranges.Given as goal

-- the ranges from a place on are counted
abbrev pub invariant-loop-i : goal.invariant-loop-i
invariant-loop-i l = record {
  within : l.i ≤ length l.self-inside.missing.items;
  counted : l.count ≡ length (missing_ranges (drop l.i l.self-inside.missing.items));
  room : l.count + l.i ≤ length l.self-inside.missing.items;
}

abbrev pub decreases-loop-i : goal.decreases-loop-i
decreases-loop-i l = l.i
