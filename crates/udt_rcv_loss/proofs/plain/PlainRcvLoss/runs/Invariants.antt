use Rattle.std.proofs.Common.{◌≡◌, ◌≤◌, length, drop}
use Rattle.udt_model.specs.Losses.{due_ranges}
use Rattle.udt_rcv_loss.proofs.plain.PlainRcvLoss.runs.Given as goal

-- the runs of the packets from a place on are found
abbrev pub invariant-loop-i : goal.invariant-loop-i
invariant-loop-i l = record {
  within : l.i ≤ length l.self-inside.missing.items;
  found : l.runs.items ≡ due_ranges l.now l.rtt (drop l.i l.self-inside.missing.items);
}

abbrev pub decreases-loop-i : goal.decreases-loop-i
decreases-loop-i l = l.i
