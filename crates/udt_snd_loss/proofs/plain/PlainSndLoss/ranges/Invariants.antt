use Rattle.std.proofs.Common.{◌≡◌, ◌≤◌, ◌+◌, length, drop}
use Rattle.udt_model.specs.Losses.{ranges_of}
use Rattle.udt_snd_loss.proofs.plain.PlainSndLoss.ranges.Given as goal

-- the ranges from a place on are counted
abbrev pub invariant-loop-i : goal.invariant-loop-i
invariant-loop-i l = record {
  within : l.i ≤ length l.self-inside.lost.items;
  counted : l.count ≡ length (ranges_of (drop l.i l.self-inside.lost.items));
  room : l.count + l.i ≤ length l.self-inside.lost.items;
}

abbrev pub decreases-loop-i : goal.decreases-loop-i
decreases-loop-i l = l.i
