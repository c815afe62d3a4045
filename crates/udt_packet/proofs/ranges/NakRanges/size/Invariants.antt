-- What was counted and what is left make the whole.
use Rattle.std.proofs.Common.{◌≡◌, ◌+◌, length}
use Rattle.udt_model.specs.Wire.{ranges_bytes}
use Rattle.udt_packet.proofs.ranges.NakRanges.size.Given as goal

abbrev pub invariant-loop-first : goal.invariant-loop-first
invariant-loop-first l = l.size + length (ranges_bytes l.left) ≡ length (ranges_bytes l.self)

abbrev pub decreases-loop-first : goal.decreases-loop-first
decreases-loop-first l = length l.left
