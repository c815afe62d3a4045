-- What was written and what is left make the whole, and what stands after stays.
use Rattle.std.proofs.Common.{length}
use Rattle.udt_packet.proofs.RangeBytes.{IsPut}
use Rattle.udt_packet.proofs.ranges.NakRanges.put.Given as goal

abbrev pub invariant-loop-first : goal.invariant-loop-first
invariant-loop-first l = IsPut l.initial.into l.into l.place l.end l.left l.self

abbrev pub decreases-loop-first : goal.decreases-loop-first
decreases-loop-first l = length l.left
