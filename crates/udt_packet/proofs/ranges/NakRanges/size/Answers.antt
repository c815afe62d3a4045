-- The bytes of the first range are counted, and those of the others are left.
use Rattle.udt_packet.proofs.RangeBytes.{counts, counted}
use Rattle.udt_packet.proofs.ranges.NakRanges.size.Goals as goal

pub loop-first-preserved : goal.loop-first-preserved
loop-first-preserved c = counts _ _ _ _ _ _ c.in-Some.ensures.some c.size_of_range-size.ensures.value c.loop-first.invariant

pub returns-clause-value : goal.returns-clause-value
returns-clause-value c = counted _ _ _ c.in_default.ensures.none.0 c.loop-first.invariant
