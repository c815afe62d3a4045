-- The words of the first range are put at the place, and those of the others are left.
use Rattle.std.proofs.Common.{refl, arith}
use Rattle.udt_packet.proofs.RangeBytes.{puts, put-fits, put-end, put-all}
use Rattle.udt_packet.proofs.ranges.NakRanges.put.Goals as goal

pub put_range-end-requires-clause-room : goal.put_range-end-requires-clause-room
put_range-end-requires-clause-room c =
    put-fits _ _ _ _ _ _ _ _ _ c.in-Some.ensures.some refl (omega arith) c.loop-first.invariant

pub loop-first-preserved : goal.loop-first-preserved
loop-first-preserved c =
    puts _ _ _ _ _ _ _ _ _ _ _ c.in-Some.ensures.some refl (omega arith) c.put_range-end.ensures.value c.put_range-end.ensures.after c.loop-first.invariant

pub returns-clause-value : goal.returns-clause-value
returns-clause-value c = put-end _ _ _ _ _ _ c.in_default.ensures.none.0 c.loop-first.invariant

pub returns-clause-after : goal.returns-clause-after
returns-clause-after c = put-all _ _ _ _ _ _ c.in_default.ensures.none.0 c.loop-first.invariant
