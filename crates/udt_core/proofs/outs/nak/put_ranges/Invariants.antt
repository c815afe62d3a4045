-- What was written and what is left make the whole.
use Rattle.std.proofs.Common.{drop, map}
use Rattle.udt_packet.proofs.RangeBytes.{IsPut}
use Rattle.udt_core.specs.Emitted.{numbers_from}
use Rattle.udt_core.proofs.outs.nak.put_ranges.Given as goal

abbrev pub invariant-loop-i : goal.invariant-loop-i
invariant-loop-i l =
    IsPut l.initial.into l.into l.place l.end (map (numbers_from l.isn) (drop l.i l.ranges.ranges)) (map (numbers_from l.isn) l.ranges.ranges)
