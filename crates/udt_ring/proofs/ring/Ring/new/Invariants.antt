use Rattle.std.proofs.Common.{◌≡◌}
use Rattle.udt_ring.proofs.SlotLemmas.{fresh}
use Rattle.udt_ring.proofs.ring.Ring.new.Given as goal

abbrev pub invariant-loop-slot : goal.invariant-loop-slot
invariant-loop-slot g l = l.places.items ≡ fresh l.head l.slot
