use Rattle.udt_ring.specs.Rings.{Empties}
use Rattle.udt_ring.proofs.ring.empty.Given as goal

abbrev pub invariant-loop-passed : goal.invariant-loop-passed
invariant-loop-passed g l = Empties l.passed l.head l.first l.at l.fn.places l.places
