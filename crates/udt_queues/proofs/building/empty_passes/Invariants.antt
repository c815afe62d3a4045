use Rattle.udt_queues.specs.Starting.{AreEmpty}
use Rattle.udt_queues.proofs.building.empty_passes.Given as goal

abbrev pub invariant-loop-j : goal.invariant-loop-j
invariant-loop-j g l = AreEmpty l._j l.passes.items
