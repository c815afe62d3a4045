use Rattle.udt_queues.specs.Starting.{AreBuilt}
use Rattle.udt_queues.proofs.building.attach_lists.Given as goal

abbrev pub invariant-loop-i : goal.invariant-loop-i
invariant-loop-i g l = AreBuilt l.takers l.places l.i l.passes.items
