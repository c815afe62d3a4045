use Rattle.std.proofs.Common.{vec_len}
use Rattle.udt_queues.specs.Starting.{Adds}
use Rattle.udt_queues.proofs.Zips.{Zipped}
use Rattle.udt_queues.proofs.building.hand_out.Given as goal

abbrev pub invariant-loop-lane : goal.invariant-loop-lane
invariant-loop-lane g l = Zipped Adds l.fn.passes.items l.fn.column.items l.passes.items l.left.items

abbrev pub decreases-loop-lane : goal.decreases-loop-lane
decreases-loop-lane g l = vec_len l.left
