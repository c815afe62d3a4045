use Rattle.std.proofs.Common.{length}
use Rattle.udt_tool.proofs.Progress.{Progress}
use Rattle.udt_tool.proofs.play.play.Given as goal

abbrev pub invariant-loop-rest : goal.invariant-loop-rest
invariant-loop-rest g l = Progress g.C.Control.ways l.text l.world l.out.items l.rest l.number l.size

abbrev pub decreases-loop-rest : goal.decreases-loop-rest
decreases-loop-rest g l = length l.rest
