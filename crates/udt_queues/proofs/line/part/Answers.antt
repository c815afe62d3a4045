-- A split keeps the rule.
use Rattle.udt_queues.proofs.Splits.{forks}
use Rattle.udt_queues.proofs.line.part.Goals as goal

pub another-requires-clause-rule : goal.another-requires-clause-rule
another-requires-clause-rule g c = forks _ _ c.requires.live
