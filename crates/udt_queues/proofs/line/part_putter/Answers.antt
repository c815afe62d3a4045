-- A split keeps the rule.
use Rattle.udt_queues.proofs.Splits.{forks_putter}
use Rattle.udt_queues.proofs.line.part_putter.Goals as goal

pub another-requires-clause-rule : goal.another-requires-clause-rule
another-requires-clause-rule g c = forks_putter _ _ c.requires.live
