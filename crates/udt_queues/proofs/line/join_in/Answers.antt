-- A join keeps the rule, and what the hands of both know fits together.
use Rattle.std.proofs.Common.{subst, sym}
use Rattle.udt_queues.specs.Told.{Told}
use Rattle.udt_queues.proofs.Joins.{merges}
use Rattle.udt_queues.proofs.Learning.{learns, told}
use Rattle.udt_queues.proofs.line.join_in.Goals as goal

pub absorb-requires-clause-rule : goal.absorb-requires-clause-rule
absorb-requires-clause-rule g c = merges _ _ _ _

pub learn_as-requires-clause-rule : goal.learn_as-requires-clause-rule
learn_as-requires-clause-rule g c = learns _ _

pub returns-clause-told : goal.returns-clause-told
returns-clause-told g c = subst Told (sym c.learn_as.ensures.queue.1) (told _ c.learn_as.ensures.rule.0 c.learn_as.ensures.rule.1)
