-- A take keeps the rule, and an empty queue is one of which the hands of the pass have their part.
use Rattle.udt_queues.proofs.Steps.{takes}
use Rattle.udt_queues.proofs.Learning.{learns, empty_told, empty_emptied}
use Rattle.udt_queues.proofs.line.take_out.Goals as goal

pub pop_as-requires-clause-rule : goal.pop_as-requires-clause-rule
pop_as-requires-clause-rule g c = (takes _ _ c.requires.works, learns _ _)

pub returns-in-None-clause-told : goal.returns-in-None-clause-told
returns-in-None-clause-told g c = empty_told _ _ c.in-None.ensures.rule.0 c.in-None.ensures.rule.1

pub returns-in-None-clause-emptied : goal.returns-in-None-clause-emptied
returns-in-None-clause-emptied g c = empty_emptied _ _ c.in-None.ensures.rule.0 c.in-None.ensures.rule.1
