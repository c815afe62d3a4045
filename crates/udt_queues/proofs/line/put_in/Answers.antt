-- A put keeps the rule, and a full queue is one of which the hands of the pass have their part.
use Rattle.udt_queues.proofs.Steps.{puts}
use Rattle.udt_queues.proofs.Learning.{learns}
use Rattle.udt_queues.proofs.line.put_in.Goals as goal

pub push_as-requires-clause-rule : goal.push_as-requires-clause-rule
push_as-requires-clause-rule g c = (puts _ _ _ _ c.requires.live, learns _ _)
