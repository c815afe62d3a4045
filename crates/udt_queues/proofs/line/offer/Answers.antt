-- A put keeps the rule.
use Rattle.udt_queues.proofs.Steps.{puts}
use Rattle.udt_queues.proofs.line.offer.Goals as goal

pub try_push_as-requires-clause-rule : goal.try_push_as-requires-clause-rule
try_push_as-requires-clause-rule g c = puts _ _ _ _ c.requires.live
