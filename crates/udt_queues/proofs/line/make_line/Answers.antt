-- A new queue is empty, and one hand alone may take from it.
use Rattle.udt_queues.proofs.Joins.{begins}
use Rattle.udt_queues.proofs.line.make_line.Goals as goal

pub ruled-requires-clause-rule : goal.ruled-requires-clause-rule
ruled-requires-clause-rule g c = begins
