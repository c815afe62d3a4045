use Rattle.udt_queues.specs.Outgoing.{IsOutPassOf}
use Rattle.udt_queues.proofs.tests.put_some.Given as goal

abbrev pub invariant-loop-i : goal.invariant-loop-i
invariant-loop-i g l = IsOutPassOf l.outbox l.pass
