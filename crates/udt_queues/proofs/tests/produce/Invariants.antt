use Rattle.udt_queues.specs.Outgoing.{IsOutPassOf}
use Rattle.udt_queues.proofs.tests.produce.Given as goal

abbrev pub invariant-loop-entry : goal.invariant-loop-entry
invariant-loop-entry g l = IsOutPassOf l.outbox l.pass
