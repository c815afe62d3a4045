use Rattle.udt_queues.specs.Outgoing.{IsOutPassOf}
use Rattle.udt_queues.proofs.tests.put_by_turns.Given as goal

abbrev pub invariant-loop : goal.invariant-loop
invariant-loop g l = IsOutPassOf l.outbox l.pass
