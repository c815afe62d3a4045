use Rattle.udt_queues.specs.Outgoing.{IsOutPassOf}
use Rattle.udt_bench.proofs.queues.put.Given as goal

-- the pass stays the outbox's
abbrev pub invariant-loop : goal.invariant-loop
invariant-loop g l = IsOutPassOf l.outbox l.pass
