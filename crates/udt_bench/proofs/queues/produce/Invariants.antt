use Rattle.udt_queues.specs.Outgoing.{IsOutPassOf}
use Rattle.udt_bench.proofs.queues.produce.Given as goal

-- the pass stays the outbox's
abbrev pub invariant-loop-number : goal.invariant-loop-number
invariant-loop-number g l = IsOutPassOf l.outbox l.pass
