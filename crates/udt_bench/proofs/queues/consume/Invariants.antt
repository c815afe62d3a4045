use Rattle.std.specs.Prelude.{◌≤◌, length}
use Rattle.udt_queues.specs.declared.buffer.TheConstants.{MOST_BYTES}
use Rattle.udt_queues.specs.Outgoing.{IsOutPassOf}
use Rattle.udt_bench.proofs.queues.consume.Given as goal

-- the pass stays the outbox's, and there is room for each entry
abbrev pub invariant-loop : goal.invariant-loop
invariant-loop g l = IsOutPassOf l.outbox l.pass × (MOST_BYTES ≤ length l.into.items)
