use Rattle.std.proofs.Common.{◌≤◌, length}
use Rattle.udt_queues.specs.declared.buffer.TheConstants.{MOST_BYTES}
use Rattle.udt_queues.specs.Outgoing.{IsOutPassOf}
use Rattle.udt_queues.proofs.tests.take_some.Given as goal

abbrev pub invariant-loop-i : goal.invariant-loop-i
invariant-loop-i g l = IsOutPassOf l.outbox l.pass × (MOST_BYTES ≤ length l.into)
