use Rattle.crossbeam_queue.specs.Passes.{IsPassOf, view}
use Rattle.udt_queues.specs.Outgoing.{Stocked}
use Rattle.udt_queues.proofs.outbox.stock.Given as goal

abbrev pub invariant-loop-i : goal.invariant-loop-i
invariant-loop-i l = IsPassOf l.line l.pass × Stocked l._i (view l.pass)
