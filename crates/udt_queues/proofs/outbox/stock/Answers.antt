-- The one hand is there.
use Rattle.udt_queues.proofs.Working.{live, works_stocked}
use Rattle.udt_queues.proofs.outbox.stock.Goals as goal

pub offer-requires-clause-live : goal.offer-requires-clause-live
offer-requires-clause-live c = live _ (works_stocked _ _ c.loop-i.invariant.1)
