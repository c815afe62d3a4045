-- The first hand may take.
use Rattle.std.proofs.Common.{refl, sym, subst}
use Rattle.udt_queues.specs.Lines.{Works}
use Rattle.udt_queues.proofs.Working.{works_stocked}
use Rattle.udt_queues.proofs.outbox.Outbox.make.Goals as goal

pub returns-clause-own : goal.returns-clause-own
returns-clause-own c = record {
  filled = c.in_ok-filled.ensures.own;
  spare = c.stock.ensures.own;
  puts = subst Works (sym c.in_ok-filled.ensures.first) refl;
  stocks = works_stocked _ _ c.in_ok-stock.ensures.ok;
}
