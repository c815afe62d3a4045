-- Its own hands stay those of the pass that stays.
use Rattle.udt_queues.proofs.Working.{works_both}
use Rattle.udt_queues.proofs.outbox.Outbox.join.Goals as goal

pub returns-clause-own : goal.returns-clause-own
returns-clause-own c = record {
  filled = c.join_in.ensures.own;
  spare = c.join_in-2.ensures.own;
  puts = works_both _ _ _ c.join_in.ensures.both c.requires.own.puts;
  stocks = works_both _ _ _ c.join_in-2.ensures.both c.requires.own.stocks;
}
