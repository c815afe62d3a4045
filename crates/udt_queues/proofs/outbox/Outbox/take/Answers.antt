-- Its own hands go on working, and keep their names.
use Rattle.udt_queues.proofs.Working.{works_puts, works_takes, names_puts, names_takes}
use Rattle.udt_queues.proofs.outbox.Outbox.take.Goals as goal

pub returns-clause-own : goal.returns-clause-own
returns-clause-own g c = record {
  filled = c.take_out.ensures.own;
  spare = c.put_again.ensures.own;
  puts = works_takes _ _ _ c.requires.own.puts c.in-Some.ensures.some;
  stocks = works_puts _ _ _ c.requires.own.stocks c.put_again.ensures.put;
}

pub returns-clause-names : goal.returns-clause-names
returns-clause-names g c = (names_takes _ _ _ c.in-Some.ensures.some, names_puts _ _ _ c.put_again.ensures.put)
