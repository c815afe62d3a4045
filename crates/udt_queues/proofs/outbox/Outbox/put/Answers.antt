-- Its own hands go on working, and keep their names.
use Rattle.std.proofs.Common.{ap, ◌∙◌}
use Rattle.udt_queues.specs.Outgoing.{names_of}
use Rattle.udt_queues.proofs.Working.{live, works_puts, works_takes, names_puts, names_takes, works_same}
use Rattle.udt_queues.proofs.outbox.Outbox.put.Goals as goal

pub put_again-requires-clause-live : goal.put_again-requires-clause-live
put_again-requires-clause-live g c = live _ (works_takes _ _ _ c.requires.own.stocks c.in-Some.ensures.some)

pub returns-in-Ok-clause-own : goal.returns-in-Ok-clause-own
returns-in-Ok-clause-own g c = record {
  filled = c.put_in.ensures.own;
  spare = c.take_out.ensures.own;
  puts = works_puts _ _ _ c.requires.own.puts c.in-Ok.ensures.ok;
  stocks = works_takes _ _ _ c.requires.own.stocks c.in-Some.ensures.some;
}

pub returns-in-Ok-clause-names : goal.returns-in-Ok-clause-names
returns-in-Ok-clause-names g c = (names_puts _ _ _ c.in-Ok.ensures.ok, names_takes _ _ _ c.in-Some.ensures.some)

pub returns-in-Err-clause-own : goal.returns-in-Err-clause-own
returns-in-Err-clause-own g c = record {
  filled = c.put_in.ensures.own;
  spare = c.put_again.ensures.own;
  puts = works_same _ _ c.in-Err.ensures.err c.requires.own.puts;
  stocks = works_puts _ _ _ (works_takes _ _ _ c.requires.own.stocks c.in-Some.ensures.some) c.put_again.ensures.put;
}

pub returns-in-Err-clause-names : goal.returns-in-Err-clause-names
returns-in-Err-clause-names g c = (ap names_of c.in-Err.ensures.err, names_puts _ _ _ c.put_again.ensures.put ∙ names_takes _ _ _ c.in-Some.ensures.some)
