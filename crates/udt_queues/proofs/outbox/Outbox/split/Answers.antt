-- Both passes have hands of their own that may take.
use Rattle.udt_queues.proofs.Working.{works_parted, works_part}
use Rattle.udt_queues.proofs.outbox.Outbox.split.Goals as goal

pub returns-clause-own : goal.returns-clause-own
returns-clause-own c = record {
  filled = c.part-filled.ensures.own;
  spare = c.part-spare.ensures.own;
  puts = works_parted _ _ c.part-filled.ensures.kept c.requires.puts;
  stocks = works_parted _ _ c.part-spare.ensures.kept c.requires.stocks;
}

pub returns-clause-new_own : goal.returns-clause-new_own
returns-clause-new_own c = record {
  filled = c.part-filled.ensures.new_own;
  spare = c.part-spare.ensures.new_own;
  puts = works_part _ _ c.part-filled.ensures.new c.requires.puts;
  stocks = works_part _ _ c.part-spare.ensures.new c.requires.stocks;
}
