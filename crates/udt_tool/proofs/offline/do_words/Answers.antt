use Rattle.std.proofs.Common.{◌≡◌, ◌∙◌, true, Some, Err, refl, sym, ap}
use Rattle.udt_words.specs.Table.{order_of}
use Rattle.udt_tool.specs.Commands.{spelled, is_command, is_done, is_replay, is_replaying, outcome_of, faulty}
use Rattle.udt_tool.proofs.Orders.{few_words}
use Rattle.udt_tool.proofs.Printing.{lost_command}
use Rattle.udt_tool.proofs.Replaying.{unread_runs, lost_runs}
use Rattle.udt_tool.proofs.Streaming.{read_none}
use Rattle.udt_tool.proofs.offline.do_words.Goals as goal

-- of commands with one word only a replay takes memory
pub returns-in-Ok-clause-memory : goal.returns-in-Ok-clause-memory
returns-in-Ok-clause-memory g c = λ is few.
    let there : order_of (spelled c.args.words.now) ≡ Some c.in-Ok.order = c.in-Ok.ensures.ok in
    let all : is_command (spelled c.args.words.now) ≡ true = ap is_done there ∙ c.do_order.ensures.memory is in
    let replay : is_replay (spelled c.args.words.now) ≡ true = sym (few_words (spelled c.args.words.now) few) ∙ all in
    (replay, c.do_order.ensures.read is (sym (ap is_replaying there) ∙ replay))

-- the words are no command
pub returns-in-Err-Usage-clause-run : goal.returns-in-Err-Usage-clause-run
returns-in-Err-Usage-clause-run g c =
    rw (c.in-Err-Usage.ensures.usage (ap Err c.in-Err-Usage.field-0-is))
    (unread_runs faulty _ _ c.print_usage.result refl refl c.print_usage.ensures.printed c.print_usage.ensures.sink_failed)

-- the words were not read
pub returns-in-Err-OutOfMemory-clause-run : goal.returns-in-Err-OutOfMemory-clause-run
returns-in-Err-OutOfMemory-clause-run g c = lost_runs (outcome_of (spelled c.args.words.now)) _ _ refl (read_none _ _ refl)

pub returns-in-Err-OutOfMemory-clause-printed : goal.returns-in-Err-OutOfMemory-clause-printed
returns-in-Err-OutOfMemory-clause-printed g c = λ _. lost_command (spelled c.args.words.now) (g.K.Sink.taken c.args.out.now)
