use Rattle.std.proofs.Common.{[]}
use Rattle.std.specs.Vec.Iter.{into_iter_items}
use Rattle.udt_tool.proofs.Printing.{lost_command}
use Rattle.udt.specs.Arguments.{command_of}
use Rattle.udt.proofs.Arguments.{each_ok, each_err}
use Rattle.udt.proofs.run.run.Goals as goal

-- memory ran out before the words were known
pub returns-in-Err-words-clause-printed : goal.returns-in-Err-words-clause-printed
returns-in-Err-words-clause-printed g c =
    rw c.from-in-Err-words.ensures
    (each_ok c.args.args _ (λ given _. lost_command (command_of (into_iter_items given)) (g.K.Sink.taken c.args.out.now)))

pub returns-in-Err-words-clause-no_words : goal.returns-in-Err-words-clause-no_words
returns-in-Err-words-clause-no_words g c =
    rw c.from-in-Err-words.ensures (each_err c.args.args _ (lost_command [] (g.K.Sink.taken c.args.out.now)))
