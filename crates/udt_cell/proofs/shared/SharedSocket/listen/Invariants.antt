use Rattle.std.specs.Prelude.{[], Some}
use Rattle.udt_model.specs.Events.{Listen, DidListen, event}
use Rattle.udt_cell.specs.Entries.{entry}
use Rattle.udt_cell.proofs.shared.SharedSocket.listen.Given as goal

-- the item is the event with its answer
abbrev pub ghosts-tell_listen : goal.ghosts-tell_listen
ghosts-tell_listen g a = record { item = Some (entry (event a.now (Listen a.backlog a.secret)) (DidListen a.answer.now) []) }
