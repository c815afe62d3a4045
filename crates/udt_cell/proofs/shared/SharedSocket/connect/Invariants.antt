use Rattle.std.specs.Prelude.{[], Some}
use Rattle.udt_model.specs.Events.{Connect, DidConnect, event}
use Rattle.udt_cell.specs.Entries.{entry}
use Rattle.udt_cell.proofs.shared.SharedSocket.connect.Given as goal

-- the item is the event with its answer
abbrev pub ghosts-tell_connect : goal.ghosts-tell_connect
ghosts-tell_connect g a = record { item = Some (entry (event a.now (Connect a.to)) (DidConnect a.answer.now) []) }
