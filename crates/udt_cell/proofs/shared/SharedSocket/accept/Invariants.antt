use Rattle.std.specs.Prelude.{[], Some}
use Rattle.udt_model.specs.Events.{Accept, Accepted, event}
use Rattle.udt_cell.specs.Entries.{entry}
use Rattle.udt_cell.proofs.shared.SharedSocket.accept.Given as goal

-- the item is the event with its answer
abbrev pub ghosts-tell_accept : goal.ghosts-tell_accept
ghosts-tell_accept g a = record { item = Some (entry (event a.now Accept) (Accepted a.answer.now) []) }
