use Rattle.std.specs.Prelude.{[], Some}
use Rattle.udt_model.specs.Events.{Send, Sent, event}
use Rattle.udt_cell.specs.Entries.{entry}
use Rattle.udt_cell.proofs.shared.SharedSocket.send.Given as goal

-- the item is the send with its answer
abbrev pub ghosts-tell_sent : goal.ghosts-tell_sent
ghosts-tell_sent g a = record { item = Some (entry (event a.now (Send a.bytes.now)) (Sent a.answer.now) []) }
