use Rattle.std.specs.Prelude.{[], Some}
use Rattle.udt_model.specs.Events.{SendMessage, SentMessage, event}
use Rattle.udt_cell.specs.Entries.{entry}
use Rattle.udt_cell.proofs.shared.SharedSocket.send_message.Given as goal

-- the item is the send of the message with its answer
abbrev pub ghosts-tell_sent_message : goal.ghosts-tell_sent_message
ghosts-tell_sent_message g a =
    record { item = Some (entry (event a.now (SendMessage a.ttl a.order a.bytes.now)) (SentMessage a.answer.now) []) }
