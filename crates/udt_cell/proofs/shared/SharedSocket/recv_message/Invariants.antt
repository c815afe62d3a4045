use Rattle.std.specs.Prelude.{[], length, Some}
use Rattle.udt_core.specs.Received.{received_in}
use Rattle.udt_model.specs.Events.{RecvMessage, ReceivedMessage, event}
use Rattle.udt_cell.specs.Entries.{entry}
use Rattle.udt_cell.proofs.shared.SharedSocket.recv_message.Given as goal

-- the item is the receive of a message with what was received
abbrev pub ghosts-tell_received_message : goal.ghosts-tell_received_message
ghosts-tell_received_message g a =
    let received = ReceivedMessage (received_in a.answer.now a.into.now) in
    record { item = Some (entry (event a.now (RecvMessage (length a.into.now))) received []) }
