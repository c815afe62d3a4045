use Rattle.std.specs.Prelude.{[], length, Some}
use Rattle.udt_core.specs.Received.{received_in}
use Rattle.udt_model.specs.Events.{Recv, Received, event}
use Rattle.udt_cell.specs.Entries.{entry}
use Rattle.udt_cell.proofs.shared.SharedSocket.recv.Given as goal

-- the item is the receive with what was received
abbrev pub ghosts-tell_received : goal.ghosts-tell_received
ghosts-tell_received g a =
    let received = Received (received_in a.answer.now a.into.now) in
    record { item = Some (entry (event a.now (Recv (length a.into.now))) received []) }
