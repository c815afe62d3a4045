use Rattle.std.specs.Prelude.{[], Some}
use Rattle.udt_model.specs.Events.{PortDown, DidPortDown, event}
use Rattle.udt_cell.specs.Entries.{entry}
use Rattle.udt_cell.proofs.shared.SharedSocket.port_down.Given as goal

-- the item is the event with its answer
abbrev pub ghosts-tell_port_down : goal.ghosts-tell_port_down
ghosts-tell_port_down g a = record { item = Some (entry (event a.now PortDown) DidPortDown []) }
