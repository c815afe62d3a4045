use Rattle.std.specs.Prelude.{[], Some}
use Rattle.udt_model.specs.Events.{Close, DidClose, event}
use Rattle.udt_cell.specs.Entries.{entry}
use Rattle.udt_cell.proofs.shared.SharedSocket.close.Given as goal

-- the item is the close
abbrev pub ghosts-tell_closed : goal.ghosts-tell_closed
ghosts-tell_closed g a = record { item = Some (entry (event a.now Close) DidClose []) }
