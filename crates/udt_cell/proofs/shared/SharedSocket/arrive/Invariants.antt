use Rattle.std.specs.Prelude.{Some}
use Rattle.udt_model.specs.Events.{Arrive, DidHear, event}
use Rattle.udt_cell.specs.Entries.{entry}
use Rattle.udt_cell.proofs.shared.SharedSocket.arrive.Given as goal

-- the item is the arrival with what was heard
abbrev pub ghosts-tell_heard : goal.ghosts-tell_heard
ghosts-tell_heard g a = record { item = Some (entry (event a.now (Arrive a.from a.bytes.now)) (DidHear a.heard) a.outs.now) }
