use Rattle.std.specs.Prelude.{[], Some}
use Rattle.udt_model.specs.Events.{Meet, DidMeet, event}
use Rattle.udt_cell.specs.Entries.{entry}
use Rattle.udt_cell.proofs.shared.SharedSocket.meet.Given as goal

-- the item is the event with its answer
abbrev pub ghosts-tell_meet : goal.ghosts-tell_meet
ghosts-tell_meet g a = record { item = Some (entry (event a.now (Meet a.to)) (DidMeet a.answer.now) []) }
