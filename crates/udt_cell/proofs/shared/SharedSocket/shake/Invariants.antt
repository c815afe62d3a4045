use Rattle.std.specs.Prelude.{[], Some}
use Rattle.udt_model.specs.Events.{Shake, DidShake, event}
use Rattle.udt_cell.specs.Entries.{entry}
use Rattle.udt_cell.proofs.shared.SharedSocket.shake.Given as goal

-- the item is the event with its answer
abbrev pub ghosts-tell_shake : goal.ghosts-tell_shake
ghosts-tell_shake g a = record { item = Some (entry (event a.now Shake) (DidShake a.answer) []) }
