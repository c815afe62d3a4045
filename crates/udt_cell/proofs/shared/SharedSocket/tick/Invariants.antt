use Rattle.std.specs.Prelude.{Some}
use Rattle.udt_model.specs.Events.{Tick, DidTick, event}
use Rattle.udt_cell.specs.Entries.{entry}
use Rattle.udt_cell.proofs.shared.SharedSocket.tick.Given as goal

-- the item is the tick with what it emitted
abbrev pub ghosts-tell_ticked : goal.ghosts-tell_ticked
ghosts-tell_ticked g a = record { item = Some (entry (event a.now Tick) DidTick a.outs.now) }
