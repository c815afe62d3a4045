use Rattle.std.specs.Prelude.{[], Some}
use Rattle.udt_model.specs.Events.{Measure, DidMeasure, event}
use Rattle.udt_cell.specs.Entries.{entry}
use Rattle.udt_cell.proofs.shared.SharedSocket.perf.Given as goal

-- the item is the measurement with what was measured
abbrev pub ghosts-tell_measured : goal.ghosts-tell_measured
ghosts-tell_measured g a = record { item = Some (entry (event a.now Measure) (DidMeasure a.perf) []) }
