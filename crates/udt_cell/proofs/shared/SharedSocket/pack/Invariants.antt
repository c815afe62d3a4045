use Rattle.std.specs.Prelude.{Some}
use Rattle.udt_model.specs.Events.{Pack, DidPack, event}
use Rattle.udt_cell.specs.Entries.{entry}
use Rattle.udt_cell.proofs.shared.SharedSocket.pack.Given as goal

-- the item is the packing with what it emitted
abbrev pub ghosts-tell_packed : goal.ghosts-tell_packed
ghosts-tell_packed g a = record { item = Some (entry (event a.now Pack) (DidPack a.packed) a.outs.now) }
