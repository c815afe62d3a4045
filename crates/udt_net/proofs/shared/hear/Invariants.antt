use Rattle.std.specs.Prelude.{Some, take}
use Rattle.udt_net.specs.Networks.{Heard}
use Rattle.udt_net.proofs.shared.hear.Given as goal

-- the item is what was heard
abbrev pub ghosts-tell_heard : goal.ghosts-tell_heard
ghosts-tell_heard g a = record { item = Some (Heard a.at (record { addr = a.from; bytes = take a.len a.into.now })) }
