use Rattle.std.specs.Prelude.{Some}
use Rattle.udt_net.specs.Networks.{Said}
use Rattle.udt_net.proofs.shared.say.Given as goal

-- the item is what was said
abbrev pub ghosts-tell_said : goal.ghosts-tell_said
ghosts-tell_said g a = record { item = Some (Said a.from a.to a.bytes.now) }
