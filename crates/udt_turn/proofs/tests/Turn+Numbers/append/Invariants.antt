use Rattle.std.specs.Prelude.{Some}
use Rattle.udt_turn.proofs.tests.Turn+Numbers.append.Given as goal

-- the item is the number
abbrev pub ghosts-tell : goal.ghosts-tell
ghosts-tell g a = record { item = Some a.n }
