use Rattle.std.specs.Prelude.{Some}
use Rattle.udt_bench.proofs.turns.event.Given as goal

-- each event is one item, of which nothing is said
abbrev pub ghosts-tell : goal.ghosts-tell
ghosts-tell g a = record { item = Some tt }
