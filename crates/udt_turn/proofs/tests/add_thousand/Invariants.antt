use Rattle.udt_turn.specs.Words.{IsPassOf}
use Rattle.udt_turn.proofs.tests.add_thousand.Given as goal

-- the pass stays the turn's
abbrev pub invariant-loop-n : goal.invariant-loop-n
invariant-loop-n g l = IsPassOf l.turn l.pass
