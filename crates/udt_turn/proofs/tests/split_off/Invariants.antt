use Rattle.udt_turn.specs.Words.{IsPassOf}
use Rattle.udt_turn.proofs.tests.split_off.Given as goal

-- the pass stays the turn's
abbrev pub invariant-loop : goal.invariant-loop
invariant-loop l = IsPassOf l.turn l.pass
