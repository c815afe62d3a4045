use Rattle.udt_turn.specs.Words.{IsPassOf}
use Rattle.udt_bench.proofs.turns.one.Given as goal

-- the pass stays the turn's
abbrev pub invariant-loop : goal.invariant-loop
invariant-loop g l = IsPassOf l.turn l.pass
