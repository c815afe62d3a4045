use Rattle.udt_turn.specs.Words.{IsPassOf}
use Rattle.udt_cell.proofs.tests.carry_thousand.Given as goal

-- both passes stay those of the sockets
abbrev pub invariant-loop-round : goal.invariant-loop-round
invariant-loop-round g l = IsPassOf l.a.turn l.carried.first × IsPassOf l.b.turn l.carried.second
