use Rattle.udt_turn.specs.Words.{IsPassOf}
use Rattle.udt_cell.proofs.tests.split_off.Given as goal

-- the pass stays the socket's
abbrev pub invariant-loop : goal.invariant-loop
invariant-loop l = IsPassOf l.socket.turn l.pass
