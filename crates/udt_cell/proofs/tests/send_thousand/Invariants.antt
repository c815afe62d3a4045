use Rattle.udt_turn.specs.Words.{IsPassOf}
use Rattle.udt_cell.proofs.tests.send_thousand.Given as goal

-- the pass stays the socket's
abbrev pub invariant-loop-now : goal.invariant-loop-now
invariant-loop-now g l = IsPassOf l.socket.turn l.pass
