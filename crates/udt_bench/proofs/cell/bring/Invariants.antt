use Rattle.udt_turn.specs.Words.{IsPassOf}
use Rattle.udt_bench.proofs.cell.bring.Given as goal

-- the pass stays the socket's
abbrev pub invariant-loop-i : goal.invariant-loop-i
invariant-loop-i g l = IsPassOf l.socket.turn l.pass
