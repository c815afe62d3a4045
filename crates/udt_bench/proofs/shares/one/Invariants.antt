use Rattle.udt_turn.specs.Words.{IsPassOf}
use Rattle.udt_bench.proofs.shares.one.Given as goal

-- the pass stays the socket's
abbrev pub invariant-loop : goal.invariant-loop
invariant-loop g l = IsPassOf l.socket.turn l.pass
