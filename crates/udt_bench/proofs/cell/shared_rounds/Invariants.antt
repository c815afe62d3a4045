use Rattle.udt_turn.specs.Words.{IsPassOf}
use Rattle.udt_bench.proofs.cell.shared_rounds.Given as goal

-- both passes stay those of the sockets
abbrev pub invariant-loop-k : goal.invariant-loop-k
invariant-loop-k g l = IsPassOf l.a.turn l.first × IsPassOf l.b.turn l.second
