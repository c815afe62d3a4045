use Rattle.std.proofs.Common.{◌≡◌, length}
use Rattle.udt_bench.proofs.loss.finish.Given as goal

abbrev pub invariant-finish : goal.invariant-finish
invariant-finish l = l.rcv.window ≡ l.fn.rcv.window

abbrev pub decreases-finish : goal.decreases-finish
decreases-finish l = length l.rcv.missing
