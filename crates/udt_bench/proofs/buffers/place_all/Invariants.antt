use Rattle.std.proofs.Common.{◌≡◌}
use Rattle.udt_bench.specs.declared.buffers.TheConstants.{BLOCK}
use Rattle.udt_bench.proofs.buffers.place_all.Given as goal

abbrev pub invariant-loop-block : goal.invariant-loop-block
invariant-loop-block l = l.ring.payload ≡ BLOCK
