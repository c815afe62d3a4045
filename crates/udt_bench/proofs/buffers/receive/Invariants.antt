use Rattle.std.proofs.Common.{◌≡◌}
use Rattle.udt_bench.specs.declared.buffers.TheConstants.{BLOCK}
use Rattle.udt_bench.proofs.buffers.receive.Given as goal

abbrev pub invariant-loop : goal.invariant-loop
invariant-loop g l = l.ring.payload ≡ BLOCK
