use Rattle.std.proofs.Common.{◌≡◌}
use Rattle.udt_receiver.proofs.tests.each_64th_block_asks_for_a_light_ack.Given as goal

abbrev pub invariant-loop-seq : goal.invariant-loop-seq
invariant-loop-seq g l = l.half.payload ≡ 4

abbrev pub invariant-loop-seq-2 : goal.invariant-loop-seq-2
invariant-loop-seq-2 g l = l.half.payload ≡ 4
