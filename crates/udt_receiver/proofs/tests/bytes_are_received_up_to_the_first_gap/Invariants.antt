use Rattle.std.proofs.Common.{◌≡◌}
use Rattle.udt_receiver.proofs.tests.bytes_are_received_up_to_the_first_gap.Given as goal

abbrev pub invariant-loop-seq : goal.invariant-loop-seq
invariant-loop-seq g l = l.half.payload ≡ 4

abbrev pub invariant-loop-bytes : goal.invariant-loop-bytes
invariant-loop-bytes g l = l.half.payload ≡ 4

abbrev pub invariant-loop-seq-2 : goal.invariant-loop-seq-2
invariant-loop-seq-2 g l = l.half.payload ≡ 4
