use Rattle.std.proofs.Common.{◌≡◌}
use Rattle.udt_receiver.proofs.tests.packet_pairs_measure_the_link.Given as goal

abbrev pub invariant-loop-seq : goal.invariant-loop-seq
invariant-loop-seq g l = l.half.payload ≡ 4
