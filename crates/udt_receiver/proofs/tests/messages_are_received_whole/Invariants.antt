use Rattle.std.proofs.Common.{◌≡◌}
use Rattle.udt_receiver.proofs.tests.messages_are_received_whole.Given as goal

abbrev pub invariant-loop-seq : goal.invariant-loop-seq
invariant-loop-seq g l = l.half.payload ≡ 4
