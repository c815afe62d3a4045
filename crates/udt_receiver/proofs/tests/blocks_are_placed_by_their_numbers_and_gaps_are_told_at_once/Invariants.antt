use Rattle.std.proofs.Common.{◌≡◌}
use Rattle.udt_receiver.proofs.tests.blocks_are_placed_by_their_numbers_and_gaps_are_told_at_once.Given as goal

abbrev pub invariant-loop-seq : goal.invariant-loop-seq
invariant-loop-seq g l = l.half.payload ≡ 4
