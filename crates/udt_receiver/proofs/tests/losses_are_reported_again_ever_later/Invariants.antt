use Rattle.std.proofs.Common.{◌≡◌}
use Rattle.udt_receiver.proofs.tests.losses_are_reported_again_ever_later.Given as goal

abbrev pub invariant-loop-now : goal.invariant-loop-now
invariant-loop-now g l = record { payload : l.half.payload ≡ 4; words : l.into.words ≡ 2 }
