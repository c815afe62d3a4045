use Rattle.std.proofs.Common.{◌≡◌}
use Rattle.udt_receiver.proofs.tests.acks_are_emitted_until_one_is_confirmed.Given as goal

abbrev pub invariant-loop-now : goal.invariant-loop-now
invariant-loop-now g l = l.half.payload ≡ 4

abbrev pub invariant-loop-number : goal.invariant-loop-number
invariant-loop-number g l = l.half.payload ≡ 4
