use Rattle.std.proofs.Common.{◌≡◌}
use Rattle.udt_rcv_loss.proofs.tests.losses_are_reported_again_ever_later.Given as goal

abbrev pub invariant-loop-now : goal.invariant-loop-now
invariant-loop-now g l = l.into.words ≡ 4
