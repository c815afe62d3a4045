-- What is kept stays.
use Rattle.std.proofs.Common.{◌≡◌}
use Rattle.udt_sender.proofs.tests.leave.Given as goal

abbrev pub invariant-loop-number : goal.invariant-loop-number
invariant-loop-number g l = l.sender.blocks ≡ l.initial.sender.blocks
