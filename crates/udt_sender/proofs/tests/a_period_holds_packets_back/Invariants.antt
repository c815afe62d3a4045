-- The payload stays that of the config.
use Rattle.std.proofs.Common.{◌≤◌}
use Rattle.udt_sender.proofs.tests.a_period_holds_packets_back.Given as goal

abbrev pub invariant-loop-now : goal.invariant-loop-now
invariant-loop-now g l = l.sender.blocks.room ≤ 8
