-- The payload stays that of the config.
use Rattle.std.proofs.Common.{◌≤◌}
use Rattle.udt_sender.proofs.tests.messages_are_taken_whole_and_dropped_once_expired.Given as goal

abbrev pub invariant-loop-bytes : goal.invariant-loop-bytes
invariant-loop-bytes g l = l.sender.blocks.room ≤ 8
