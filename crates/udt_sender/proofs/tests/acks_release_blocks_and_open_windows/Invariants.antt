-- The payload stays that of the config.
use Rattle.std.proofs.Common.{◌≤◌}
use Rattle.udt_sender.proofs.tests.acks_release_blocks_and_open_windows.Given as goal

abbrev pub invariant-loop-ack : goal.invariant-loop-ack
invariant-loop-ack g l = l.sender.blocks.room ≤ 8
