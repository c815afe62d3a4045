use Rattle.std.proofs.Common.{◌≡◌}
use Rattle.udt_rcv_buffer.proofs.tests.messages_are_shown_whole_and_bytes_in_order.Given as goal

abbrev pub invariant-loop-offset : goal.invariant-loop-offset
invariant-loop-offset g l = l.buffer.payload ≡ 9
