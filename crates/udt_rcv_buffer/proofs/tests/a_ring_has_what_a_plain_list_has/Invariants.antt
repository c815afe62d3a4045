use Rattle.std.proofs.Common.{◌≡◌}
use Rattle.udt_rcv_buffer.proofs.tests.a_ring_has_what_a_plain_list_has.Given as goal

abbrev pub invariant-loop-step : goal.invariant-loop-step
invariant-loop-step g l = l.ring.payload ≡ 3
