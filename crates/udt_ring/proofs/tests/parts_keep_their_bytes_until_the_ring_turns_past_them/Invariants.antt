use Rattle.std.proofs.Common.{◌≡◌}
use Rattle.udt_ring.proofs.tests.parts_keep_their_bytes_until_the_ring_turns_past_them.Given as goal

abbrev pub invariant-loop-by : goal.invariant-loop-by
invariant-loop-by g l = l.ring.room ≡ 2
