use Rattle.std.proofs.Common.{◌≡◌, ◌≤◌, vec_len, vec_capacity}
use Rattle.udt_net.proofs.network.buffers.Given as goal

-- one buffer a round
abbrev pub invariant-loop : goal.invariant-loop
invariant-loop l = (vec_len l.spares ≡ l.counter) × (8192 ≤ vec_capacity l.spares)
