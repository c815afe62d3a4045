use Rattle.std.proofs.Common.{◌≡◌, vec_len, vec_capacity}
use Rattle.udt_queues.proofs.schedule.Schedule.new.Given as goal

abbrev pub invariant-loop-i : goal.invariant-loop-i
invariant-loop-i l = (vec_len l.stock ≡ l._i) × (vec_capacity l.stock ≡ l.live)
