use Rattle.std.proofs.Common.{◌≡◌, replicate}
use Rattle.std.specs.VecDeque.{deque_len}
use Rattle.udt_outside.proofs.memory.port_out.places_for.Given as goal

abbrev pub invariant-loop-i : goal.invariant-loop-i
invariant-loop-i l = (l.places.items ≡ replicate l.i l.longest) × (deque_len l.places ≡ l.i)
