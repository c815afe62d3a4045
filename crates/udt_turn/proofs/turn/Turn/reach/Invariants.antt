use Rattle.std.proofs.Common.{◌≡◌}
use Rattle.udt_turn.proofs.turn.Turn.reach.Given as goal

-- nothing changes while another ticket is served
abbrev pub invariant-loop : goal.invariant-loop
invariant-loop g l = (l.seat.table_id ≡ l.fn.seat.table_id) × (l.seat.id ≡ l.fn.seat.id) × (l.seat.me ≡ l.fn.seat.me)
