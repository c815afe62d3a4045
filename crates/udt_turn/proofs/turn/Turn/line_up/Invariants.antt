use Rattle.std.proofs.Common.{◌≡◌}
use Rattle.udt_turn.proofs.turn.Turn.line_up.Given as goal

-- nothing changes while no ticket is drawn
abbrev pub invariant-loop-round : goal.invariant-loop-round
invariant-loop-round g l = (l.seat.table_id ≡ l.fn.seat.table_id) × (l.seat.id ≡ l.fn.seat.id) × (l.seat.me ≡ l.fn.seat.me)
