-- The ACK offset is that of the first packet that has not arrived.
use Rattle.std.proofs.Common.{◌≡◌, ◌≤◌, ℕ, false, arith, inl, inr}
use Rattle.std.proofs.lemmas.Bool.{false_from_ne_true}
use Rattle.udt_model.specs.ReceiveBlocks.{is_taken}
use Rattle.udt_model.specs.ReceiveHalf.{Receiving}
use Rattle.udt_model.specs.ReceiveReports.{ack_offset}
use Rattle.udt_rcv_loss.specs.Absent.{IsInWindow}
use Rattle.udt_receiver.specs.Gaps.{IsFirstGap}
use Rattle.udt_model.specs.ReceiveOrder.{IsInOrder}
use Rattle.udt_model.proofs.MissingOffsets.{least_is}
use Rattle.udt_receiver.proofs.ListedOffsets.{below_least}

-- it lies from the base to the top
gap_from : (r : Receiving) → IsInOrder r.blocks r.top r.missing → r.blocks.base ≤ ack_offset r
gap_from r o = elim (least_is r.top r.missing) [ inl at ↦ omega (arith, o.base, at) | inr there ↦ o.from (ack_offset r) there ]

gap_to : (r : Receiving) → IsInOrder r.blocks r.top r.missing → ack_offset r ≤ r.top
gap_to r o = elim (least_is r.top r.missing) [ inl at ↦ omega (arith, at) | inr there ↦ omega (arith, o.below (ack_offset r) there) ]

-- and has no block, as all before it have
gap_absent : (r : Receiving) → IsInOrder r.blocks r.top r.missing → is_taken (ack_offset r) r.blocks.placed ≡ false
gap_absent r o = elim (least_is r.top r.missing) [
  | inl at ↦ false_from_ne_true _ (λ taken. omega (arith, o.placed (ack_offset r) taken, at))
  | inr there ↦ o.absent (ack_offset r) there
]

pub first_gap : (r : Receiving) (window : ℕ) → IsInOrder r.blocks r.top r.missing → IsInWindow (record { window = window; missing = r.missing }) → IsFirstGap r (ack_offset r)
first_gap r window o within = record {
  from = gap_from r o;
  to = gap_to r o;
  arrived = λ n from to. o.all n from (omega (arith, gap_to r o, to)) (below_least r.top _ n r.missing within to);
  absent = gap_absent r o;
}
