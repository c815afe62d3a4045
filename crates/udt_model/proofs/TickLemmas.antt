-- What the EXP timer does, and what the ACK timer emits.
use Rattle.std.proofs.Common.{◌≡◌, ℕ, ◌≤◌, Bool, true, false, refl}
use Rattle.std.specs.Prelude.{nat_lt, if◌then◌else◌}
use Rattle.std.proofs.lemmas.Bool.{ltb-false}
use Rattle.udt_model.specs.declared.sockets.SentAck.{SentAck}
use Rattle.udt_model.specs.ReceiveHalf.{Receiving}
use Rattle.udt_model.specs.ReceiveReports.{ack_offset, number_after, IsEarly, IsKnown, EmitsAck, ack_outcome}
use Rattle.udt_model.specs.Timing.{RoundTrip}

-- what is emitted names the offset before which all has arrived, at that moment, with the next number
pub record IsTold (r : Receiving) (now : ℕ) (ack : SentAck) : Type 0 where
  pub due : r.ack_due ≤ now
  pub number : ack.number ≡ number_after r.last_ack
  pub offset : ack.offset ≡ ack_offset r
  pub moment : ack.moment ≡ now

tells-due : (r : Receiving) (now : ℕ) (early known : Bool) (ack : SentAck) → nat_lt now r.ack_due ≡ early
    → (if early then IsEarly else (if known then IsKnown else EmitsAck (record { number = number_after r.last_ack; offset = ack_offset r; moment = now }))) ≡ EmitsAck ack
    → IsTold r now ack
tells-due r now true known ack test is = absurd (cc)
tells-due r now false true ack test is = absurd (cc)
tells-due r now false false ack test is = record {
  due = ltb-false now r.ack_due test;
  number = cc;
  offset = cc;
  moment = cc;
}

pub ack_outcome-tells : (r : Receiving) (now : ℕ) (known : RoundTrip) (ack : SentAck) → ack_outcome r now known ≡ EmitsAck ack → IsTold r now ack
unfolding ack_outcome
ack_outcome-tells r now known ack is = tells-due r now _ _ ack refl is
