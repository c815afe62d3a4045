-- Reports leave what was received as it is.
use Rattle.std.proofs.Common.{◌≡◌, ℕ, ◌+◌, true, false, refl, ◌∙◌}
use Rattle.std.specs.Prelude.{Option, Some, None, nat_lt, if◌then◌else◌}
use Rattle.udt_model.specs.declared.sockets.SentAck.{SentAck}
use Rattle.udt_model.specs.Losses.{report, after_report}
use Rattle.udt_model.specs.ReceiveHalf.{Receiving}
use Rattle.udt_model.specs.ReceiveReports.{nak_words, AckOutcome, IsEarly, IsKnown, EmitsAck, ack_outcome, after_ack_outcome, after_ack_timer, after_nak_timer, confirmed_by, after_ack2}
use Rattle.udt_model.specs.Timing.{RoundTrip, period_of, last_under}

-- the blocks and the top of a half are as they were
pub record LeavesReceived (r after : Receiving) : Type 0 where
  pub blocks : after.blocks ≡ r.blocks
  pub top : after.top ≡ r.top

ack-leaves : (r : Receiving) (now : ℕ) (t : AckOutcome) → LeavesReceived r (after_ack_outcome r now t)
ack-leaves r now IsEarly = record { blocks = refl; top = refl }
ack-leaves r now IsKnown = record { blocks = refl; top = refl }
ack-leaves r now (EmitsAck ack) = record { blocks = refl; top = refl }

ack_timer-leaves : (r : Receiving) (now : ℕ) (known : RoundTrip) → LeavesReceived r (after_ack_timer r now known)
unfolding after_ack_timer
ack_timer-leaves r now known = ack-leaves r now (ack_outcome r now known)

nak_timer-leaves : (r : Receiving) (now : ℕ) (known : RoundTrip) → LeavesReceived r (after_nak_timer r now known)
unfolding after_nak_timer
nak_timer-leaves r now known =
    elim (nat_lt now r.nak_due) as (λ early. LeavesReceived r (
    if early
    then r
    else record r { missing = after_report now (report now known.rtt (nak_words r) r.missing) r.missing; nak_due = now + period_of known })) [
      | true ↦ record { blocks = refl; top = refl }
      | false ↦ record { blocks = refl; top = refl }
    ]

-- both timers
pub reports-leave : (r : Receiving) (now : ℕ) (known : RoundTrip) → LeavesReceived r (after_nak_timer (after_ack_timer r now known) now known)
reports-leave r now known =
    let one = ack_timer-leaves r now known in
    let two = nak_timer-leaves (after_ack_timer r now known) now known in
    record { blocks = two.blocks ∙ one.blocks; top = two.top ∙ one.top }

confirmed-leaves : (r : Receiving) (number : ℕ) (found : Option SentAck) → LeavesReceived r (confirmed_by r number found)
confirmed-leaves r number None = record { blocks = refl; top = refl }
confirmed-leaves r number (Some ack) = record { blocks = refl; top = refl }

-- and an ACK2
pub ack2-leaves : (r : Receiving) (number : ℕ) → LeavesReceived r (after_ack2 r number)
unfolding after_ack2
ack2-leaves r number = confirmed-leaves r number (last_under number r.history)
