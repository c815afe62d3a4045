-- What the calls of the native control do to its speed.
use Rattle.std.proofs.Common.{◌≡◌, ℕ, ◌+◌, ◌-◌, ◌<◌, ◌≤◌, Bool, true, false, List, [], ◌∷◌, Some, refl, sym, subst, cond, arith}
use Rattle.std.specs.Prelude.{nat_le}
use Rattle.std.proofs.lemmas.Bool.{cond_both, ltb-true}
use Rattle.udt_model.specs.Rate.{Feedback, Call, OnAck, OnNak, OnTimeout, after_call, after_calls, IsAllowed, AreAllowed, is_new_loss, Pacing, opened, ended, slowed_down, acknowledged, reported, after_nak, native, increase_of, IsPaced, IsNoFaster, LossNeverSpeedsUp, AckNeverLengthensPeriod, SlowStartNeverShrinks, IsSlowedBy, OneDecreaseAFlight}
use Rattle.udt_rate.specs.PacedStates.{shorter_is_no_longer}

-- ---- faster and slower

-- the end of slow start gives a sender without a period one
ended_is_no_faster : (n : Pacing) (seen : Feedback) → n.period_nanos ≡ 0 → IsNoFaster n (ended n seen)
ended_is_no_faster n seen none = record { window = omega arith; period = omega (arith, none) }

-- nothing changed
same_is_no_faster : (n : Pacing) → IsNoFaster n n
same_is_no_faster n = record { window = omega arith; period = omega arith }

-- a NAK, in slow start or not
nak_is_no_faster :
    (slow : Bool) (n : Pacing) (first sent : ℕ) (seen : Feedback) → n.slow ≡ slow → IsPaced n
    → IsNoFaster n (reported slow n first sent seen)
nak_is_no_faster true n first sent seen is_slow h = ended_is_no_faster n seen (h.slow_start is_slow)
nak_is_no_faster false n first sent seen is_slow h =
    cond_both (is_new_loss n.last_dec first) (slowed_down n sent) n (λ m. IsNoFaster n m)
    (λ _. record { window = omega arith; period = omega (arith, h.period) })
    (λ _. same_is_no_faster n)

pub loss_never_speeds_up : LossNeverSpeedsUp
loss_never_speeds_up n (OnAck seen) h lost = absurd lost
loss_never_speeds_up n (OnNak first sent seen) h lost = nak_is_no_faster n.slow n first sent seen refl h
loss_never_speeds_up n (OnTimeout seen) h lost =
    cond_both n.slow (ended n seen) n (λ m. IsNoFaster n m)
    (λ e. ended_is_no_faster n seen (h.slow_start e))
    (λ _. same_is_no_faster n)

pub ack_never_lengthens_period : AckNeverLengthensPeriod
ack_never_lengthens_period n seen h is_over =
    let P : Bool → Type 0 = λ slow. (acknowledged slow n seen).period_nanos ≤ n.period_nanos in
    subst P (sym is_over)
    (shorter_is_no_longer n.period_nanos (increase_of seen.capacity n.period_nanos n.packet_bytes) (h.started is_over))

pub slow_start_never_shrinks : SlowStartNeverShrinks
slow_start_never_shrinks n (OnAck seen) h is_slow =
    let P : Bool → Type 0 = λ slow. n.window ≤ (acknowledged slow n seen).window in
    let open_wide : n.window ≤ (opened n seen).window = omega (arith, h.window_end) in
    subst P (sym is_slow)
    (cond_both (nat_le n.flow (opened n seen).window) (ended (opened n seen) seen) (opened n seen) (λ m. n.window ≤ m.window)
    (λ _. open_wide)
    (λ _. open_wide))
slow_start_never_shrinks n (OnNak first sent seen) h is_slow =
    let P : Bool → Type 0 = λ slow. n.window ≤ (reported slow n first sent seen).window in
    subst P (sym is_slow) (omega arith)
slow_start_never_shrinks n (OnTimeout seen) h is_slow =
    cond_both n.slow (ended n seen) n (λ m. n.window ≤ m.window) (λ _. omega arith) (λ _. omega arith)

-- ---- one decrease a flight

-- slow start is over, and what the last decrease remembers is at least what was sent at this one
record Remembers (n : Pacing) (sent : ℕ) : Type 0 where
  is_over : n.slow ≡ false
  greatest : ℕ
  is_kept : n.last_dec ≡ Some greatest
  above : sent ≤ greatest + 1

-- a decrease remembers what was sent
remembers_first :
    (n : Pacing) (first sent : ℕ) (seen : Feedback) → first < sent → IsSlowedBy n first
    → Remembers (after_nak n first sent seen) sent
remembers_first n first sent seen lost slowed =
    let P : Bool → Type 0 = λ slow. Remembers (reported slow n first sent seen) sent in
    subst P (sym slowed.past_slow_start)
    (cond_both (is_new_loss n.last_dec first) (slowed_down n sent) n (λ m. Remembers m sent)
    (λ _. record { is_over = slowed.past_slow_start; greatest = sent - 1; is_kept = refl; above = omega arith })
    (λ e. absurd (cc (e, slowed.is_new))))

-- and each call keeps it
remembers_on :
    (n : Pacing) (sent : ℕ) (call : Call) → IsAllowed call → Remembers n sent
    → Remembers (after_call native n call) sent
remembers_on n sent (OnAck seen) allowed r =
    let P : Bool → Type 0 = λ slow. Remembers (acknowledged slow n seen) sent in
    subst P (sym r.is_over)
    (record { is_over = r.is_over; greatest = r.greatest; is_kept = r.is_kept; above = r.above })
remembers_on n sent (OnNak first now seen) allowed r =
    let P : Bool → Type 0 = λ slow. Remembers (reported slow n first now seen) sent in
    subst P (sym r.is_over)
    (cond_both (is_new_loss n.last_dec first) (slowed_down n now) n (λ m. Remembers m sent)
    (λ e.
    let newer : is_new_loss (Some r.greatest) first ≡ true = rw r.is_kept at e in
    record {
      is_over = r.is_over;
      greatest = now - 1;
      is_kept = refl;
      above = omega (arith, ltb-true r.greatest first newer, allowed.0, r.above);
    })
    (λ _. r))
remembers_on n sent (OnTimeout seen) allowed r =
    let P : Bool → Type 0 = λ slow. Remembers (cond slow (ended n seen) n) sent in
    subst P (sym r.is_over) r

-- and so do all of them
remembers_all :
    (calls : List Call) (n : Pacing) (sent : ℕ) → AreAllowed calls → Remembers n sent
    → Remembers (after_calls native n calls) sent
remembers_all [] n sent allowed r = r
remembers_all (call ∷ calls) n sent allowed r =
    remembers_all calls (after_call native n call) sent allowed.1 (remembers_on n sent call allowed.0 r)

pub one_decrease_a_flight : OneDecreaseAFlight
one_decrease_a_flight n between first sent later_first seen lost allowed slowed slowed_later offset before =
    let r = remembers_all between (after_nak n first sent seen) sent allowed (remembers_first n first sent seen lost slowed) in
    let newer : is_new_loss (Some r.greatest) later_first ≡ true = rw r.is_kept at slowed_later.is_new in
    omega (arith, ltb-true r.greatest later_first newer, r.above)
