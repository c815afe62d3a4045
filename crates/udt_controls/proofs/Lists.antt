-- What the additive control does over a list of calls.
use Rattle.std.proofs.Common.{◌≡◌, ℕ, ◌+◌, ◌-◌, ◌/◌, ◌<◌, ◌≤◌, true, List, [], ◌∷◌, ◌++◌, Some, refl, arith}
use Rattle.std.specs.Prelude.{nat_lt}
use Rattle.std.proofs.Math.Nat.{le-mul_of_pos_right}
use Rattle.std.proofs.lemmas.Nat.{div_below}
use Rattle.std.proofs.lemmas.Bool.{cond_both, ltb-true}
use Rattle.udt_model.specs.Rate.{Feedback, Call, OnAck, OnNak, OnTimeout, after_call, after_calls, IsAllowed, AreAllowed, newly_acknowledged, is_new_loss}
use Rattle.udt_model.specs.Controls.{Additive, starting, doubling, adding, halved, cut, additive, aimd_after, IsAdditive, KeepsWindow, KeepWindow, RisesByAtMost, RisesBetweenDecreases, DecreaseNeverRaises, LaterLossIsNew}
use Rattle.udt_controls.specs.Windows.{IsWindowed, call_is_windowed, calls_are_windowed, starting_is_windowed}

-- two lists of calls, one after the other
after_both :
    (first second : List Call) (a : Additive)
    → after_calls additive a (first ++ second) ≡ after_calls additive (after_calls additive a first) second
after_both [] second a = refl
after_both (call ∷ first) second a = after_both first second (after_call additive a call)

-- ---- between two decreases

-- the rest and what was acknowledged make no more whole windows than packets were acknowledged
whole_windows : (rest newly window : ℕ) → 2 ≤ window → rest < window → (rest + newly) / window ≤ newly
whole_windows rest newly window least part =
    let positive : 0 < window = omega arith in
    let much = le-mul_of_pos_right {m = window} newly positive in
    omega (arith, div_below (rest + newly) window (newly + 1) positive (omega (arith, much)))

-- one call
rises_by_one :
    (a : Additive) (call : Call) → IsWindowed a → KeepsWindow a call
    → RisesByAtMost a.window (after_call additive a call).window (newly_acknowledged (call ∷ []))
rises_by_one a (OnAck seen) h keeps =
    cond_both (nat_lt a.window a.threshold) (doubling a seen.newly) (adding a seen.newly)
    (λ b. RisesByAtMost a.window b.window (seen.newly + 0))
    (λ _. record { no_fall = omega (arith, h.most); bound = omega arith })
    (λ _. record { no_fall = omega (arith, h.most); bound = omega (arith, whole_windows a.rest seen.newly a.window h.least h.rest) })
rises_by_one a (OnNak first sent seen) h keeps =
    cond_both (is_new_loss a.last_dec first) (halved a sent) a
    (λ b. RisesByAtMost a.window b.window 0)
    (λ e. absurd (cc (e, keeps)))
    (λ _. record { no_fall = omega arith; bound = omega arith })
rises_by_one a (OnTimeout seen) h keeps = absurd keeps

-- what was acknowledged adds up
acknowledged_more :
    (call : Call) (calls : List Call)
    → newly_acknowledged (call ∷ calls) ≡ newly_acknowledged (call ∷ []) + newly_acknowledged calls
acknowledged_more (OnAck seen) calls = omega arith
acknowledged_more (OnNak first sent seen) calls = omega arith
acknowledged_more (OnTimeout seen) calls = omega arith

-- all of them
rises_by_all :
    (calls : List Call) (a : Additive) → IsWindowed a → KeepWindow a calls
    → RisesByAtMost a.window (after_calls additive a calls).window (newly_acknowledged calls)
rises_by_all [] a h keep = record { no_fall = omega arith; bound = omega arith }
rises_by_all (call ∷ calls) a h keep =
    let one = rises_by_one a call h keep.0 in
    let more = rises_by_all calls (after_call additive a call) (call_is_windowed a call h) keep.1 in
    record {
      no_fall = omega (arith, one.no_fall, more.no_fall);
      bound = omega (arith, one.bound, more.bound, acknowledged_more call calls);
    }

pub rises_between_decreases : RisesBetweenDecreases
rises_between_decreases before between keep =
    rw (after_both before between starting)
    (rises_by_all between (aimd_after before) (calls_are_windowed before starting starting_is_windowed) keep)

-- ---- a decrease

-- one call that isn't an ACK
falls_by_one :
    (a : Additive) (call : Call) → IsWindowed a → (KeepsWindow a call → ⊥)
    → (after_call additive a call).window ≤ a.window
falls_by_one a (OnAck seen) h lost = absurd (lost tt)
falls_by_one a (OnNak first sent seen) h lost =
    cond_both (is_new_loss a.last_dec first) (halved a sent) a (λ b. b.window ≤ a.window)
    (λ _. omega (arith, h.least))
    (λ _. omega arith)
falls_by_one a (OnTimeout seen) h lost = omega (arith, h.least)

pub decrease_never_raises : DecreaseNeverRaises
decrease_never_raises before call lost =
    rw (after_both before (call ∷ []) starting)
    (falls_by_one (aimd_after before) call (calls_are_windowed before starting starting_is_windowed) lost)

-- ---- a later loss

-- what the last decrease remembers is at least what was sent at this one
record Remembers (a : Additive) (sent : ℕ) : Type 0 where
  greatest : ℕ
  is_kept : a.last_dec ≡ Some greatest
  above : sent ≤ greatest + 1

-- each call keeps it
remembers_on :
    (a : Additive) (sent : ℕ) (call : Call) → IsAllowed call → Remembers a sent
    → Remembers (after_call additive a call) sent
remembers_on a sent (OnAck seen) allowed r =
    cond_both (nat_lt a.window a.threshold) (doubling a seen.newly) (adding a seen.newly) (λ b. Remembers b sent)
    (λ _. record { greatest = r.greatest; is_kept = r.is_kept; above = r.above })
    (λ _. record { greatest = r.greatest; is_kept = r.is_kept; above = r.above })
remembers_on a sent (OnNak first now seen) allowed r =
    cond_both (is_new_loss a.last_dec first) (halved a now) a (λ b. Remembers b sent)
    (λ e.
    let newer : is_new_loss (Some r.greatest) first ≡ true = rw r.is_kept at e in
    record {
      greatest = now - 1;
      is_kept = refl;
      above = omega (arith, ltb-true r.greatest first newer, allowed.0, r.above);
    })
    (λ _. r)
remembers_on a sent (OnTimeout seen) allowed r =
    record { greatest = r.greatest; is_kept = r.is_kept; above = r.above }

-- and so do all of them
remembers_all :
    (calls : List Call) (a : Additive) (sent : ℕ) → AreAllowed calls → Remembers a sent
    → Remembers (after_calls additive a calls) sent
remembers_all [] a sent allowed r = r
remembers_all (call ∷ calls) a sent allowed r =
    remembers_all calls (after_call additive a call) sent allowed.1 (remembers_on a sent call allowed.0 r)

-- a decrease remembers what was sent
remembers_first :
    (a : Additive) (first sent : ℕ) (seen : Feedback) → first < sent → is_new_loss a.last_dec first ≡ true
    → Remembers (cut a first sent seen) sent
remembers_first a first sent seen lost is_new =
    cond_both (is_new_loss a.last_dec first) (halved a sent) a (λ b. Remembers b sent)
    (λ _. record { greatest = sent - 1; is_kept = refl; above = omega arith })
    (λ e. absurd (cc (e, is_new)))

pub later_loss_is_new : LaterLossIsNew
later_loss_is_new before between first sent later_first seen allowed_before lost allowed_between is_new is_newer offset sent_before =
    let r = remembers_all between (cut (aimd_after before) first sent seen) sent allowed_between (remembers_first (aimd_after before) first sent seen lost is_new) in
    let at_cut : is_new_loss (after_calls additive (cut (aimd_after before) first sent seen) between).last_dec later_first ≡ true =
    rw (after_both before (OnNak first sent seen ∷ between) starting) at is_newer in
    let newer : is_new_loss (Some r.greatest) later_first ≡ true = rw r.is_kept at at_cut in
    omega (arith, ltb-true r.greatest later_first newer, r.above)

-- ---- the answers of the two controls

pub stays_additive : IsAdditive additive
stays_additive packet flow calls = (refl, refl)
