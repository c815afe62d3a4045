-- The moment that is computed is the next one.
use Rattle.std.proofs.Common.{◌≡◌, ℕ, ◌+◌, ◌*◌, ◌<◌, ◌≤◌, ◌/◌, min, max, Bool, true, false, List, [], ◌∷◌, Option, Some, None, refl, ap, ◌∙◌, sym, inl, inr, ◌⊎◌, arith}
use Rattle.std.specs.Prelude.{nat_lt, nat_le, ◌==◌, ◌||◌, if◌then◌else◌}
use Rattle.std.proofs.lemmas.Bool.{lt-ltb, le-ltb, leb-true, leb-false, cases_lt, cases_Bool}
use Rattle.udt_model.specs.declared.limits.TheConstants.{LAST_MOMENT, SYN}
use Rattle.udt_model.specs.Phases.{Phase, link_of}
use Rattle.udt_model.specs.Phases as phase
use Rattle.udt_model.specs.declared.sockets.ExpOutcome.{ExpOutcome}
use Rattle.udt_model.specs.declared.sockets.ExpOutcome.TheVariants as exp
use Rattle.udt_model.specs.declared.sockets.SentAck.{SentAck}
use Rattle.udt_model.specs.Calls.{emitted_by_packing, pack_in}
use Rattle.udt_model.specs.Events.{Tick, Pack, DidTick, Outcome, event, at_moment, answered}
use Rattle.udt_model.specs.Moments.{IsIdle, IsFirst, IsNextMoment, sooner, not_before, not_before_any, moment_in, next_moment}
use Rattle.udt_model.specs.Rate.{Ways}
use Rattle.udt_model.specs.ReceiveHalf.{Receiving}
use Rattle.udt_model.specs.ReceiveReports.{AckOutcome, IsEarly, IsKnown, EmitsAck, ack_offset, is_just_acked, number_after, ack_outcome, after_ack_outcome, after_ack_timer, nak_report, after_nak_timer}
use Rattle.udt_model.specs.SendBlocks.{KeptBlock, kept_at}
use Rattle.udt_model.specs.SendHalf.{Sending, Packing, Waits, Retransmits, Drops, Sends, Idles, has_passed, retransmits, due_moment, leaves_next, packing, moment_of, pack_moment}
use Rattle.udt_model.specs.SendReports.{has_unacknowledged}
use Rattle.udt_model.specs.State.{State, Emission}
use Rattle.udt_model.specs.Step.{step}
use Rattle.udt_model.specs.Ticks.{after_reports, gives_up, exp_interval, exp_outcome, after_exp, tick_in}
use Rattle.udt_model.specs.Timing.{RoundTrip, period_of}
use Rattle.udt_core.proofs.MomentTimes.{IsBefore, before-first, before-second, sooner-is, early, not_before-is, last-at}
use Rattle.udt_core.proofs.ShakeMoments.{client-is, meeting-is}

-- ---- timers

early-ack : (r : Receiving) (now : ℕ) (known : RoundTrip) → now < r.ack_due → after_ack_timer r now known ≡ r
unfolding after_ack_timer ack_outcome
early-ack r now known before = rw (lt-ltb now r.ack_due before) refl

early-outcome : (r : Receiving) (now : ℕ) (known : RoundTrip) → now < r.ack_due → ack_outcome r now known ≡ IsEarly
unfolding ack_outcome
early-outcome r now known before = rw (lt-ltb now r.ack_due before) refl

early-report : (r : Receiving) (now : ℕ) (known : RoundTrip) → now < r.nak_due → nak_report r now known ≡ []
unfolding nak_report
early-report r now known before = rw (lt-ltb now r.nak_due before) refl

early-nak : (r : Receiving) (now : ℕ) (known : RoundTrip) → now < r.nak_due → after_nak_timer r now known ≡ r
unfolding after_nak_timer
early-nak r now known before = rw (lt-ltb now r.nak_due before) refl

renewed : (r : Receiving) (now : ℕ) (known : Bool) (ack : SentAck) → (after_ack_outcome r now (if known then IsKnown else EmitsAck ack)).ack_due ≡ now + SYN
renewed r now true ack = refl
renewed r now false ack = refl

-- the ACK timer begins anew where it was due
ack-renewed : (r : Receiving) (now : ℕ) (known : RoundTrip) → r.ack_due ≤ now → (after_ack_timer r now known).ack_due ≡ now + SYN
unfolding after_ack_timer ack_outcome
ack-renewed r now known due =
    rw (le-ltb now r.ack_due due)
    (renewed r now ((ack_offset r == r.confirmed) || is_just_acked (ack_offset r) now known r.last_ack)
    (record { number = number_after r.last_ack; offset = ack_offset r; moment = now }))

nak_due-acked : (r : Receiving) (now : ℕ) (q : AckOutcome) → (after_ack_outcome r now q).nak_due ≡ r.nak_due
nak_due-acked r now IsEarly = refl
nak_due-acked r now IsKnown = refl
nak_due-acked r now (EmitsAck ack) = refl

nak_due-timer : (r : Receiving) (now : ℕ) (known : RoundTrip) → (after_ack_timer r now known).nak_due ≡ r.nak_due
unfolding after_ack_timer
nak_due-timer r now known = nak_due-acked r now (ack_outcome r now known)

ack_due-timer : (r : Receiving) (now : ℕ) (known : RoundTrip) → (after_nak_timer r now known).ack_due ≡ r.ack_due
unfolding after_nak_timer
ack_due-timer r now known = elim (cases_Bool (nat_lt now r.nak_due)) [ inl before ↦ rw before refl | inr due ↦ rw due refl ]

nak-renewed : (r : Receiving) (now : ℕ) (known : RoundTrip) → r.nak_due ≤ now → (after_nak_timer r now known).nak_due ≡ now + period_of known
unfolding after_nak_timer
nak-renewed r now known due = rw (le-ltb now r.nak_due due) refl

module _ {C : Type 0} where
  not_due : (s : State C) → s.last < s.exp_from + exp_interval s → exp_outcome s ≡ exp.NotDue
  unfolding exp_outcome
  not_due s before = rw (lt-ltb s.last (s.exp_from + exp_interval s) before) refl

  is_due : (s : State C) → s.exp_from + exp_interval s ≤ s.last → exp_outcome s ≡ exp.NotDue → ⊥
  unfolding exp_outcome
  is_due s due is = other (gives_up s) (has_unacknowledged s.sending) (rw (le-ltb s.last (s.exp_from + exp_interval s) due) at is)
    where
      other : (a b : Bool) → (if a then exp.Breaks else (if b then exp.LosesAll else exp.KeepsAlive)) ≡ exp.NotDue → ⊥
      other true b same = cc
      other false true same = cc
      other false false same = cc

module _ {C : Type 0} (w : Ways C) where
  receiving-exp : (s : State C) (q : ExpOutcome) → (after_exp w s q).receiving ≡ s.receiving
  receiving-exp s exp.NotDue = refl
  receiving-exp s exp.Breaks = refl
  receiving-exp s exp.LosesAll = refl
  receiving-exp s exp.KeepsAlive = refl

  exp-changes : (s : State C) (q : ExpOutcome) → (q ≡ exp.NotDue → ⊥) → s.phase ≡ phase.Connected → after_exp w (after_reports s) q ≡ s → ⊥
  exp-changes s exp.NotDue other connected same = other refl
  exp-changes s exp.Breaks other connected same =
      let broken = ap (λ (t : State C). t.phase) same in
      cc
  exp-changes s exp.LosesAll other connected same = omega (arith, ap (λ (t : State C). t.exp_count) same)
  exp-changes s exp.KeepsAlive other connected same = omega (arith, ap (λ (t : State C). t.exp_count) same)

  -- ---- ticks

  -- where no timer is due, a tick does nothing
  idle-tick : (s : State C) → s.last < s.receiving.ack_due → s.last < s.receiving.nak_due → s.last < s.exp_from + exp_interval s
      → tick_in w s phase.Connected ≡ answered s DidTick
  idle-tick s ack nak expiry =
      rw (
        early-outcome s.receiving s.last s.rtt ack,
        early-ack s.receiving s.last s.rtt ack,
        early-nak s.receiving s.last s.rtt nak,
        early-report s.receiving s.last s.rtt nak,
        not_due s expiry,
      ) refl

  -- and where one is, it does something
  ack-ticks : (s : State C) → s.receiving.ack_due ≤ s.last → tick_in w s phase.Connected ≡ answered s DidTick → ⊥
  ack-ticks s due idle =
      let r = s.receiving in
      let same = ap (λ (o : Outcome C). o.after.receiving.ack_due) idle in
      let through = ap (λ (x : Receiving). x.ack_due) (receiving-exp (after_reports s) (exp_outcome s)) in
      let kept = ack_due-timer (after_ack_timer r s.last s.rtt) s.last s.rtt in
      omega (arith, same, through, kept, ack-renewed r s.last s.rtt due, due)

  nak-ticks : (s : State C) → s.receiving.nak_due ≤ s.last → tick_in w s phase.Connected ≡ answered s DidTick → ⊥
  nak-ticks s due idle =
      let r = s.receiving in
      let same = ap (λ (o : Outcome C). o.after.receiving.nak_due) idle in
      let through = ap (λ (x : Receiving). x.nak_due) (receiving-exp (after_reports s) (exp_outcome s)) in
      let kept = nak_due-timer r s.last s.rtt in
      let anew = nak-renewed (after_ack_timer r s.last s.rtt) s.last s.rtt (omega (arith, kept, due)) in
      omega (arith, same, through, kept, anew, due)

  exp-ticks : (s : State C) → s.phase ≡ phase.Connected → s.exp_from + exp_interval s ≤ s.last → tick_in w s phase.Connected ≡ answered s DidTick → ⊥
  exp-ticks s connected due idle =
      exp-changes s (exp_outcome s) (is_due s due) connected (ap (λ (o : Outcome C). o.after) idle)

  -- ---- packing

  waits : (s : Sending C) (now : ℕ) → now < due_moment w s → packing w s now ≡ Waits (due_moment w s)
  unfolding packing
  waits s now before =
      let early_now : 1000 * now < s.due = omega (arith, before) in
      rw (lt-ltb (1000 * now) s.due early_now) refl

  leaves : (s : Sending C) (now : ℕ) → due_moment w s ≤ now → packing w s now ≡ leaves_next w s now s.lost
  unfolding packing
  leaves s now due =
      let due_now : s.due ≤ 1000 * now = omega (arith, due) in
      rw (le-ltb (1000 * now) s.due due_now) refl

  -- whether something leaves next is the same at any moment
  alike-by : (offset : ℕ) (block : KeptBlock) (one two : Bool) (moment : ℕ)
      → moment_of w (if one then Drops block.message else Retransmits offset block) moment ≡ moment_of w (if two then Drops block.message else Retransmits offset block) moment
  alike-by offset block true true moment = refl
  alike-by offset block true false moment = refl
  alike-by offset block false true moment = refl
  alike-by offset block false false moment = refl

  retransmits-alike : (now other offset : ℕ) (found : Option KeptBlock) (moment : ℕ) → moment_of w (retransmits w now offset found) moment ≡ moment_of w (retransmits w other offset found) moment
  retransmits-alike now other offset None moment = refl
  retransmits-alike now other offset (Some block) moment = alike-by offset block (has_passed now block.message.expires) (has_passed other block.message.expires) moment

  next-alike : (s : Sending C) (now other : ℕ) (lost : List ℕ) (moment : ℕ) → moment_of w (leaves_next w s now lost) moment ≡ moment_of w (leaves_next w s other lost) moment
  next-alike s now other [] moment = refl
  next-alike s now other (offset ∷ others) moment = retransmits-alike now other offset (kept_at s.blocks offset) moment

  -- what packing emits where nothing leaves next
  nothing_leaves : (s : State C) (q : Packing) (moment : ℕ) → moment_of w q moment ≡ None → emitted_by_packing w s q ≡ []
  nothing_leaves s (Waits until) moment none = refl
  nothing_leaves s (Retransmits offset block) moment none = absurd (cc)
  nothing_leaves s (Drops message) moment none = absurd (cc)
  nothing_leaves s (Sends block) moment none = absurd (cc)
  nothing_leaves s Idles moment none = refl

  some_leaves : (s : State C) (q : Packing) (moment t : ℕ) → moment_of w q moment ≡ Some t → emitted_by_packing w s q ≡ [] → ⊥
  some_leaves s (Waits until) moment t some none = cc
  some_leaves s (Retransmits offset block) moment t some none = cc
  some_leaves s (Drops message) moment t some none = cc
  some_leaves s (Sends block) moment t some none = cc
  some_leaves s Idles moment t some none = cc

  some_moment : (q : Packing) (moment t : ℕ) → moment_of w q moment ≡ Some t → moment ≡ t
  some_moment (Waits until) moment t some = absurd (cc)
  some_moment (Retransmits offset block) moment t some = cc
  some_moment (Drops message) moment t some = cc
  some_moment (Sends block) moment t some = cc
  some_moment Idles moment t some = absurd (cc)

  -- before the moment of packing nothing leaves
  idle-pack : (s : State C) (last m : ℕ) → last ≤ m → s.last ≡ min m LAST_MOMENT → IsBefore m (not_before_any last (pack_moment w s.sending))
      → emitted_by_packing w s (packing w s.sending s.last) ≡ []
  unfolding pack_moment
  idle-pack s last m after now before =
      let next = leaves_next w s.sending s.last s.sending.lost in
      let due = due_moment w s.sending in
      elim (cases_lt s.last due) [
        | inl early_now ↦ rw (waits s.sending s.last early_now) refl
        | inr due_now ↦
            rw (leaves s.sending s.last due_now)
            (elim (moment_of w next due) as (λ found. moment_of w next due ≡ found → emitted_by_packing w s next ≡ []) [
              | None ↦ λ none. nothing_leaves s next due none
              | Some t ↦ λ some.
                  let is : due ≡ t = some_moment next due t some in
                  let moment : not_before_any last (pack_moment w s.sending) ≡ not_before last t =
                  ap (λ (found : Option ℕ). not_before_any last found) (next-alike s.sending due s.last s.sending.lost due ∙ some) in
                  absurd (omega (arith, early last t m after (λ u there. before u (moment ∙ there)), is, due_now, now))
            ] refl)
      ]

  pack-emits : (s : State C) (t : ℕ) → pack_moment w s.sending ≡ Some t → t ≤ s.last → emitted_by_packing w s (packing w s.sending s.last) ≡ [] → ⊥
  unfolding pack_moment
  pack-emits s t some due none =
      let due_at = due_moment w s.sending in
      let next = leaves_next w s.sending s.last s.sending.lost in
      let now : moment_of w next due_at ≡ Some t = next-alike s.sending s.last due_at s.sending.lost due_at ∙ some in
      let is = some_moment next due_at t now in
      some_leaves s next due_at t now
      (ap (λ (q : Packing). emitted_by_packing w s q) (sym (leaves s.sending s.last (omega (arith, is, due)))) ∙ none)

  -- ---- both

  tick-at : (s : State C) (m : ℕ) → s.phase ≡ phase.Connected → step w s (event m Tick) ≡ tick_in w (at_moment s m) phase.Connected
  unfolding step
  tick-at s m connected = rw connected refl

  pack-at : (s : State C) (m : ℕ) → s.phase ≡ phase.Connected
      → (step w s (event m Pack)).emissions ≡ emitted_by_packing w (at_moment s m) (packing w s.sending (at_moment s m).last)
  unfolding step
  pack-at s m connected = rw connected refl

  -- the four moments of a connected socket
  abbrev pub ack_moment : State C → Option ℕ
  ack_moment s = not_before s.last s.receiving.ack_due

  abbrev pub nak_moment : State C → Option ℕ
  nak_moment s = not_before s.last s.receiving.nak_due

  abbrev pub exp_moment : State C → Option ℕ
  exp_moment s = not_before s.last (s.exp_from + exp_interval s)

  abbrev pub leaving_moment : State C → Option ℕ
  leaving_moment s = not_before_any s.last (pack_moment w s.sending)

  abbrev pub connected_moment : State C → Option ℕ
  connected_moment s = sooner (sooner (ack_moment s) (nak_moment s)) (sooner (exp_moment s) (leaving_moment s))

  idle-before : (s : State C) (m : ℕ) → s.last ≤ LAST_MOMENT → s.phase ≡ phase.Connected → s.last ≤ m → IsBefore m (connected_moment s) → IsIdle w s m
  idle-before s m fits connected after before =
      let timers = before-first m (sooner (ack_moment s) (nak_moment s)) (sooner (exp_moment s) (leaving_moment s)) before in
      let others = before-second m (sooner (ack_moment s) (nak_moment s)) (sooner (exp_moment s) (leaving_moment s)) before in
      let now = last-at s m fits after in
      let ack = early s.last s.receiving.ack_due m after (before-first m (ack_moment s) (nak_moment s) timers) in
      let nak = early s.last s.receiving.nak_due m after (before-second m (ack_moment s) (nak_moment s) timers) in
      let expiry = early s.last (s.exp_from + exp_interval s) m after (before-first m (exp_moment s) (leaving_moment s) others) in (
        tick-at s m connected ∙ idle-tick (at_moment s m) (omega (arith, now, ack)) (omega (arith, now, nak)) (omega (arith, now, expiry)),
        pack-at s m connected ∙ idle-pack (at_moment s m) s.last m after now (before-second m (exp_moment s) (leaving_moment s) others),
      )

  -- at the moment of a timer, a tick does something
  timer-does : (s : State C) (t due : ℕ) → s.last ≤ LAST_MOMENT → s.phase ≡ phase.Connected → not_before s.last due ≡ Some t
      → (due ≤ (at_moment s t).last → tick_in w (at_moment s t) phase.Connected ≡ answered (at_moment s t) DidTick → ⊥)
      → (s.last ≤ t) × (IsIdle w s t → ⊥)
  timer-does s t due fits connected there ticks =
      let is = not_before-is s.last due t there in
      let now = last-at s t fits is.after in
      (is.after, λ idle. ticks (omega (arith, now, is.come, is.within fits)) (sym (tick-at s t connected) ∙ idle.0))

  leaving-does : (s : State C) (t : ℕ) (found : Option ℕ) → s.last ≤ LAST_MOMENT → s.phase ≡ phase.Connected → pack_moment w s.sending ≡ found
      → not_before_any s.last found ≡ Some t → (s.last ≤ t) × (IsIdle w s t → ⊥)
  leaving-does s t None fits connected found there = absurd (cc)
  leaving-does s t (Some due) fits connected found there =
      let is = not_before-is s.last due t there in
      let now = last-at s t fits is.after in
      (is.after, λ idle. pack-emits (at_moment s t) due found (omega (arith, now, is.come, is.within fits)) (sym (pack-at s t connected) ∙ idle.1))

  does-something : (s : State C) (t : ℕ) → s.last ≤ LAST_MOMENT → s.phase ≡ phase.Connected → connected_moment s ≡ Some t
      → (s.last ≤ t) × (IsIdle w s t → ⊥)
  does-something s t fits connected there = elim (sooner-is (sooner (ack_moment s) (nak_moment s)) (sooner (exp_moment s) (leaving_moment s)) t there) [
    | inl timers ↦ elim (sooner-is (ack_moment s) (nak_moment s) t timers) [
      | inl ack ↦ timer-does s t s.receiving.ack_due fits connected ack (λ due idle. ack-ticks (at_moment s t) due idle)
      | inr nak ↦ timer-does s t s.receiving.nak_due fits connected nak (λ due idle. nak-ticks (at_moment s t) due idle)
    ]
    | inr others ↦ elim (sooner-is (exp_moment s) (leaving_moment s) t others) [
      | inl expiry ↦ timer-does s t (s.exp_from + exp_interval s) fits connected expiry (λ due idle. exp-ticks (at_moment s t) connected due idle)
      | inr leaves ↦ leaving-does s t (pack_moment w s.sending) fits connected refl leaves
    ]
  ]

  -- ---- the next moment

  -- a closing socket sends its shutdown
  closing-does : (s : State C) (m : ℕ) → s.phase ≡ phase.Closing → IsIdle w s m → ⊥
  unfolding step
  closing-does s m closing idle =
      let same = ap (λ (o : Outcome C). o.after.phase) idle.0 in
      let closed : (step w s (event m Tick)).after.phase ≡ phase.Closed = rw closing refl in
      absurd (cc)

  -- one that neither waits for a handshake nor has a connection does nothing
  idle : (s : State C) (m : ℕ) → tick_in w (at_moment s m) s.phase ≡ answered (at_moment s m) DidTick
      → (pack_in w (at_moment s m) (link_of s.phase)).emissions ≡ [] → IsIdle w s m
  unfolding step
  idle s m ticks packs = (ticks, packs)

  connected-is : (s : State C) → s.last ≤ LAST_MOMENT → s.phase ≡ phase.Connected → (found : Option ℕ) → connected_moment s ≡ found → IsNextMoment w s found
  connected-is s fits connected None found = λ m after. idle-before s m fits connected after (λ t there. absurd (cc))
  connected-is s fits connected (Some t) found =
      let does = does-something s t fits connected found in
      record {
        not_past = does.0;
        does = does.1;
        none_before = λ m after before. idle-before s m fits connected after (λ u there.
            let same : t ≡ u = cc in
            omega (arith, before, same));
      }

  phase-is : (s : State C) → s.last ≤ LAST_MOMENT → (p : Phase) → s.phase ≡ p → IsNextMoment w s (moment_in w s p)
  phase-is s fits phase.Connected connected = connected-is s fits connected (connected_moment s) refl
  phase-is s fits phase.Opened opened = λ m after. idle s m (rw opened refl) (rw opened refl)
  phase-is s fits (phase.Listening b) listens = λ m after. idle s m (rw listens refl) (rw listens refl)
  phase-is s fits (phase.Connecting c again) asks = client-is w s c again fits asks
  phase-is s fits (phase.Meeting p again) meets = meeting-is w s p again fits meets
  phase-is s fits (phase.Broken why) broken = λ m after. idle s m (rw broken refl) (rw broken refl)
  phase-is s fits (phase.Failed why) failed = λ m after. idle s m (rw failed refl) (rw failed refl)
  phase-is s fits phase.Closing closing = record {
    not_past = omega arith;
    does = closing-does s s.last closing;
    none_before = λ m after before. absurd (omega (arith, after, before));
  }
  phase-is s fits phase.Closed closed = λ m after. idle s m (rw closed refl) (rw closed refl)

  pub moment-is : (s : State C) → s.last ≤ LAST_MOMENT → IsNextMoment w s (next_moment w s)
  unfolding next_moment
  moment-is s fits = phase-is s fits s.phase refl
