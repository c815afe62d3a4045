-- The moment at which a socket that asks or meets does something is the next one.
use Rattle.std.proofs.Common.{◌≡◌, ℕ, ◌+◌, ◌≤◌, ◌<◌, min, List, [], ◌∷◌, Option, Some, None, refl, ap, ◌∙◌, sym, inl, inr, arith}
use Rattle.std.specs.Prelude.{nat_le, if◌then◌else◌}
use Rattle.std.proofs.lemmas.Bool.{leb-true, leb-false, cases_Bool}
use Rattle.udt_model.specs.declared.limits.TheConstants.{LAST_MOMENT, SHAKE_INTERVAL, SHAKE_LIMIT}
use Rattle.udt_model.specs.declared.answers.Failure.TheVariants as failure
use Rattle.udt_model.specs.Connections.{adopted_id, shake_emission, repeats}
use Rattle.udt_model.specs.Events.{Tick, Pack, DidTick, Outcome, event, at_moment, answered}
use Rattle.udt_model.specs.Handshakes.{Connecting, Meeting, client_request, meet_request}
use Rattle.udt_model.specs.Moments.{IsIdle, IsNextMoment, not_before}
use Rattle.udt_model.specs.Phases.{Phase}
use Rattle.udt_model.specs.Phases as phase
use Rattle.udt_model.specs.Rate.{Ways}
use Rattle.udt_model.specs.State.{State, Emission}
use Rattle.udt_model.specs.Step.{step}
use Rattle.udt_core.proofs.MomentTimes.{IsBefore, early, not_before-is, last-at}

module _ {C : Type 0} (t : State C) (began again : ℕ) (next : Phase) (emission : Emission) where
  -- before both moments nothing is done
  repeats-early : t.last < min again (began + SHAKE_LIMIT) → repeats t began again next emission ≡ answered t DidTick
  repeats-early before = elim (cases_Bool (nat_le (began + SHAKE_LIMIT) t.last)) [
    | inl late ↦ absurd (omega (arith, before, leb-true (began + SHAKE_LIMIT) t.last late))
    | inr yet ↦ elim (cases_Bool (nat_le again t.last)) [
      | inl due ↦ absurd (omega (arith, before, leb-true again t.last due))
      | inr waits ↦ rw (yet, waits) refl
    ]
  ]

  -- at one of them something is
  repeats-due : (t.phase ≡ phase.Failed failure.TimedOut → ⊥) → min again (began + SHAKE_LIMIT) ≤ t.last
      → repeats t began again next emission ≡ answered t DidTick → ⊥
  repeats-due stands come idle = elim (cases_Bool (nat_le (began + SHAKE_LIMIT) t.last)) [
    | inl late ↦
        let failed : (repeats t began again next emission).after.phase ≡ phase.Failed failure.TimedOut = rw late refl in
        stands (sym (ap (λ (o : Outcome C). o.after.phase) idle) ∙ failed)
    | inr yet ↦ elim (cases_Bool (nat_le again t.last)) [
      | inl due ↦
          let emits : (repeats t began again next emission).emissions ≡ emission ∷ [] = rw (yet, due) refl in
          let none : (repeats t began again next emission).emissions ≡ [] = ap (λ (o : Outcome C). o.emissions) idle in
          absurd (cc)
      | inr waits ↦
          absurd (omega (arith, come, leb-false (began + SHAKE_LIMIT) t.last yet, leb-false again t.last waits))
    ]
  ]

module _ {C : Type 0} (w : Ways C) where
  -- a tick of the socket repeats a handshake, and packing does nothing
  record Repeats (s : State C) (began again : ℕ) : Type 0 where
    next : ℕ → Phase
    emission : ℕ → Emission
    stands : s.phase ≡ phase.Failed failure.TimedOut → ⊥
    ticks : (m : ℕ) → step w s (event m Tick) ≡ repeats (at_moment s m) began again (next m) (emission m)
    packs : (m : ℕ) → (step w s (event m Pack)).emissions ≡ []

  module _ (s : State C) (began again : ℕ) (fits : s.last ≤ LAST_MOMENT) (does : Repeats s began again) where
    due : ℕ
    due = min again (began + SHAKE_LIMIT)

    idle-before : (m : ℕ) → s.last ≤ m → IsBefore m (not_before s.last (min again (began + SHAKE_LIMIT))) → IsIdle w s m
    idle-before m after before =
        let now = last-at s m fits after in
        let soon = early s.last (min again (began + SHAKE_LIMIT)) m after before in
        (does.ticks m ∙ repeats-early (at_moment s m) began again (does.next m) (does.emission m) (omega (arith, now, soon)), does.packs m)

    repeats-is : (found : Option ℕ) → not_before s.last (min again (began + SHAKE_LIMIT)) ≡ found → IsNextMoment w s found
    repeats-is None found = λ m after. idle-before m after (λ t there. absurd (cc))
    repeats-is (Some t) found =
        let is = not_before-is s.last (min again (began + SHAKE_LIMIT)) t found in
        let now = last-at s t fits is.after in
        record {
          not_past = is.after;
          does = λ idle.
              repeats-due (at_moment s t) began again (does.next t) (does.emission t) does.stands
              (omega (arith, now, is.come, is.within fits))
              (sym (does.ticks t) ∙ idle.0);
          none_before = λ m after before. idle-before m after (λ u there.
              let same : t ≡ u = cc in
              omega (arith, before, same));
        }

  client-repeats : (s : State C) (c : Connecting) (again : ℕ) → s.phase ≡ phase.Connecting c again → Repeats s c.caller.began again
  unfolding step
  client-repeats s c again asks = record {
    next = λ m. phase.Connecting c ((at_moment s m).last + SHAKE_INTERVAL);
    emission = λ m. shake_emission (at_moment s m) c.caller.to 0 (client_request c);
    stands = λ failed. absurd (cc);
    ticks = λ m. rw asks refl;
    packs = λ m. rw asks refl;
  }

  meeting-repeats : (s : State C) (m : Meeting) (again : ℕ) → s.phase ≡ phase.Meeting m again → Repeats s m.caller.began again
  unfolding step
  meeting-repeats s m again meets = record {
    next = λ n. phase.Meeting m ((at_moment s n).last + SHAKE_INTERVAL);
    emission = λ n. shake_emission (at_moment s n) m.caller.to (adopted_id m.adopted) (meet_request m);
    stands = λ failed. absurd (cc);
    ticks = λ n. rw meets refl;
    packs = λ n. rw meets refl;
  }

  pub client-is : (s : State C) (c : Connecting) (again : ℕ) → s.last ≤ LAST_MOMENT → s.phase ≡ phase.Connecting c again
      → IsNextMoment w s (not_before s.last (min again (c.caller.began + SHAKE_LIMIT)))
  client-is s c again fits asks = repeats-is s c.caller.began again fits (client-repeats s c again asks) _ refl

  pub meeting-is : (s : State C) (m : Meeting) (again : ℕ) → s.last ≤ LAST_MOMENT → s.phase ≡ phase.Meeting m again
      → IsNextMoment w s (not_before s.last (min again (m.caller.began + SHAKE_LIMIT)))
  meeting-is s m again fits meets = repeats-is s m.caller.began again fits (meeting-repeats s m again meets) _ refl
