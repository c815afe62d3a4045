-- When a socket has something to do next.
use Rattle.std.specs.Prelude.{◌≡◌, ℕ, ◌+◌, ◌<◌, ◌≤◌, min, max, [], Option, Some, None, nat_le, if◌then◌else◌}
use Rattle.udt_model.specs.declared.limits.TheConstants.{LAST_MOMENT, SHAKE_LIMIT}
use Rattle.udt_model.specs.Phases.{Phase}
use Rattle.udt_model.specs.Phases as phase
use Rattle.udt_model.specs.Events.{Tick, Pack, DidTick, event, at_moment, answered}
use Rattle.udt_model.specs.Rate.{Ways}
use Rattle.udt_model.specs.SendHalf.{pack_moment}
use Rattle.udt_model.specs.State.{State}
use Rattle.udt_model.specs.Step.{step}
use Rattle.udt_model.specs.Ticks.{exp_interval}

-- ---- what it is

module _ {C : Type 0} (w : Ways C) where
  -- a tick at this moment would emit nothing, and change no more than the last moment and the count of events
  abbrev pub IsIdleTick : State C → ℕ → Type 0
  IsIdleTick s moment = step w s (event moment Tick) ≡ answered (at_moment s moment) DidTick

  -- packing at this moment would emit nothing
  abbrev pub IsIdlePack : State C → ℕ → Type 0
  IsIdlePack s moment = (step w s (event moment Pack)).emissions ≡ []

  -- neither would do anything
  abbrev pub IsIdle : State C → ℕ → Type 0
  IsIdle s moment = IsIdleTick s moment × IsIdlePack s moment

  -- at this moment one would do something, and at none before it
  pub record IsFirst (s : State C) (moment : ℕ) : Type 0 where
    pub not_past : s.last ≤ moment
    pub does : IsIdle s moment → ⊥
    pub none_before : (before : ℕ) → s.last ≤ before → before < moment → IsIdle s before

  -- the first moment, not before the last one, at which a tick or packing would do something, where there is one
  abbrev pub IsNextMoment : State C → Option ℕ → Type 0
  IsNextMoment s (Some moment) = IsFirst s moment
  IsNextMoment s None = (moment : ℕ) → s.last ≤ moment → IsIdle s moment

-- ---- how it is found

-- the lesser of two moments, where both are there
abbrev pub sooner : Option ℕ → Option ℕ → Option ℕ
sooner None other = other
sooner (Some moment) None = Some moment
sooner (Some moment) (Some other) = Some (min moment other)

-- a moment, not before the last one. No moment comes after the last moment of all
abbrev pub not_before : ℕ → ℕ → Option ℕ
not_before last moment = if nat_le moment LAST_MOMENT then Some (max last moment) else None

abbrev pub not_before_any : ℕ → Option ℕ → Option ℕ
not_before_any last None = None
not_before_any last (Some moment) = not_before last moment

module _ {C : Type 0} (w : Ways C) where
  -- a handshake again, or the end of waiting
  abbrev pub shaking_moment : State C → ℕ → ℕ → Option ℕ
  shaking_moment s began again = not_before s.last (min again (began + SHAKE_LIMIT))

  -- one of the three timers, or a packet that can leave
  abbrev pub moment_in : State C → Phase → Option ℕ
  moment_in s phase.Connected =
      sooner
      (sooner (not_before s.last s.receiving.ack_due) (not_before s.last s.receiving.nak_due))
      (sooner (not_before s.last (s.exp_from + exp_interval s)) (not_before_any s.last (pack_moment w s.sending)))
  moment_in s (phase.Connecting c again) = shaking_moment s c.caller.began again
  moment_in s (phase.Meeting m again) = shaking_moment s m.caller.began again
  moment_in s phase.Closing = Some s.last
  moment_in s other = None

  unfoldable pub next_moment : State C → Option ℕ
  next_moment s = moment_in s s.phase
