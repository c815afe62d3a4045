-- Two further controls: one with a fixed period, one with a window that grows by addition and
-- halves.
use Rattle.std.specs.Prelude.{◌≡◌, ℕ, ◌+◌, ◌-◌, ◌/◌, ◌%◌, ◌<◌, ◌≤◌, true, false, nat_lt, min, max, if◌then◌else◌, List, [], ◌∷◌, ◌++◌, ⊤, Option, Some, None}
use Rattle.udt_model.specs.Rate.{Feedback, Ways, ways, Call, OnAck, OnNak, OnTimeout, after_call, after_calls, AreAllowed, newly_acknowledged, is_new_loss}
use Rattle.udt_model.specs.declared.limits.TheConstants.{GREATEST_PERIOD, FIRST_WINDOW, LEAST_WINDOW, GREATEST_WINDOW}

-- ---- the fixed control

-- the period of a fixed control, which is at most a second
abbrev pub fixed_period : ℕ → ℕ
fixed_period period = min period GREATEST_PERIOD

-- whatever the fixed control is told, its window is the greatest and its period its own
abbrev pub IsFixed : {C : Type 0} → Ways C → ℕ → Type 0
IsFixed w period =
    (packet flow : ℕ) (calls : List Call)
    → (w.window_of (after_calls w (w.started packet flow) calls) ≡ GREATEST_WINDOW)
    × (w.period_of (after_calls w (w.started packet flow) calls) ≡ fixed_period period)

-- the fixed control
abbrev pub fixed : ℕ → Ways (Unit {0})
fixed period =
    ways (λ packet flow. tt) (λ c. GREATEST_WINDOW) (λ c. fixed_period period) (λ c seen. c) (λ c first sent seen. c) (λ c seen. c)

-- ---- the additive control

-- what the additive control knows
pub record Additive : Type 0 where
  -- the packets that may be in flight
  pub window : ℕ
  -- the window from which on it grows by one packet a window
  pub threshold : ℕ
  -- the acknowledged packets that have not yet made the window grow
  pub rest : ℕ
  -- the greatest offset that was sent at the last decrease by a NAK
  pub last_dec : Option ℕ

-- as a connection begins
abbrev pub starting : Additive
starting =
    record { window = FIRST_WINDOW; threshold = GREATEST_WINDOW; rest = 0; last_dec = None }

-- half of a window, and no less than the least one
abbrev pub half_of : ℕ → ℕ
half_of window = max (window / 2) LEAST_WINDOW

-- below the threshold the window grows by what was acknowledged
abbrev pub doubling : Additive → ℕ → Additive
doubling a newly = record a { window = min (a.window + newly) GREATEST_WINDOW }

-- from the threshold on it grows by one packet for each window that was acknowledged
abbrev pub adding : Additive → ℕ → Additive
adding a newly =
    record a {
      window = min (a.window + (a.rest + newly) / a.window) GREATEST_WINDOW;
      rest = (a.rest + newly) % a.window;
    }

abbrev pub grown : Additive → Feedback → Additive
grown a seen =
    if nat_lt a.window a.threshold then doubling a seen.newly else adding a seen.newly

-- a new loss halves the window
abbrev pub halved : Additive → ℕ → Additive
halved a sent =
    record {
      window = half_of a.window;
      threshold = half_of a.window;
      rest = 0;
      last_dec = Some (sent - 1);
    }

abbrev pub cut : Additive → ℕ → ℕ → Feedback → Additive
cut a first sent seen = if is_new_loss a.last_dec first then halved a sent else a

-- a timeout begins again from two packets, up to half of the window
abbrev pub begun_again : Additive → Feedback → Additive
begun_again a seen = record a { window = LEAST_WINDOW; threshold = half_of a.window; rest = 0 }

-- the additive control: it has no period
abbrev pub additive : Ways Additive
additive = ways (λ packet flow. starting) (λ a. a.window) (λ a. 0) grown cut begun_again

-- ---- what holds of the additive control

-- what the additive control is after the calls
abbrev pub aimd_after : List Call → Additive
aimd_after calls = after_calls additive starting calls

-- whatever this control is told, it answers what the additive control does
abbrev pub IsAdditive : {C : Type 0} → Ways C → Type 0
IsAdditive w =
    (packet flow : ℕ) (calls : List Call)
    → (w.window_of (after_calls w (w.started packet flow) calls) ≡ (aimd_after calls).window)
    × (w.period_of (after_calls w (w.started packet flow) calls) ≡ 0)

-- the call is no decrease
abbrev pub KeepsWindow : Additive → Call → Type 0
KeepsWindow a (OnAck seen) = ⊤
KeepsWindow a (OnNak first sent seen) = is_new_loss a.last_dec first ≡ false
KeepsWindow a (OnTimeout seen) = ⊥

-- none of the calls is a decrease
abbrev pub KeepWindow : Additive → List Call → Type 0
KeepWindow a [] = ⊤
KeepWindow a (call ∷ calls) = KeepsWindow a call × KeepWindow (after_call additive a call) calls

-- the window doesn't fall, and rises by at most this many packets
pub record RisesByAtMost (old new packets : ℕ) : Type 0 where
  pub no_fall : old ≤ new
  pub bound : new ≤ old + packets

-- between two decreases the window falls nowhere and rises by at most what was acknowledged there
abbrev pub RisesBetweenDecreases : Type 0
RisesBetweenDecreases =
    (before between : List Call) → KeepWindow (aimd_after before) between
    → RisesByAtMost
    (aimd_after before).window
    (aimd_after (before ++ between)).window
    (newly_acknowledged between)

-- a decrease never makes the window larger
abbrev pub DecreaseNeverRaises : Type 0
DecreaseNeverRaises =
    (before : List Call) (call : Call) → (KeepsWindow (aimd_after before) call → ⊥)
    → (aimd_after (before ++ call ∷ [])).window ≤ (aimd_after before).window

-- of two decreases by a NAK the later one's first loss is above all that was sent at the
-- earlier one, whatever allowed calls came between
abbrev pub LaterLossIsNew : Type 0
LaterLossIsNew =
    (before between : List Call) (first sent later_first : ℕ) (seen : Feedback)
    → AreAllowed before → first < sent → AreAllowed between
    → is_new_loss (aimd_after before).last_dec first ≡ true
    → is_new_loss (aimd_after (before ++ OnNak first sent seen ∷ between)).last_dec later_first ≡ true
    → (offset : ℕ) → offset < sent → offset < later_first
