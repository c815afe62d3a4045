-- Rate control: how many packets may be in flight, and how far apart they leave.
use Rattle.std.specs.Prelude.{◌≡◌, ℕ, zero, suc, ◌+◌, ◌-◌, ◌*◌, ◌/◌, ◌^◌, ◌<◌, ◌≤◌, Bool, true, false, nat_lt, nat_le, min, max, if◌then◌else◌, List, [], ◌∷◌, ⊤, Option, Some, None}
use Rattle.udt_model.specs.declared.limits.TheConstants.{SYN, FIRST_WINDOW, LEAST_WINDOW, GREATEST_WINDOW, GREATEST_PERIOD}

-- ---- what every control has

-- what a control is told: the packets newly acknowledged, the peer's receiving rate and the link's
-- capacity in packets a second, and the round-trip time in microseconds
pub record Feedback : Type 0 where
  pub newly : ℕ
  pub rate : ℕ
  pub capacity : ℕ
  pub rtt : ℕ

-- a control as functions of its value: what it begins with for a packet size in bytes and a flow
-- window, what it answers (the window in packets, the period in nanoseconds), and what is left by
-- an ACK, by a NAK with its first lost offset and the first offset never sent,
-- and by a timeout
pub record Ways (C : Type 0) : Type 0 where
  pub started : ℕ → ℕ → C
  pub window_of : C → ℕ
  pub period_of : C → ℕ
  pub after_ack : C → Feedback → C
  pub after_nak : C → ℕ → ℕ → Feedback → C
  pub after_timeout : C → Feedback → C

-- these functions as one control
abbrev pub ways :
    {C : Type 0} → (ℕ → ℕ → C) → (C → ℕ) → (C → ℕ) → (C → Feedback → C)
    → (C → ℕ → ℕ → Feedback → C) → (C → Feedback → C) → Ways C
ways started window_of period_of after_ack after_nak after_timeout =
    record {
      started = started;
      window_of = window_of;
      period_of = period_of;
      after_ack = after_ack;
      after_nak = after_nak;
      after_timeout = after_timeout;
    }

-- a call of a control: an ACK, a NAK, a timeout
pub data Call : Type 0 where
  OnAck : (seen : Feedback) → Call
  OnNak : (first sent : ℕ) → (seen : Feedback) → Call
  OnTimeout : (seen : Feedback) → Call

-- what the call leaves
abbrev pub after_call : {C : Type 0} → Ways C → C → Call → C
after_call w c (OnAck seen) = w.after_ack c seen
after_call w c (OnNak first sent seen) = w.after_nak c first sent seen
after_call w c (OnTimeout seen) = w.after_timeout c seen

-- what the calls leave, one after the other
abbrev pub after_calls : {C : Type 0} → Ways C → C → List Call → C
after_calls w c [] = c
after_calls w c (call ∷ calls) = after_calls w (after_call w c call) calls

-- rates that an ACK can carry: they have 32 bits
pub record IsMeasured (seen : Feedback) : Type 0 where
  pub rate : seen.rate < 2 ^ 32
  pub capacity : seen.capacity < 2 ^ 32

-- a call that may be made: its rates were measured, and a lost packet was sent
abbrev pub IsAllowed : Call → Type 0
IsAllowed (OnAck seen) = IsMeasured seen
IsAllowed (OnNak first sent seen) = (first < sent) × IsMeasured seen
IsAllowed (OnTimeout seen) = IsMeasured seen

-- each of the calls may be made
abbrev pub AreAllowed : List Call → Type 0
AreAllowed [] = ⊤
AreAllowed (call ∷ calls) = IsAllowed call × AreAllowed calls

-- the packets that the calls newly acknowledge
abbrev pub newly_acknowledged : List Call → ℕ
newly_acknowledged [] = 0
newly_acknowledged (OnAck seen ∷ calls) = seen.newly + newly_acknowledged calls
newly_acknowledged (OnNak first sent seen ∷ calls) = newly_acknowledged calls
newly_acknowledged (OnTimeout seen ∷ calls) = newly_acknowledged calls

-- the control lets at least two packets be in flight, and sends at least one a second
pub record IsInBounds (window period : ℕ) : Type 0 where
  pub least : LEAST_WINDOW ≤ window
  pub longest : period ≤ GREATEST_PERIOD

-- after every list of allowed calls, begun at a packet of at least one byte, its answers stay in their bounds
abbrev pub StaysInBounds : {C : Type 0} → Ways C → Type 0
StaysInBounds w =
    (packet flow : ℕ) (calls : List Call) → 1 ≤ packet → AreAllowed calls
    → IsInBounds
    (w.window_of (after_calls w (w.started packet flow) calls))
    (w.period_of (after_calls w (w.started packet flow) calls))

-- a loss that a decrease hasn't answered: it is of a packet sent after the last decrease
abbrev pub is_new_loss : Option ℕ → ℕ → Bool
is_new_loss None first = true
is_new_loss (Some last_dec) first = nat_lt last_dec first

-- ---- the native control

-- what the native control knows
pub record Pacing : Type 0 where
  -- the bytes of a packet
  pub packet_bytes : ℕ
  -- the peer's flow window as the connection began, in packets
  pub flow : ℕ
  -- whether slow start lasts
  pub slow : Bool
  -- the packets that may be in flight
  pub window : ℕ
  -- the time from one packet to the next, in nanoseconds
  pub period_nanos : ℕ
  -- the greatest offset that was sent at the last decrease
  pub last_dec : Option ℕ

-- a SYN in nanoseconds, counted in millionths
abbrev pub syn_nano_millionths : ℕ
syn_nano_millionths = SYN * 1000000000

-- as a connection begins: slow start, with the first window and no period
abbrev pub opening : ℕ → ℕ → Pacing
opening packet flow =
    record {
      packet_bytes = packet;
      flow = flow;
      slow = true;
      window = FIRST_WINDOW;
      period_nanos = 0;
      last_dec = None;
    }

-- the packets of a second at this period
abbrev pub speed_at : ℕ → ℕ
speed_at period = 1000000000 / period

-- a period within its ends
abbrev pub bounded_period : ℕ → ℕ
bounded_period period = max 1 (min period GREATEST_PERIOD)

-- the period that slow start ends with: that of the receiving rate, or, where none is known, that
-- of one window a round trip
abbrev pub measured_period : ℕ → Feedback → ℕ
measured_period window seen =
    if nat_lt 0 seen.rate then 1000000000 / seen.rate
    else 1000 * (seen.rtt + SYN) / window

-- the end of slow start. It is no decrease
abbrev pub ended : Pacing → Feedback → Pacing
ended n seen =
    record n { slow = false; period_nanos = bounded_period (measured_period n.window seen) }

-- in slow start the window grows by what was acknowledged
abbrev pub opened : Pacing → Feedback → Pacing
opened n seen = record n { window = min (n.window + seen.newly) GREATEST_WINDOW }

-- the first of the powers p, 10 p, 100 p .. that is at least x, of this many
abbrev pub first_power : ℕ → ℕ → ℕ → ℕ
first_power zero p x = p
first_power (suc more) p x = if nat_le x p then p else first_power more (p * 10) x

-- the least power of ten that is at least x
unfoldable pub power_of_ten : ℕ → ℕ
power_of_ten x = first_power x 1 x

-- the bits of a second that the link has beyond those sent at this period
abbrev pub spare_bits : ℕ → ℕ → ℕ → ℕ
spare_bits capacity period packet = (capacity - speed_at period) * packet * 8

-- the least increase, in millionths of a packet
abbrev pub least_increase : ℕ → ℕ
least_increase packet = 1000000 / packet

-- by how much the packets of one SYN increase, in millionths of a packet
abbrev pub increase_of : ℕ → ℕ → ℕ → ℕ
increase_of capacity period packet =
    if nat_lt (speed_at period) capacity
    then max (3 * power_of_ten (spare_bits capacity period packet) / (2 * packet)) (least_increase packet)
    else least_increase packet

-- the period at which one SYN has this many millionths of a packet more
abbrev pub shorter_of : ℕ → ℕ → ℕ
shorter_of period inc =
    max 1 (period * syn_nano_millionths / (period * inc + syn_nano_millionths))

-- the window that a round trip takes at this receiving rate
abbrev pub steady_window : Feedback → ℕ
steady_window seen =
    min (seen.rate * (seen.rtt + SYN) / 1000000 + FIRST_WINDOW) GREATEST_WINDOW

-- after slow start an ACK sets the window and shortens the period
abbrev pub sped_up : Pacing → Feedback → Pacing
sped_up n seen =
    record n {
      window = steady_window seen;
      period_nanos =
          shorter_of n.period_nanos (increase_of seen.capacity n.period_nanos n.packet_bytes);
    }

-- a decrease makes the period longer by an eighth
abbrev pub longer_of : ℕ → ℕ
longer_of period = min ((9 * period + 7) / 8) GREATEST_PERIOD

-- a decrease remembers the greatest offset sent
abbrev pub slowed_down : Pacing → ℕ → Pacing
slowed_down n sent =
    record n { period_nanos = longer_of n.period_nanos; last_dec = Some (sent - 1) }

-- an ACK, in slow start or not
abbrev pub acknowledged : Bool → Pacing → Feedback → Pacing
acknowledged true n seen =
    if nat_le n.flow (opened n seen).window then ended (opened n seen) seen else opened n seen
acknowledged false n seen = sped_up n seen

abbrev pub after_ack : Pacing → Feedback → Pacing
after_ack n seen = acknowledged n.slow n seen

-- a NAK, in slow start or not
abbrev pub reported : Bool → Pacing → ℕ → ℕ → Feedback → Pacing
reported true n first sent seen = ended n seen
reported false n first sent seen = if is_new_loss n.last_dec first then slowed_down n sent else n

abbrev pub after_nak : Pacing → ℕ → ℕ → Feedback → Pacing
after_nak n first sent seen = reported n.slow n first sent seen

-- a timeout ends slow start, and is nothing afterwards
abbrev pub after_timeout : Pacing → Feedback → Pacing
after_timeout n seen = if n.slow then ended n seen else n

-- the native control
abbrev pub native : Ways Pacing
native = ways opening (λ n. n.window) (λ n. n.period_nanos) after_ack after_nak after_timeout

-- ---- what holds of the native control

-- p is the least power of ten that is at least x
pub record IsLeastPower (p x : ℕ) : Type 0 where
  pub exponent : ℕ
  pub is_power : p ≡ 10 ^ exponent
  pub reaches : x ≤ p
  pub is_least : (k : ℕ) → x ≤ 10 ^ k → p ≤ 10 ^ k

-- the power that an increase takes is the least one
abbrev pub PowerIsLeast : Type 0
PowerIsLeast = (x : ℕ) → IsLeastPower (power_of_ten x) x

-- a state that calls can lead to: the window is no smaller than the first one and no larger than
-- the largest, there is no period in slow start, and after it one from a nanosecond to a second
pub record IsPaced (n : Pacing) : Type 0 where
  pub packet : 1 ≤ n.packet_bytes
  pub window : FIRST_WINDOW ≤ n.window
  pub window_end : n.window ≤ GREATEST_WINDOW
  pub period : n.period_nanos ≤ GREATEST_PERIOD
  pub slow_start : n.slow ≡ true → n.period_nanos ≡ 0
  pub started : n.slow ≡ false → 1 ≤ n.period_nanos

-- after every list of allowed calls, begun at a packet of at least one byte, the native control is in such a state
abbrev pub NativeIsPaced : Type 0
NativeIsPaced =
    (packet flow : ℕ) (calls : List Call) → 1 ≤ packet → AreAllowed calls
    → IsPaced (after_calls native (opening packet flow) calls)

-- the call tells of packets that count as lost
abbrev pub TellsOfLoss : Call → Type 0
TellsOfLoss (OnAck seen) = ⊥
TellsOfLoss (OnNak first sent seen) = ⊤
TellsOfLoss (OnTimeout seen) = ⊤

-- the sender is no faster than before: no more packets in flight, and none of them sooner
pub record IsNoFaster (old new : Pacing) : Type 0 where
  pub window : new.window ≤ old.window
  pub period : old.period_nanos ≤ new.period_nanos

-- a loss never makes the sender faster
abbrev pub LossNeverSpeedsUp : Type 0
LossNeverSpeedsUp =
    (n : Pacing) (call : Call) → IsPaced n → TellsOfLoss call → IsNoFaster n (after_call native n call)

-- after slow start an ACK never makes the period longer
abbrev pub AckNeverLengthensPeriod : Type 0
AckNeverLengthensPeriod =
    (n : Pacing) (seen : Feedback) → IsPaced n → n.slow ≡ false
    → (after_ack n seen).period_nanos ≤ n.period_nanos

-- while slow start lasts, no call takes from the window
abbrev pub SlowStartNeverShrinks : Type 0
SlowStartNeverShrinks =
    (n : Pacing) (call : Call) → IsPaced n → n.slow ≡ true → n.window ≤ (after_call native n call).window

-- the NAK makes the sender slower: slow start is over, and its first loss is new
pub record IsSlowedBy (n : Pacing) (first : ℕ) : Type 0 where
  pub past_slow_start : n.slow ≡ false
  pub is_new : is_new_loss n.last_dec first ≡ true

-- of two decreases the later one answers a loss among the packets sent after the earlier one
abbrev pub OneDecreaseAFlight : Type 0
OneDecreaseAFlight =
    (n : Pacing) (between : List Call) (first sent later_first : ℕ) (seen : Feedback)
    → first < sent → AreAllowed between
    → IsSlowedBy n first
    → IsSlowedBy (after_calls native (after_nak n first sent seen) between) later_first
    → (offset : ℕ) → offset < sent → offset < later_first
