-- What ACKs, NAKs and timeouts change in the sending half, and what they tell the rate control (draft-gg-udt-03, sections
-- 4 and 5).
use Rattle.std.specs.Prelude.{ℕ, zero, ◌+◌, ◌-◌, ◌*◌, ◌/◌, min, max, Bool, ◌&&◌, ◌||◌, List, [], ◌∷◌, ◌++◌, Option, Some, None, option_map, nat_lt, nat_le, if◌then◌else◌}
use Rattle.udt_model.specs.declared.limits.TheConstants.{FEWEST_BLOCKS}
use Rattle.udt_model.specs.declared.packets.AckBody.{AckBody}
use Rattle.udt_model.specs.declared.packets.AckBody.TheVariants.{Light, Buffer, Full}
use Rattle.udt_model.specs.Numbers.{near}
use Rattle.udt_model.specs.Losses.{LostRange, with_range, from_offset}
use Rattle.udt_model.specs.Rate.{Feedback, Ways}
use Rattle.udt_model.specs.SendBlocks.{after_release}
use Rattle.udt_model.specs.SendHalf.{Sending, acked_of, clamped}
use Rattle.udt_model.specs.Timing.{RoundTrip, after_sample}
use Rattle.udt_model.specs.Wire.{WireRange}

-- what becomes of an ACK: all blocks below an offset have arrived, or it is stale
pub data Acking : Type 0 where
  Acks : (offset : ℕ) → Acking
  IsStale : Acking

-- seven eighths of what was known and an eighth of what was measured, where both are there
abbrev pub averaged : ℕ → ℕ → ℕ
averaged known zero = known
averaged zero measured = measured
averaged known measured = (7 * known + measured) / 8

-- the sequence number before which all has arrived
abbrev pub acked_number : AckBody → ℕ
acked_number (Light ack) = ack
acked_number (Buffer ack rtt var buffer) = ack
acked_number (Full ack rtt var buffer rate capacity) = ack

-- how many packets the peer has room for, once this many more have arrived: a light ACK doesn't say
abbrev pub flow_after : ℕ → ℕ → AckBody → ℕ
flow_after flow newly (Light ack) = max FEWEST_BLOCKS (flow - newly)
flow_after flow newly (Buffer ack rtt var buffer) = clamped buffer
flow_after flow newly (Full ack rtt var buffer rate capacity) = clamped buffer

-- an ACK tells the peer's round-trip time, unless it is light
abbrev pub sampled : RoundTrip → AckBody → RoundTrip
sampled known (Light ack) = known
sampled known (Buffer ack rtt var buffer) = after_sample known rtt
sampled known (Full ack rtt var buffer rate capacity) = after_sample known rtt

-- the round trip once an ACK has become of this
abbrev pub round_trip_after : RoundTrip → AckBody → Acking → RoundTrip
round_trip_after known body (Acks offset) = sampled known body
round_trip_after known body IsStale = known

-- the list with all offsets of these ranges, each once
unfoldable pub with_ranges : List LostRange → List ℕ → List ℕ
with_ranges [] lost = lost
with_ranges (range ∷ ranges) lost = with_ranges ranges (with_range range.first range.last lost)

-- the least first offset, of this one and of those of the ranges
abbrev pub least_first : ℕ → List LostRange → ℕ
least_first first [] = first
least_first first (range ∷ ranges) = least_first (min first range.first) ranges

module _ {C : Type 0} where
  -- ---- ACKs

  -- what is below the kept blocks, or above all that were sent, is stale
  abbrev pub acking_near : Sending C → Option ℕ → Acking
  acking_near s None = IsStale
  acking_near s (Some offset) =
      if nat_lt offset (acked_of s) || nat_lt s.next offset then IsStale else Acks offset

  -- what becomes of an ACK of all before this sequence number
  unfoldable pub acking : Sending C → ℕ → Acking
  acking s number = acking_near s (near s.isn (acked_of s) number)

  -- the half without the blocks below this offset, as an ACK of them leaves it
  abbrev pub released : Sending C → AckBody → ℕ → Sending C
  released s body offset = record s {
    blocks = after_release s.blocks offset;
    lost = from_offset offset s.lost;
    flow = flow_after s.flow (offset - acked_of s) body;
  }

  -- ---- NAKs

  -- a NAK's range from an offset on enters the list where it ends at one that was sent and isn't acknowledged
  abbrev pub entering_range : Sending C → ℕ → Option ℕ → List LostRange
  entering_range s from None = []
  entering_range s from (Some last) =
      if nat_lt last s.next && nat_le from last then record { first = from; last = last } ∷ [] else []

  -- it begins at the first offset that isn't acknowledged where its own first one is below that, or near none
  abbrev pub from_first : Sending C → Option ℕ → ℕ
  from_first s None = acked_of s
  from_first s (Some first) = max first (acked_of s)

  -- the ranges of a NAK that enter the list, in its order
  unfoldable pub entering : Sending C → List WireRange → List LostRange
  entering s [] = []
  entering s (range ∷ ranges) =
      entering_range s (from_first s (near s.isn (acked_of s) range.first)) (near s.isn (acked_of s) range.last)
      ++ entering s ranges

  -- ---- timeouts

  -- a packet is in flight
  abbrev pub has_unacknowledged : Sending C → Bool
  has_unacknowledged s = nat_lt (acked_of s) s.next

  -- what a control is told, with this many packets newly acknowledged
  abbrev pub feedback : Sending C → ℕ → RoundTrip → Feedback
  feedback s newly known = record { newly = newly; rate = s.rate; capacity = s.capacity; rtt = known.rtt }

module _ {C : Type 0} (w : Ways C) where
  -- ---- what the control is told

  -- a full ACK carries the peer's receiving rate and the link capacity, and the control is told of it
  abbrev pub measured : Sending C → RoundTrip → ℕ → AckBody → Sending C
  measured s known newly (Light ack) = s
  measured s known newly (Buffer ack rtt var buffer) = s
  measured s known newly (Full ack rtt var buffer rate capacity) =
      let told = record s { rate = averaged s.rate rate; capacity = averaged s.capacity capacity } in
      record told { control = option_map (λ c. w.after_ack c (feedback told newly known)) s.control }

  abbrev pub after_acking : Sending C → RoundTrip → AckBody → Acking → Sending C
  after_acking s known body (Acks offset) =
      measured (released s body offset) (sampled known body) (offset - acked_of s) body
  after_acking s known body IsStale = s

  -- the half after an ACK arrived, with what was known of the round trip before
  unfoldable pub after_ack : Sending C → RoundTrip → AckBody → Sending C
  after_ack s known body = after_acking s known body (acking s (acked_number body))

  abbrev pub after_entering : Sending C → RoundTrip → List LostRange → Sending C
  after_entering s known [] = s
  after_entering s known (range ∷ ranges) = record s {
    lost = with_ranges (range ∷ ranges) s.lost;
    control = option_map (λ c. w.after_nak c (least_first range.first ranges) s.next (feedback s 0 known)) s.control;
  }

  -- the half after a NAK arrived
  unfoldable pub after_nak : Sending C → RoundTrip → List WireRange → Sending C
  after_nak s known ranges = after_entering s known (entering s ranges)

  -- the half once all that is in flight counts as lost
  unfoldable pub after_timeout : Sending C → RoundTrip → Sending C
  after_timeout s known =
      if has_unacknowledged s
      then record s {
        lost = with_range (acked_of s) (s.next - 1) s.lost;
        control = option_map (λ c. w.after_timeout c (feedback s 0 known)) s.control;
      }
      else s
