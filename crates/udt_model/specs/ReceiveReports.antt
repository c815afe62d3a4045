-- Which ACKs and NAKs the receiving half emits, and what an ACK2 confirms (draft-gg-udt-03, sections 4 and 5).
use Rattle.std.specs.Prelude.{ℕ, ◌+◌, ◌-◌, ◌*◌, ◌/◌, ◌==◌, max, Bool, false, ◌&&◌, ◌||◌, List, [], ◌∷◌, Option, Some, None, nat_lt, if◌then◌else◌}
use Rattle.udt_model.specs.declared.limits.TheConstants.{LAST_ACK_NUMBER, FEWEST_BLOCKS, SYN}
use Rattle.udt_model.specs.declared.packets.AckBody.{AckBody}
use Rattle.udt_model.specs.declared.packets.AckBody.TheVariants.{Light, Full}
use Rattle.udt_model.specs.declared.sockets.SentAck.{SentAck}
use Rattle.udt_model.specs.Losses.{LostRange, Missing, report, after_report}
use Rattle.udt_model.specs.Numbers.{sequence_number}
use Rattle.udt_model.specs.ReceiveHalf.{Receiving}
use Rattle.udt_model.specs.Timing.{RoundTrip, after_sample, period_of, speed_of, capacity_of, with_note, last_under, without_last_under}

-- ---- ACKs

-- the ACK offset: the least that is missing, or the greatest that arrived plus one
abbrev pub least_missing : ℕ → List Missing → ℕ
least_missing top [] = top
least_missing top (lost ∷ others) = lost.offset

abbrev pub ack_offset : Receiving → ℕ
ack_offset r = least_missing r.top r.missing

-- the free blocks that an ACK of all before an offset carries, and no fewer than 2
abbrev pub room_from : Receiving → ℕ → ℕ
room_from r offset = max FEWEST_BLOCKS (r.blocks.capacity - (offset - r.blocks.base))

-- the number of the full ACK after this one. They are counted from 1
abbrev pub number_after : Option SentAck → ℕ
number_after None = 1
number_after (Some ack) = if ack.number == LAST_ACK_NUMBER then 1 else ack.number + 1

-- the last full ACK named this offset, less than two round trips ago
abbrev pub is_just_acked : ℕ → ℕ → RoundTrip → Option SentAck → Bool
is_just_acked offset now known None = false
is_just_acked offset now known (Some ack) = ack.offset == offset && nat_lt (now - ack.moment) (2 * known.rtt)

-- what the ACK timer does: it isn't due yet, there is nothing new to acknowledge, or a full ACK is emitted
pub data AckOutcome : Type 0 where
  IsEarly : AckOutcome
  IsKnown : AckOutcome
  EmitsAck : (ack : SentAck) → AckOutcome

unfoldable pub ack_outcome : Receiving → ℕ → RoundTrip → AckOutcome
ack_outcome r now known =
    if nat_lt now r.ack_due
    then IsEarly
    else (if (ack_offset r == r.confirmed) || is_just_acked (ack_offset r) now known r.last_ack
    then IsKnown
    else EmitsAck (record { number = number_after r.last_ack; offset = ack_offset r; moment = now }))

abbrev pub after_ack_outcome : Receiving → ℕ → AckOutcome → Receiving
after_ack_outcome r now IsEarly = r
after_ack_outcome r now IsKnown = record r { ack_due = now + SYN }
after_ack_outcome r now (EmitsAck ack) = record r {
  ack_due = now + SYN;
  history = with_note r.history ack;
  last_ack = Some ack;
  fresh = 0;
}

-- the half after the ACK timer was looked at
unfoldable pub after_ack_timer : Receiving → ℕ → RoundTrip → Receiving
after_ack_timer r now known = after_ack_outcome r now (ack_outcome r now known)

-- a full ACK of all before an offset: the round trip, the room, the receiving rate and the link capacity
abbrev pub full_ack : Receiving → RoundTrip → ℕ → AckBody
full_ack r known offset =
    Full (sequence_number r.isn offset) known.rtt known.var (room_from r offset) (speed_of r.arrivals) (capacity_of r.pairs)

-- a light ACK of all before the ACK offset
abbrev pub light_ack : Receiving → AckBody
light_ack r = Light (sequence_number r.isn (ack_offset r))

-- the number and the body of the ACK that the timer emits, where it emits one
abbrev pub ack_emitted : Receiving → RoundTrip → AckOutcome → Option (ℕ × AckBody)
ack_emitted r known IsEarly = None
ack_emitted r known IsKnown = None
ack_emitted r known (EmitsAck ack) = Some (ack.number, full_ack r known ack.offset)

unfoldable pub ack_answer : Receiving → ℕ → RoundTrip → Option (ℕ × AckBody)
ack_answer r now known = ack_emitted r known (ack_outcome r now known)

-- ---- ACK2s

-- the half once an ACK2 answered this ACK
abbrev pub confirmed_by : Receiving → ℕ → Option SentAck → Receiving
confirmed_by r number None = r
confirmed_by r number (Some ack) = record r {
  history = without_last_under number r.history;
  confirmed = max r.confirmed ack.offset;
}

unfoldable pub after_ack2 : Receiving → ℕ → Receiving
after_ack2 r number = confirmed_by r number (last_under number r.history)

-- the time from the ACK to its ACK2 is a sample of the round trip
abbrev pub round_trip_to : ℕ → RoundTrip → Option SentAck → RoundTrip
round_trip_to now known None = known
round_trip_to now known (Some ack) = after_sample known (now - ack.moment)

-- ---- NAKs

-- how many words a NAK has at most
abbrev pub nak_words : Receiving → ℕ
nak_words r = max 2 (r.payload / 4)

-- what the NAK timer reports at this moment
unfoldable pub nak_report : Receiving → ℕ → RoundTrip → List LostRange
nak_report r now known = if nat_lt now r.nak_due then [] else report now known.rtt (nak_words r) r.missing

-- the half after the NAK timer was looked at
unfoldable pub after_nak_timer : Receiving → ℕ → RoundTrip → Receiving
after_nak_timer r now known =
    if nat_lt now r.nak_due
    then r
    else record r {
      missing = after_report now (report now known.rtt (nak_words r) r.missing) r.missing;
      nak_due = now + period_of known;
    }
