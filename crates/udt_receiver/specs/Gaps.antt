-- What ACKs and NAKs name, said without how it is found.
use Rattle.std.specs.Prelude.{◌≡◌, ℕ, ◌+◌, ◌<◌, ◌≤◌, true, false, List, Option, None}
use Rattle.udt_model.specs.declared.answers.Dropped.{Dropped}
use Rattle.udt_model.specs.declared.answers.Dropped.TheVariants as dropped
use Rattle.udt_model.specs.declared.limits.TheConstants.{PACKET_LIMIT, LAST_ACK_NUMBER}
use Rattle.udt_model.specs.Losses.{LostRange, is_within}
use Rattle.udt_model.specs.Numbers.{sequence_number}
use Rattle.udt_model.specs.ReceiveBlocks.{is_taken}
use Rattle.udt_model.specs.ReceiveHalf.{Receiving}

-- the ends of a gap: of packets after all that have arrived, for each of which there is room
pub record IsGap (r : Receiving) (gap : ℕ × ℕ) : Type 0 where
  pub from : gap.0 ≡ r.top
  pub base : r.blocks.base ≤ gap.0
  pub order : gap.0 ≤ gap.1
  pub room : gap.1 < r.blocks.base + r.blocks.capacity
  pub limit : gap.1 < PACKET_LIMIT

-- the range with these ends
abbrev pub range_by : ℕ × ℕ → LostRange
range_by ends = record { first = ends.0; last = ends.1 }

-- the gap that a message drop request showed
abbrev pub gap_of : Dropped → Option (ℕ × ℕ)
gap_of (dropped.Taken gap) = gap
gap_of dropped.Stale = None

-- everything before this offset has arrived or was dropped by the peer, and the packet with this offset has not
pub record IsFirstGap (r : Receiving) (offset : ℕ) : Type 0 where
  pub from : r.blocks.base ≤ offset
  pub to : offset ≤ r.top
  pub arrived : (n : ℕ) → r.blocks.base ≤ n → n < offset → is_taken n r.blocks.placed ≡ true
  pub absent : is_taken offset r.blocks.placed ≡ false

-- the sequence number is that of the first packet that has not arrived
pub record Acknowledges (r : Receiving) (number : ℕ) : Type 0 where
  pub offset : ℕ
  pub carries : number ≡ sequence_number r.isn offset
  pub first : IsFirstGap r offset

-- an ACK's number. A light ACK carries 0 in its place
pub record IsAckNumber (number : ℕ) : Type 0 where
  pub some : 0 < number
  pub fits : number ≤ LAST_ACK_NUMBER

-- the packet with this offset has not arrived, and one after it has
pub record IsLost (r : Receiving) (offset : ℕ) : Type 0 where
  pub from : r.blocks.base ≤ offset
  pub below : offset < r.top
  pub room : offset < r.blocks.base + r.blocks.capacity
  pub absent : is_taken offset r.blocks.placed ≡ false

-- each offset of the ranges is lost
abbrev pub AreLost : Receiving → List LostRange → Type 0
AreLost r ranges = (offset : ℕ) → is_within ranges offset ≡ true → IsLost r offset
