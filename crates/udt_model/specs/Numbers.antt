-- Offsets count the packets of one direction from 0, and a packet carries 31 bits of one: its sequence number.
use Rattle.std.specs.Prelude.{◌≡◌, ℕ, ◌+◌, ◌-◌, ◌%◌, ◌^◌, ◌<◌, Option, Some, None, ◌&&◌, nat_lt, nat_le, if◌then◌else◌}

-- the number that a packet carries, in a direction that begins with this initial sequence number (draft-gg-udt-03, section 3)
abbrev pub sequence_number : ℕ → ℕ → ℕ
sequence_number isn offset = (isn + offset) % 2 ^ 31

-- the offset has this sequence number, and lies less than 2^30 from the base, where the connection stands
pub record IsNear (isn base number offset : ℕ) : Type 0 where
  pub carries : sequence_number isn offset ≡ number
  pub not_above : offset < base + 2 ^ 30
  pub not_below : base < offset + 2 ^ 30

-- how far a sequence number lies ahead of that of the base, round the end if need be
abbrev pub ahead_of : ℕ → ℕ → ℕ → ℕ
ahead_of isn base number = (number + 2 ^ 31 - sequence_number isn base) % 2 ^ 31

-- the offset that lies so far ahead, or after where that is the shorter way
abbrev pub offset_ahead : ℕ → ℕ → Option ℕ
offset_ahead base ahead =
    if nat_lt ahead (2 ^ 30)
    then Some (base + ahead)
    else (if nat_lt (2 ^ 30) ahead && nat_le (2 ^ 31) (base + ahead) then Some (base + ahead - 2 ^ 31) else None)

-- the one offset near the base with this sequence number, where there is one
unfoldable pub near : ℕ → ℕ → ℕ → Option ℕ
near isn base number = if nat_lt number (2 ^ 31) then offset_ahead base (ahead_of isn base number) else None
