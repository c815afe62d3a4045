-- What the calls for ACKs and NAKs answer.
use Rattle.std.specs.Prelude.{ℕ, Bool, true, false, min, List, [], ◌∷◌, Option, Some, None}
use Rattle.udt_model.specs.Losses.{LostRange}
use Rattle.udt_model.specs.Numbers.{near}
use Rattle.udt_model.specs.SendHalf.{Sending, acked_of}
use Rattle.udt_model.specs.SendReports.{Acking, Acks, IsStale, entering_range, from_first}
use Rattle.udt_model.specs.Wire.{WireRange}

-- the ACK isn't stale
abbrev pub is_taken : Acking → Bool
is_taken (Acks offset) = true
is_taken IsStale = false

-- what becomes of an ACK of all below this offset, where there is one
abbrev pub acks : Option ℕ → Acking
acks None = IsStale
acks (Some offset) = Acks offset

-- some range enters the list
abbrev pub any_enters : List LostRange → Bool
any_enters [] = false
any_enters (range ∷ ranges) = true

-- the one range with these ends, or none
abbrev pub range_of : Option (ℕ × ℕ) → List LostRange
range_of None = []
range_of (Some ends) = record { first = ends.0; last = ends.1 } ∷ []

-- what enters the list of a NAK's range
abbrev pub entering_of : {C : Type 0} → Sending C → WireRange → List LostRange
entering_of s range =
    entering_range s (from_first s (near s.isn (acked_of s) range.first)) (near s.isn (acked_of s) range.last)

-- the lesser of an offset, where there is one, and another
abbrev pub lesser : Option ℕ → ℕ → ℕ
lesser None first = first
lesser (Some least) first = min least first

-- the least first offset, of this one and of those of the ranges, where there is one
abbrev pub least_of : Option ℕ → List LostRange → Option ℕ
least_of least [] = least
least_of least (range ∷ ranges) = least_of (Some (lesser least range.first)) ranges
