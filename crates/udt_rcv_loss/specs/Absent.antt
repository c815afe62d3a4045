-- The packets that a receiver waits for, and the window that they lie in.
use Rattle.std.specs.Prelude.{ℕ, ◌+◌, ◌<◌, ◌≤◌, List, [], ◌∷◌, map}
use Rattle.udt_model.specs.Losses.{Missing}
use Rattle.udt_ranges.specs.Offsets.{Rising}

-- what a receiver's list is seen as: the room that its offsets have, and the packets with their reports
pub record MissingList : Type 0 where
  pub window : ℕ
  pub missing : List Missing

-- the offsets of packets, without their reports
abbrev pub offsets_in : List Missing → List ℕ
offsets_in missing = map (λ m. m.offset) missing

-- the least offset, or another one where there is none
abbrev pub first_or : ℕ → List Missing → ℕ
first_or other [] = other
first_or other (m ∷ ms) = m.offset

-- the offsets rise, within a window of the first
abbrev pub IsInWindow : MissingList → Type 0
IsInWindow l = Rising (first_or 0 l.missing) (first_or 0 l.missing + l.window) (offsets_in l.missing)

-- all offsets lie below this one
unfoldable pub AllBelow : ℕ → List Missing → Type 0
AllBelow offset [] = Unit {0}
AllBelow offset (m ∷ ms) = (m.offset < offset) × AllBelow offset ms

-- no offset lies below this one
unfoldable pub AllFrom : ℕ → List Missing → Type 0
AllFrom offset [] = Unit {0}
AllFrom offset (m ∷ ms) = (offset ≤ m.offset) × AllFrom offset ms
