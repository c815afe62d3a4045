-- Which ranges go on from one another, by a test of whether two tags are the same.
use Rattle.std.specs.Prelude.{◌≡◌, ℕ, ◌+◌, ◌==◌, ◌&&◌, Bool, true, false, Option, List, [], ◌∷◌, if◌then◌else◌}
use Rattle.udt_ranges.specs.declared.range.Range.{Range}
use Rattle.udt_ranges.specs.Cursors.{before, following}

module _ {T : Type 0} (same : T → T → Bool) where
  -- one range goes on where the other ends, with the same tag
  abbrev pub joins : Range T → Range T → Bool
  joins r s = r.last + 1 == s.first && same r.tag s.tag

  -- the first of the ranges is no continuation of this one
  abbrev pub IsApart : Range T → List (Range T) → Type 0
  IsApart r [] = Unit {0}
  IsApart r (s ∷ rs) = joins r s ≡ false

  -- no range goes on where one before it ends, with the same tag
  unfoldable pub IsMaximal : List (Range T) → Type 0
  IsMaximal [] = Unit {0}
  IsMaximal (r ∷ rs) = IsApart r rs × IsMaximal rs

  -- the last range goes on with one more where it can
  unfoldable pub pushed_after : Range T → List (Range T) → Range T → List (Range T)
  pushed_after r [] x = if joins r x then record r { last = x.last } ∷ [] else r ∷ x ∷ []
  pushed_after r (s ∷ rs) x = r ∷ pushed_after s rs x

  -- ranges with one more after them
  abbrev pub pushed : List (Range T) → Range T → List (Range T)
  pushed [] x = x ∷ []
  pushed (r ∷ rs) x = pushed_after r rs x

  -- a range with the one after it, where that goes on from it
  unfoldable pub absorbed : Range T → List (Range T) → Range T
  absorbed x [] = x
  absorbed x (s ∷ rs) = if joins x s then record x { last = s.last } else x

  -- the ranges that are then left after it
  unfoldable pub unabsorbed : Range T → List (Range T) → List (Range T)
  unabsorbed x [] = []
  unabsorbed x (s ∷ rs) = if joins x s then rs else s ∷ rs

  -- so it is with the ranges before a place, and with those after it
  abbrev pub AreMaximal : Option ℕ → List (Range T) → Type 0
  AreMaximal cursor ranges = IsMaximal (before cursor ranges) × IsMaximal (following cursor ranges)

-- ranges without tags all have the same
abbrev pub untagged : Unit {0} → Unit {0} → Bool
untagged a b = true
