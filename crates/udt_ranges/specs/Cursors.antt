-- Places in a list of ranges: at its front, or after the range that begins with an offset.
use Rattle.std.specs.Prelude.{◌≡◌, ℕ, ◌==◌, Bool, true, false, Option, Some, None, List, [], ◌∷◌, ◌++◌, drop, if◌then◌else◌}
use Rattle.udt_ranges.specs.declared.range.Range.{Range}

module _ {T : Type 0} where
  -- the first offset of the first range
  abbrev pub first_of : List (Range T) → Option ℕ
  first_of [] = None
  first_of (r ∷ rs) = Some r.first

  -- the ranges before the one that begins with this offset
  unfoldable pub ahead : ℕ → List (Range T) → List (Range T)
  ahead at [] = []
  ahead at (r ∷ rs) = if r.first == at then [] else r ∷ ahead at rs

  -- the ranges up to the one that begins with this offset
  unfoldable pub through : ℕ → List (Range T) → List (Range T)
  through at [] = []
  through at (r ∷ rs) = if r.first == at then r ∷ [] else r ∷ through at rs

  -- the ranges after the one that begins with this offset
  unfoldable pub beyond : ℕ → List (Range T) → List (Range T)
  beyond at [] = []
  beyond at (r ∷ rs) = if r.first == at then rs else beyond at rs

  -- a range begins with this offset
  unfoldable pub begins_at : ℕ → List (Range T) → Bool
  begins_at at [] = false
  begins_at at (r ∷ rs) = if r.first == at then true else begins_at at rs

  -- the place is the front, or after one of the ranges
  abbrev pub IsCursor : Option ℕ → List (Range T) → Type 0
  IsCursor None ranges = Unit {0}
  IsCursor (Some at) ranges = begins_at at ranges ≡ true

  -- the ranges before a place
  abbrev pub before : Option ℕ → List (Range T) → List (Range T)
  before None ranges = []
  before (Some at) ranges = through at ranges

  -- the ranges after a place
  abbrev pub following : Option ℕ → List (Range T) → List (Range T)
  following None ranges = ranges
  following (Some at) ranges = beyond at ranges

  -- the first range
  abbrev pub head_of : List (Range T) → Option (Range T)
  head_of [] = None
  head_of (r ∷ rs) = Some r

  -- ranges with one more at a place
  abbrev pub with_range_at : Option ℕ → Range T → List (Range T) → List (Range T)
  with_range_at cursor x ranges = before cursor ranges ++ x ∷ following cursor ranges

  -- ranges with another one in place of the one that begins where it does
  abbrev pub with_range : Range T → List (Range T) → List (Range T)
  with_range x ranges = ahead x.first ranges ++ x ∷ beyond x.first ranges

  -- ranges without the one after the range that begins with an offset
  abbrev pub without_next : ℕ → List (Range T) → List (Range T)
  without_next at ranges = through at ranges ++ drop 1 (beyond at ranges)
