-- How ranges lie in a ring of places, each at the place of its first offset, with the first offset of the next one.
use Rattle.std.specs.Prelude.{◌≡◌, ℕ, zero, suc, ◌+◌, ◌<◌, ◌%◌, true, List, [], ◌∷◌, length, slice_index_or}
use Rattle.udt_ranges.specs.Ranges.{Linked, Rises}
use Rattle.udt_ranges.specs.Cursors.{begins_at}
use Rattle.udt_ranges.specs.declared.range.Range.{Range}
use Rattle.udt_ranges.specs.declared.links.Place.{Place}
use Rattle.udt_ranges.specs.declared.links.LinkedRanges.TheInside.{Inside}

-- the first offset of the last range
unfoldable pub last_first : {T : Type 0} → ℕ → List (Range T) → ℕ
last_first first [] = first
last_first first (r ∷ rs) = last_first r.first rs

module _ {T : Type 0} (blank : T) where
  -- what lies at the place of an offset
  unfoldable pub place_at : List (Place T) → ℕ → Place T
  place_at places offset = slice_index_or places (offset % length places) (record { last = 0; next = 0; tag = blank })

  -- the range that begins with an offset
  unfoldable pub range_at : List (Place T) → ℕ → Range T
  range_at places first =
      let place = place_at places first in
      record { first = first; last = place.last; tag = place.tag }

  -- this many ranges, one after another, from the one that begins with an offset
  unfoldable pub walk : List (Place T) → ℕ → ℕ → List (Range T)
  walk places zero first = []
  walk places (suc n) first = range_at places first ∷ walk places n (place_at places first).next

  -- the links lead from range to range
  pub record IsChain (places : List (Place T)) (head tail hint count : ℕ) : Type 0 where
    -- the ranges rise, within a window of the first
    pub rises : Rises head (head + length places) (walk places count head)
    -- the tail is the first offset of the last range
    pub tail_is : 0 < count → last_first head (walk places count head) ≡ tail
    -- the hint is the first offset of some range
    pub hint_is : 0 < count → begins_at hint (walk places count head) ≡ true

module _ {T : Type 0} where
  -- the window and the ranges
  abbrev pub seen : Inside T → Linked T
  seen l = record { window = length l.places.items; ranges = walk l.blank l.places.items l.count l.head }

  -- the fields are those of a chain
  abbrev pub is_chained : Inside T → Type 0
  is_chained l = IsChain l.blank l.places.items l.head l.tail l.hint l.count
