-- Rising ranges of offsets, each with a tag, and what is done to them.
use Rattle.std.specs.Prelude.{ℕ, ◌+◌, ◌-◌, ◌<◌, ◌≤◌, ◌||◌, List, [], ◌∷◌, ◌++◌, map, length, nat_lt, if◌then◌else◌, refl}
use Rattle.std.specs.List.{flat_map, filter}
use Rattle.std.specs.Coded.{Coded, code_by, coded×, coded_ℕ, coded_list}
use Rattle.udt_model.specs.Losses.{offsets_between}
use Rattle.udt_ranges.specs.declared.range.Range.{Range}

-- what a list of ranges is seen as: the room that its offsets have, and the ranges
pub record Linked (T : Type 0) : Type 0 where
  pub window : ℕ
  pub ranges : List (Range T)

-- an offset with the tag of its range
pub record Item (T : Type 0) : Type 0 where
  pub offset : ℕ
  pub tag : T

-- a range is stored as its ends and its tag
abbrev pub range_code : {T : Type 0} → Coded T → Coded (Range T)
range_code {T} code =
    code_by (ℕ × (ℕ × T)) (coded× coded_ℕ (coded× coded_ℕ code)) (λ r. (r.first, (r.last, r.tag)))
    (λ p. record { first = p.0; last = p.1.0; tag = p.1.1 }) (λ _. refl)

-- and a list of them as its window and the ranges
abbrev pub linked_code : {T : Type 0} → Coded T → Coded (Linked T)
linked_code {T} code =
    code_by (ℕ × List (Range T)) (coded× coded_ℕ (coded_list (range_code code))) (λ l. (l.window, l.ranges))
    (λ p. record { window = p.0; ranges = p.1 }) (λ _. refl)

module _ {T : Type 0} where
  -- the ranges are in order from one offset up to another, which is no longer among them
  unfoldable pub Rises : ℕ → ℕ → List (Range T) → Type 0
  Rises low high [] = Unit {0}
  Rises low high (r ∷ rs) = (low ≤ r.first) × (r.first ≤ r.last) × (r.last < high) × Rises (r.last + 1) high rs

  -- all offsets lie within a window of the first one
  unfoldable pub IsWithin : ℕ → List (Range T) → Type 0
  IsWithin window [] = Unit {0}
  IsWithin window (r ∷ rs) = Rises r.first (r.first + window) (r ∷ rs)

  -- the offsets of a range, each with the range's tag
  abbrev pub items_of_range : Range T → List (Item T)
  items_of_range r = map (λ n. record { offset = n; tag = r.tag }) (offsets_between r.first r.last)

  -- the offsets of all ranges, each with its tag
  unfoldable pub items_of : List (Range T) → List (Item T)
  items_of ranges = flat_map items_of_range ranges

  -- the offsets before one
  abbrev pub items_before : ℕ → List (Item T) → List (Item T)
  items_before from items = filter (λ m. nat_lt m.offset from) items

  -- the offsets after one
  abbrev pub items_after : ℕ → List (Item T) → List (Item T)
  items_after to items = filter (λ m. nat_lt to m.offset) items

  -- the offsets before a range, those of the range, and those after it
  abbrev pub with_items : Range T → List (Item T) → List (Item T)
  with_items range items = items_before range.first items ++ items_of_range range ++ items_after range.last items

  -- the offsets outside of a range
  unfoldable pub without_items : ℕ → ℕ → List (Item T) → List (Item T)
  without_items from to items = filter (λ m. nat_lt m.offset from || nat_lt to m.offset) items

  -- all ranges begin before this offset
  unfoldable pub IsBelow : ℕ → List (Range T) → Type 0
  IsBelow offset [] = Unit {0}
  IsBelow offset (r ∷ rs) = (r.first < offset) × IsBelow offset rs

  -- no range begins before this offset
  unfoldable pub IsFrom : ℕ → List (Range T) → Type 0
  IsFrom offset [] = Unit {0}
  IsFrom offset (r ∷ rs) = (offset ≤ r.first) × IsFrom offset rs

  -- all ranges end before this offset
  unfoldable pub EndsBelow : ℕ → List (Range T) → Type 0
  EndsBelow offset [] = Unit {0}
  EndsBelow offset (r ∷ rs) = (r.last < offset) × EndsBelow offset rs

  -- ranges without what the first of them has up to an offset
  unfoldable pub trimmed : ℕ → List (Range T) → List (Range T)
  trimmed to [] = []
  trimmed to (r ∷ rs) =
      if nat_lt to r.first then r ∷ rs else (if nat_lt to r.last then record r { first = to + 1 } ∷ rs else rs)

  -- how many offsets the first of them has up to an offset
  unfoldable pub trimmed_off : ℕ → List (Range T) → ℕ
  trimmed_off to [] = 0
  trimmed_off to (r ∷ rs) =
      if nat_lt to r.first then 0 else (if nat_lt to r.last then to + 1 - r.first else r.last + 1 - r.first)

  -- together with this range they lie within a window
  abbrev pub IsNear : ℕ → Range T → List (Range T) → Type 0
  IsNear window x ranges = Rises (x.last + 1 - window) (x.first + window) ranges

  -- whatever bounds the first ranges lie between, the second do so too
  abbrev pub KeepsBounds : List (Range T) → List (Range T) → Type 0
  KeepsBounds old new = (low high : ℕ) → Rises low high old → Rises low high new

  -- and so where a range between the bounds was put in
  abbrev pub KeepsBoundsWith : Range T → List (Range T) → List (Range T) → Type 0
  KeepsBoundsWith x old new = (low high : ℕ) → low ≤ x.first → x.last < high → Rises low high old → Rises low high new

  -- how many offsets ranges have
  abbrev pub count_of : List (Range T) → ℕ
  count_of ranges = length (items_of ranges)
