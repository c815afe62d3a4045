-- Pairs of a key and a value in rising order of their keys, read as a finite map.
use Rattle.std.specs.Prelude.{◌≡◌, ℕ, ◌<◌, ◌≤◌, Bool, true, false, List, length, Some, None, Option, if◌then◌else◌}
use Rattle.std.specs.declared.cmp.Ordering.{Ordering}
use Rattle.std.specs.declared.cmp.Ordering.TheVariants.{Less, Equal, Greater}
use Rattle.std.specs.Ordering.{is_eq}
use Rattle.std.specs.Map.{lookup, keys_of}
use Rattle.std.specs.BTreeMap.{is_at}
use Rattle.std.specs.List.{HoldsAt, AllWithin}
use Rattle.std.specs.List.Sorted.{IsStrictlySortedBy}

-- how many a thing adds that is there or isn't
abbrev pub one_of : Bool → ℕ
one_of there = if there then 1 else 0

module _ {K V : Type 0} (cmp : K → K → Ordering) where
  -- the value of the key
  abbrev pub value_at : List (K × V) → K → Option V
  value_at pairs key = lookup (is_at (cmp key)) pairs

  -- the keys rise, so no key comes twice
  abbrev pub IsRising : List (K × V) → Type 0
  IsRising pairs = IsStrictlySortedBy cmp (keys_of pairs)

  -- the pair at this place has the key
  pub record IsAt (pairs : List (K × V)) (key : K) (i : ℕ) : Type 0 where
    pub in_range : i < length pairs
    pub has_key : HoldsAt (λ pair. cmp pair.0 key ≡ Equal) pairs i

  -- the key would go to this place: smaller keys stand before it, and greater ones from it on
  pub record IsGapFor (pairs : List (K × V)) (key : K) (i : ℕ) : Type 0 where
    pub in_range : i ≤ length pairs
    pub smaller : AllWithin (λ pair. cmp pair.0 key ≡ Less) pairs 0 i
    pub greater : AllWithin (λ pair. cmp pair.0 key ≡ Greater) pairs i (length pairs)

module _ {K V : Type 0} (cmp : K → K → Ordering) where
  -- the key has this value now, or none, and each other key has what it had
  pub record Becomes (old new : List (K × V)) (key : K) (value : Option V) : Type 0 where
    pub changed : (same : K) → is_eq (cmp key same) ≡ true → value_at cmp new same ≡ value
    pub others : (other : K) → is_eq (cmp key other) ≡ false → value_at cmp new other ≡ value_at cmp old other

  -- the key had no value, and has one now
  abbrev pub Puts : List (K × V) → List (K × V) → K → V → Type 0
  Puts old new key value = Becomes old new key (Some value)

  -- the key has no value
  abbrev pub TakesOut : List (K × V) → List (K × V) → K → Type 0
  TakesOut old new key = Becomes old new key None
