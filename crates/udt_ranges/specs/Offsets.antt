-- The offsets of a list, in order.
use Rattle.std.specs.Prelude.{ℕ, ◌+◌, ◌<◌, ◌≤◌, ◌==◌, Bool, Option, Some, None, List, [], ◌∷◌, map}
use Rattle.std.specs.List.{list_any}
use Rattle.udt_ranges.specs.Ranges.{Item}

-- the offsets without their tags
abbrev pub offsets_in : {T : Type 0} → List (Item T) → List ℕ
offsets_in items = map (λ m. m.offset) items

-- an offset is among them
abbrev pub has_offset : {T : Type 0} → ℕ → List (Item T) → Bool
has_offset offset items = list_any (λ m. m.offset == offset) items

-- the offsets rise, from one number up to another that is not reached
unfoldable pub Rising : ℕ → ℕ → List ℕ → Type 0
Rising low high [] = Unit {0}
Rising low high (n ∷ ns) = (low ≤ n) × (n < high) × Rising (n + 1) high ns

-- the least offset
abbrev pub least : List ℕ → Option ℕ
least [] = None
least (n ∷ ns) = Some n
