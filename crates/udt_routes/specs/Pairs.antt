-- Which pairs of a peer's address and socket ID are adopted, and by whom.
use Rattle.std.specs.Prelude.{◌≡◌, ℕ, ◌==◌, Bool, ◌&&◌, nat_eq, List, [], ◌∷◌, Option, Some, None, if◌then◌else◌}
use Rattle.std.specs.Map.{lookup}
use Rattle.udt_model.specs.declared.addresses.Addr.{Addr}
use Rattle.udt_model.specs.Addresses.{same_addr}

-- a peer's address, and the ID of its socket there
abbrev pub Pair : Type 0
Pair = Addr × ℕ

-- how many pairs may be adopted; and each own ID with the pair that it has adopted, in the order of adoption
pub record AdoptionList : Type 0 where
  pub ids : ℕ
  pub adopted : List (ℕ × Pair)

-- two pairs are the same
abbrev pub same_pair : Pair → Pair → Bool
same_pair a b = same_addr a.0 b.0 && (a.1 == b.1)

-- the pair that an ID has adopted
abbrev pub pair_of : List (ℕ × Pair) → ℕ → Option Pair
pair_of adopted own = lookup (nat_eq own) adopted

-- the ID that has adopted a pair
abbrev pub adopter_of : List (ℕ × Pair) → Pair → Option ℕ
adopter_of [] pair = None
adopter_of (a ∷ adopted) pair = if same_pair pair a.1 then Some a.0 else adopter_of adopted pair

-- an ID has adopted a pair exactly where that ID is the pair's adopter, so no two IDs have adopted one pair
pub record IsAdoptedOnce (adopted : List (ℕ × Pair)) : Type 0 where
  pub pair : (own : ℕ) (p : Pair) → adopter_of adopted p ≡ Some own → pair_of adopted own ≡ Some p
  pub adopter : (own : ℕ) (p : Pair) → pair_of adopted own ≡ Some p → adopter_of adopted p ≡ Some own
