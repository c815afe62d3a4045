-- How adoptions lie in memory: a map by own ID and one by pair, each with room for all that there may be.
use Rattle.std.specs.Prelude.{◌≡◌, ℕ, ◌+◌, ◌≤◌, List, map, length}
use Rattle.std.specs.HashMap.{spare}
use Rattle.udt_routes.specs.Keys.{PairKey, pair_key_of}
use Rattle.udt_routes.specs.Pairs.{Pair, AdoptionList, IsAdoptedOnce}
use Rattle.udt_routes.specs.declared.adoptions.Adoptions.TheInside.{Inside}

abbrev pub adoptions_in : Inside → AdoptionList
adoptions_in s = record { ids = s.ids; adopted = s.pairs.entries }

-- each pair's key, with the ID that has adopted the pair
abbrev pub keyed : List (ℕ × Pair) → List (PairKey × ℕ)
keyed adopted = map (λ a. (pair_key_of a.1, a.0)) adopted

-- both maps list the same in the same order, each pair once, and there is room
pub record IsAdoptions (s : Inside) : Type 0 where
  pub alike : s.adopters.entries ≡ keyed s.pairs.entries
  pub once : IsAdoptedOnce s.pairs.entries
  pub pairs_room : s.ids ≤ length s.pairs.entries + spare s.pairs
  pub adopters_room : s.ids ≤ length s.adopters.entries + spare s.adopters
