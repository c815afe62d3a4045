-- Moments under IDs, as a list in rising order of the IDs.
use Rattle.std.specs.Prelude.{◌≡◌, ◌⊎◌, ℕ, ◌==◌, ◌<◌, ◌≤◌, nat_lt, List, [], ◌∷◌, Option, Some, None, if◌then◌else◌}
use Rattle.std.specs.List.{Contains}
use Rattle.udt_queues.specs.declared.tree.Listing.{Listing}

-- the first comes no later than the second: its moment is less, or it has the same moment and no greater ID
abbrev pub NotAfter : Listing → Listing → Type 0
NotAfter x y = (x.at < y.at) ⊎ ((x.at ≡ y.at) × (x.id ≤ y.id))

-- the one of two that comes first
pub record IsLesser (m x y : Listing) : Type 0 where
  pub one : (m ≡ x) ⊎ (m ≡ y)
  pub first : NotAfter m x
  pub second : NotAfter m y

-- the one of several that comes first
pub record IsLeast (m : Listing) (xs : List Listing) : Type 0 where
  pub there : Contains xs m
  pub least : (y : Listing) → Contains xs y → NotAfter m y

-- each ID is below all later ones
abbrev pub IsRising : List Listing → Type 0
IsRising [] = Unit {0}
IsRising (x ∷ xs) = ((y : Listing) → Contains xs y → x.id < y.id) × IsRising xs

-- the moment under an ID
abbrev pub moment_of : ℕ → List Listing → Option ℕ
moment_of id [] = None
moment_of id (x ∷ xs) = if x.id == id then Some x.at else moment_of id xs

-- the list with a moment under an ID, in place of the one that was there
abbrev pub place : Listing → List Listing → List Listing
place e [] = e ∷ []
place e (x ∷ xs) = if nat_lt e.id x.id then e ∷ x ∷ xs else (if x.id == e.id then e ∷ xs else x ∷ place e xs)

-- the list with no moment under an ID
abbrev pub without : ℕ → List Listing → List Listing
without id [] = []
without id (x ∷ xs) = if x.id == id then xs else x ∷ without id xs

-- a moment and its ID: the moment is under that ID, and no other comes before it
pub record IsFirst (m : ℕ × ℕ) (xs : List Listing) : Type 0 where
  pub listed : moment_of m.1 xs ≡ Some m.0
  pub least : (id at : ℕ) → moment_of id xs ≡ Some at → NotAfter (record { at = m.0; id = m.1 }) (record { at = at; id = id })
