-- A history: the value that opened it, and the items in order, each with the number of the pass that made it.
-- It stands for the value after its last item, and is legal where each item may come after the value of the items before
-- it, and raises the count by one.
use Rattle.std.specs.Prelude.{◌≡◌, ℕ, ◌+◌, Bool, true, false, ◌||◌, eqb, if◌then◌else◌, List, [], ◌∷◌, ◌++◌, length, leb}
use Rattle.udt_turn.specs.Story.{Telling}
use Rattle.udt_turn.specs.declared.view.History.{History}

-- the number is among these
abbrev pub has : List ℕ → ℕ → Bool
has [] n = false
has (m ∷ ms) n = eqb m n || has ms n

-- the item before the others, or left out
abbrev pub keep_if : {A : Type 0} → Bool → A → List A → List A
keep_if true x xs = x ∷ xs
keep_if false x xs = xs

-- the items that were made under these numbers
abbrev pub mine_in : {E : Type 0} → List ℕ → List (ℕ × E) → List (ℕ × E)
mine_in names [] = []
mine_in names (x ∷ xs) = keep_if (has names x.0) x (mine_in names xs)

-- the second list begins with the first
abbrev pub Begins : {A : Type 0} → List A → List A → Type 0
Begins {A} xs ys = (rest : List A) × (ys ≡ xs ++ rest)

-- the longer of two lists, the second where they are equally long
abbrev pub longer : {A : Type 0} → List A → List A → List A
longer xs ys = if leb (length xs) (length ys) then ys else xs

-- the other one of the two
abbrev pub shorter : {A : Type 0} → List A → List A → List A
shorter xs ys = if leb (length xs) (length ys) then xs else ys

module _ {V E : Type 0} (t : Telling V E) where
  -- the value after these items
  abbrev pub value_after : V → List (ℕ × E) → V
  value_after s [] = s
  value_after s (x ∷ xs) = value_after (t.after s x.1) xs

  -- each item may stand where it stands, and raises the count by one
  abbrev pub MayFollow : V → List (ℕ × E) → Type 0
  MayFollow s [] = Unit {0}
  MayFollow s (x ∷ xs) = t.legal s x.1 × (t.count (t.after s x.1) ≡ t.count s + 1) × MayFollow (t.after s x.1) xs

  -- the count after the last item that was made under these numbers, and else c
  abbrev pub last_from : List ℕ → V → List (ℕ × E) → ℕ → ℕ
  last_from names s [] c = c
  last_from names s (x ∷ xs) c = last_from names (t.after s x.1) xs (if has names x.0 then t.count (t.after s x.1) else c)

  -- the value for which a history stands
  abbrev pub value_of : History V E → V
  value_of h = value_after h.opening h.items

  -- each of its items may stand where it stands
  abbrev pub IsLegal : History V E → Type 0
  IsLegal h = MayFollow h.opening h.items

  -- the count of the value after the last item that was made under these numbers, and 0 where there is none
  abbrev pub last_of : List ℕ → History V E → ℕ
  last_of names h = last_from names h.opening h.items 0
