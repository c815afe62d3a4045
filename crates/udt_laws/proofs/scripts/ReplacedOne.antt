-- Lists with one element replaced, and what they contain.
use Rattle.std.proofs.Common.{◌≡◌, ℕ, zero, suc, ◌+◌, List, [], ◌∷◌, ◌++◌, length, Some, refl, ap, subst, inl, inr, ◌⊎◌, arith}
use Rattle.std.specs.Prelude.{slice_get, slice_set, map}
use Rattle.std.specs.List.{Contains}
use Rattle.std.proofs.lemmas.List.Elements.{Contains-append_left, Contains-append_right, Contains-append_cases, Contains-push, Contains-push_cases}

-- the element at another place stays
pub set-other : {X : Type 0} (xs : List X) (i k : ℕ) (x : X) → (i ≡ k → ⊥) → slice_get (slice_set xs i x) k ≡ slice_get xs k
set-other [] i k x apart = refl
set-other (first ∷ others) zero zero x apart = absurd (apart refl)
set-other (first ∷ others) zero (suc k) x apart = refl
set-other (first ∷ others) (suc i) zero x apart = refl
set-other (first ∷ others) (suc i) (suc k) x apart = set-other others i k x (λ same. apart (ap suc same))

-- and the one at this place is the new one
pub set-same : {X : Type 0} (xs : List X) (i : ℕ) (old x : X) → slice_get xs i ≡ Some old → slice_get (slice_set xs i x) i ≡ Some x
set-same [] i old x found = absurd (cc)
set-same (first ∷ others) zero old x found = refl
set-same (first ∷ others) (suc i) old x found = set-same others i old x found

-- an element of two lists joined stands in the first, or in the second
pub append-found : {X : Type 0} (xs ys : List X) (k : ℕ) (x : X) → slice_get (xs ++ ys) k ≡ Some x
    → (slice_get xs k ≡ Some x) ⊎ ((j : ℕ) × (k ≡ length xs + j) × (slice_get ys j ≡ Some x))
append-found [] ys k x found = inr (k, omega arith, found)
append-found (first ∷ others) ys zero x found = inl found
append-found (first ∷ others) ys (suc k) x found =
    elim (append-found others ys k x found) [
      | inl there ↦ inl there
      | inr past ↦ inr (past.0, omega (arith, past.1), past.2)
    ]

pub append-first : {X : Type 0} (xs ys : List X) (k : ℕ) (x : X) → slice_get xs k ≡ Some x → slice_get (xs ++ ys) k ≡ Some x
append-first [] ys k x found = absurd (cc)
append-first (first ∷ others) ys zero x found = found
append-first (first ∷ others) ys (suc k) x found = append-first others ys k x found

pub append-second : {X : Type 0} (xs ys : List X) (k j : ℕ) (x : X) → k ≡ length xs + j → slice_get ys j ≡ Some x → slice_get (xs ++ ys) k ≡ Some x
append-second [] ys k j x place found =
    let same : k ≡ j = omega (arith, place) in
    rw same found
append-second (first ∷ others) ys zero j x place found = absurd (omega (arith, place))
append-second (first ∷ others) ys (suc k) j x place found = append-second others ys k j x (omega (arith, place)) found

pub found-once : {X : Type 0} (xs : List X) (k : ℕ) (x y : X) → slice_get xs k ≡ Some x → slice_get xs k ≡ Some y → x ≡ y
found-once xs k x y first second = cc

-- what stands at a place is among the elements
pub found-among : {X : Type 0} (xs : List X) (k : ℕ) (x : X) → slice_get xs k ≡ Some x → Contains xs x
found-among [] k x found = absurd (cc)
found-among (first ∷ others) zero x found =
    let same : first ≡ x = cc in
    subst (Contains (first ∷ others)) same (Contains-append_left (first ∷ []) others first (Contains-push [] first))
found-among (first ∷ others) (suc k) x found = Contains-append_right (first ∷ []) others x (found-among others k x found)

-- what a mapped list contains comes from an element
pub map-among : {X Y : Type 0} (f : X → Y) (xs : List X) (y : Y) → Contains (map f xs) y → (x : X) × Contains xs x × (f x ≡ y)
map-among f [] y among = absurd (omega (arith, among.1))
map-among f (first ∷ others) y among =
    elim (Contains-append_cases (f first ∷ []) (map f others) y among) [
      | inl here ↦ elim (Contains-push_cases [] (f first) y here) [
        | inl none ↦ absurd (omega (arith, none.1))
        | inr same ↦ (first, Contains-append_left (first ∷ []) others first (Contains-push [] first), same)
      ]
      | inr there ↦
          let found = map-among f others y there in
          (found.0, Contains-append_right (first ∷ []) others found.0 found.1, found.2)
    ]

-- a mapped list contains what an element becomes
pub among-map : {X Y : Type 0} (f : X → Y) (xs : List X) (x : X) → Contains xs x → Contains (map f xs) (f x)
among-map f [] x among = absurd (omega (arith, among.1))
among-map f (first ∷ others) x among =
    elim (Contains-append_cases (first ∷ []) others x among) [
      | inl here ↦ elim (Contains-push_cases [] first x here) [
        | inl none ↦ absurd (omega (arith, none.1))
        | inr same ↦ subst (λ y. Contains (map f (first ∷ others)) (f y)) same
            (Contains-append_left (f first ∷ []) (map f others) (f first) (Contains-push [] (f first)))
      ]
      | inr there ↦ Contains-append_right (f first ∷ []) (map f others) (f x) (among-map f others x there)
    ]
