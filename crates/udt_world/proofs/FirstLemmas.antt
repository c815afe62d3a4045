-- Which socket is the first that passes a test, also where one of them was replaced.
use Rattle.std.proofs.Common.{◌≡◌, ℕ, zero, suc, ◌+◌, ◌-◌, ◌≤◌, ◌<◌, Bool, true, false, cond, List, [], ◌∷◌, length, get_or, Some, None, Option, refl, ap, ◌∙◌, sym, subst, arith, inl, inr, ◌⊎◌, option_map}
use Rattle.std.specs.Prelude.{slice_get, slice_set, position, sum_by}
use Rattle.std.proofs.lemmas.Bool.{cases_eq, ne_eqb}
use Rattle.std.proofs.lemmas.List.Quantifiers.{position-Some}
use Rattle.std.proofs.lemmas.List.Sums.{sum_by-cons}
use Rattle.std.proofs.lemmas.Option.{slice_get-get_or}
use Rattle.udt_laws.proofs.scripts.FirstFound.{none-passes}
use Rattle.udt_laws.proofs.scripts.ReplacedOne.{set-other, set-same, found-once}
use Rattle.udt_world.specs.Views.{Sight}
use Rattle.udt_world.specs.Wiring.{first_with, sight_with}
use Rattle.udt_world.proofs.PlaceLemmas.{position-cons}

-- ---- one replaced

module _ {X : Type 0} where
  -- at most one passes the test
  abbrev pub Only : (X → Bool) → List X → Type 0
  Only p xs = (i j : ℕ) (x y : X) → slice_get xs i ≡ Some x → slice_get xs j ≡ Some y → p x ≡ true → p y ≡ true → i ≡ j

  -- none does
  abbrev pub Fails : (X → Bool) → List X → Type 0
  Fails p xs = (i : ℕ) (x : X) → slice_get xs i ≡ Some x → p x ≡ false

  pub replaced-cases : {P : Type 0} (xs : List X) (k : ℕ) (old new : X) → slice_get xs k ≡ Some old
      → (i : ℕ) (x : X) → slice_get (slice_set xs k new) i ≡ Some x
      → (i ≡ k → x ≡ new → P) → ((i ≡ k → ⊥) → slice_get xs i ≡ Some x → P) → P
  replaced-cases xs k old new there i x at same other = elim (cases_eq k i) [
    | inl here ↦
        let set : slice_get (slice_set xs k new) i ≡ Some new =
        subst (λ (j : ℕ). slice_get (slice_set xs k new) j ≡ Some new) here (set-same xs k old new there) in
        same (sym here) (found-once _ i x new at set)
    | inr apart ↦ other (λ is. apart (sym is)) (sym (set-other xs k i new apart) ∙ at)
  ]

  -- one that passes may take the place of one that does, or come where none does
  pub only-set : (p : X → Bool) (xs : List X) (k : ℕ) (old new : X) → slice_get xs k ≡ Some old → Only p xs
      → (p new ≡ true → (p old ≡ true) ⊎ Fails p xs) → Only p (slice_set xs k new)
  only-set p xs k old new there only may i j x y at_i at_j px py =
      replaced-cases xs k old new there i x at_i
      (λ i_is x_is. replaced-cases xs k old new there j y at_j
      (λ j_is y_is. i_is ∙ sym j_is)
      (λ apart at. elim (may (ap p (sym x_is) ∙ px)) [
        | inl before ↦ i_is ∙ only k j old y there at before py
        | inr none ↦ let fails = none j y at in absurd (cc)
      ]))
      (λ apart at. replaced-cases xs k old new there j y at_j
      (λ j_is y_is. elim (may (ap p (sym y_is) ∙ py)) [
        | inl before ↦ only i k x old at there px before ∙ sym j_is
        | inr none ↦ let fails = none i x at in absurd (cc)
      ])
      (λ apart' at'. only i j x y at at' px py))

  -- where the new one passes as the old one did, the place of the first stays
  pub position-set : (p : X → Bool) (xs : List X) (k : ℕ) (old new : X) → slice_get xs k ≡ Some old → p new ≡ p old
      → position p (slice_set xs k new) ≡ position p xs
  position-set p [] k old new there same = absurd (cc)
  position-set p (x ∷ xs) zero old new there same =
      let is : x ≡ old = cc in
      let passes : p new ≡ p x = same ∙ ap p (sym is) in
      position-cons p new xs ∙ (rw passes refl ∙ sym (position-cons p x xs))
  position-set p (x ∷ xs) (suc k) old new there same =
      position-cons p x (slice_set xs k new)
      ∙ (ap (λ (o : Option ℕ). cond (p x) (Some 0) (option_map suc o)) (position-set p xs k old new there same)
      ∙ sym (position-cons p x xs))

  -- the place that is found has one that passes
  pub position-found : (p : X → Bool) (xs : List X) (k : ℕ) (d : X) → position p xs ≡ Some k
      → (x : X) × (slice_get xs k ≡ Some x) × (p x ≡ true)
  position-found p xs k d is =
      let found = position-Some p xs k d is in
      (get_or xs k d, slice_get-get_or xs k d found.0, found.1)

  -- a sum counts the new one in place of the old one
  pub sum-set : (f : X → ℕ) (xs : List X) (k : ℕ) (old new : X) → slice_get xs k ≡ Some old
      → sum_by f (slice_set xs k new) + f old ≡ sum_by f xs + f new
  sum-set f [] k old new there = absurd (cc)
  sum-set f (x ∷ xs) zero old new there =
      let is : x ≡ old = cc in
      omega (arith, sum_by-cons f new xs, sum_by-cons f x xs, ap f is)
  sum-set f (x ∷ xs) (suc k) old new there =
      omega (arith, sum_by-cons f x (slice_set xs k new), sum_by-cons f x xs, sum-set f xs k old new there)

  -- a sum of ones is at most their number
  pub sum-small : (f : X → ℕ) (xs : List X) → ((x : X) → f x ≤ 1) → sum_by f xs ≤ length xs
  sum-small f [] small = omega arith
  sum-small f (x ∷ xs) small = omega (arith, sum_by-cons f x xs, small x, sum-small f xs small)

  -- and where one counts nothing, it is below
  pub sum-below : (f : X → ℕ) (xs : List X) (k : ℕ) (x : X) → ((y : X) → f y ≤ 1) → slice_get xs k ≡ Some x → f x ≡ 0
      → sum_by f xs < length xs
  sum-below f [] k x small there none = absurd (cc)
  sum-below f (y ∷ ys) zero x small there none =
      let is : y ≡ x = cc in
      omega (arith, sum_by-cons f y ys, ap f is, sum-small f ys small)
  sum-below f (y ∷ ys) (suc k) x small there none =
      omega (arith, sum_by-cons f y ys, small y, sum-below f ys k x small there none)

-- ---- IDs

module _ {C : Type 0} where
  -- the first that passes
  pub first-found : (p : Sight C → Bool) (sights : List (Sight C)) (id : ℕ) (d : Sight C) → first_with p sights ≡ Some id
      → (k : ℕ) × (s : Sight C) × (id ≡ k + 1) × (slice_get sights k ≡ Some s) × (p s ≡ true)
  first-found p sights id d is = by (position p sights) refl is
    where
      by : (found : Option ℕ) → position p sights ≡ found → option_map (λ place. place + 1) found ≡ Some id
          → (k : ℕ) × (s : Sight C) × (id ≡ k + 1) × (slice_get sights k ≡ Some s) × (p s ≡ true)
      by None e none = absurd (cc)
      by (Some k) e there =
          let at = position-found p sights k d e in
          let same : k + 1 ≡ id = cc in
          (k, at.0, sym same, at.1, at.2)

  pub first-fails : (p : Sight C → Bool) (sights : List (Sight C)) → first_with p sights ≡ None → Fails p sights
  first-fails p sights is k s at = none-passes p sights (by (position p sights) is) k s at
    where
      by : (found : Option ℕ) → option_map (λ place. place + 1) found ≡ None → found ≡ None
      by None none = refl
      by (Some k) none = absurd (cc)

  -- where none passes, none is found
  pub none-first : (p : Sight C → Bool) (sights : List (Sight C)) (d : Sight C) → Fails p sights → first_with p sights ≡ None
  none-first p sights d fails = by (position p sights) refl
    where
      by : (found : Option ℕ) → position p sights ≡ found → option_map (λ place. place + 1) found ≡ None
      by None e = refl
      by (Some k) e =
          let at = position-found p sights k d e in
          let no = fails k at.0 at.1 in
          let yes = at.2 in
          absurd (cc)

  -- and the one that passes alone is
  pub only-first : (p : Sight C → Bool) (sights : List (Sight C)) (k : ℕ) (s : Sight C) → slice_get sights k ≡ Some s → p s ≡ true
      → Only p sights → first_with p sights ≡ Some (k + 1)
  only-first p sights k s at passes only = by (position p sights) refl
    where
      by : (found : Option ℕ) → position p sights ≡ found → option_map (λ place. place + 1) found ≡ Some (k + 1)
      by None e =
          let no = none-passes p sights e k s at in
          absurd (cc)
      by (Some j) e =
          let there = position-found p sights j s e in
          ap (λ (i : ℕ). Some (i + 1)) (only j k there.0 s there.1 at there.2 passes)

  pub first-set : (p : Sight C → Bool) (sights : List (Sight C)) (k : ℕ) (old new : Sight C) → slice_get sights k ≡ Some old
      → p new ≡ p old → first_with p (slice_set sights k new) ≡ first_with p sights
  first-set p sights k old new there same = ap (option_map (λ place. place + 1)) (position-set p sights k old new there same)

  -- the socket of an ID
  some_with : (sights : List (Sight C)) (id : ℕ) → (id ≡ 0 → ⊥) → sight_with sights id ≡ slice_get sights (id - 1)
  some_with sights id some = rw (ne_eqb id 0 some) refl

  pub with-place : (sights : List (Sight C)) (k : ℕ) → sight_with sights (k + 1) ≡ slice_get sights k
  with-place sights k =
      let less : k + 1 - 1 ≡ k = omega arith in
      some_with sights (k + 1) (λ is. omega (arith, is)) ∙ ap (slice_get sights) less

  pub with-set : (sights : List (Sight C)) (k : ℕ) (new : Sight C) (id : ℕ) → (id ≡ k + 1 → ⊥)
      → sight_with (slice_set sights k new) id ≡ sight_with sights id
  with-set sights k new id apart = elim (cases_eq id 0) [
    | inl none ↦ rw none refl
    | inr some ↦
        some_with (slice_set sights k new) id some
        ∙ (set-other sights k (id - 1) new (λ same. apart (omega (arith, same, id_above some)))
        ∙ sym (some_with sights id some))
  ]
    where
      id_above : (id ≡ 0 → ⊥) → 0 < id
      id_above some = by id some
        where
          by : (i : ℕ) → (i ≡ 0 → ⊥) → 0 < i
          by zero some = absurd (some refl)
          by (suc j) some = omega arith
