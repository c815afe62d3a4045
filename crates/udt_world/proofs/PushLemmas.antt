-- The first item that passes a test, among one more.
use Rattle.std.proofs.Common.{◌≡◌, ℕ, zero, suc, ◌+◌, ◌<◌, Bool, true, false, cond, List, [], ◌∷◌, ◌++◌, length, Some, None, Option, refl, ap, ◌∙◌, sym, arith, option_map}
use Rattle.std.specs.Prelude.{slice_get, position}
use Rattle.std.proofs.lemmas.List.Quantifiers.{position-Some}
use Rattle.std.proofs.lemmas.Option.{get_or_from_slice_get, same_Some}
use Rattle.udt_world.proofs.PlaceLemmas.{none_of, position-cons, position-first, position-others}

-- ---- items

-- an item stands at each place within
pub item_at : {A : Type 0} (xs : List A) (k : ℕ) → k < length xs → (x : A) × (slice_get xs k ≡ Some x)
item_at [] k within = absurd (omega (arith, within))
item_at (x ∷ xs) zero within = (x, refl)
item_at (x ∷ xs) (suc k) within = item_at xs k (omega (arith, within))

-- and the last at the last place
pub get-last : {A : Type 0} (xs : List A) (x : A) (k : ℕ) → k ≡ length xs → slice_get (xs ++ x ∷ []) k ≡ Some x
get-last [] x zero is = refl
get-last [] x (suc k) is = absurd (omega (arith, is))
get-last (y ∷ xs) x zero is = absurd (omega (arith, is))
get-last (y ∷ xs) x (suc k) is = get-last xs x k (omega (arith, is))

pub data IsOneMore {A : Type 0} (xs : List A) (x : A) (k : ℕ) (y : A) : Type 0 where
  Before : slice_get xs k ≡ Some y → IsOneMore xs x k y
  Last : k ≡ length xs → y ≡ x → IsOneMore xs x k y

-- what stands at a place is an item from before, or the last one
pub get-push : {A : Type 0} (xs : List A) (x : A) (k : ℕ) (y : A) → slice_get (xs ++ x ∷ []) k ≡ Some y → IsOneMore xs x k y
get-push [] x zero y at = Last refl (sym (same_Some x y at))
get-push [] x (suc k) y at = absurd (cc)
get-push (z ∷ xs) x zero y at = Before at
get-push (z ∷ xs) x (suc k) y at = elim (get-push xs x k y at) as (λ found. IsOneMore (z ∷ xs) x (suc k) y) [
  | Before there ↦ Before there
  | Last is same ↦ Last (ap suc is) same
]

-- ---- tests

module _ {A : Type 0} (p : A → Bool) where
  -- the first that passes stands at its place
  pub first_passes : (xs : List A) (k : ℕ) → position p xs ≡ Some k → (x : A) × (slice_get xs k ≡ Some x) × (p x ≡ true)
  first_passes [] k found = absurd (cc)
  first_passes (y ∷ xs) k found =
      let is = position-Some p (y ∷ xs) k y found in
      let at = item_at (y ∷ xs) k is.0 in
      let same = get_or_from_slice_get (y ∷ xs) k at.0 y at.1 in
      (at.0, at.1, rw same at is.1)

  -- none passes where each fails
  pub none_first : (xs : List A) → ((k : ℕ) (x : A) → slice_get xs k ≡ Some x → p x ≡ false) → position p xs ≡ None
  none_first [] fails = refl
  none_first (x ∷ xs) fails =
      position-cons p x xs ∙ rw (fails 0 x refl, none_first xs (λ k y at. fails (suc k) y at)) refl

  by_first : (b : Bool) (rest : Option ℕ) → cond b (Some 0) (option_map suc rest) ≡ None → (b ≡ false) × (rest ≡ None)
  by_first true rest is = absurd (cc)
  by_first false rest is = (refl, none_of suc rest is)

  -- and each fails where none passes
  pub each_fails : (xs : List A) (k : ℕ) (x : A) → position p xs ≡ None → slice_get xs k ≡ Some x → p x ≡ false
  each_fails [] k x none at = absurd (cc)
  each_fails (y ∷ xs) zero x none at =
      rw (sym (same_Some y x at)) (by_first (p y) (position p xs) (sym (position-cons p y xs) ∙ none)).0
  each_fails (y ∷ xs) (suc k) x none at =
      each_fails xs k x (by_first (p y) (position p xs) (sym (position-cons p y xs) ∙ none)).1 at

  alone : (x : A) (b : Bool) → p x ≡ b → position p (x ∷ []) ≡ cond b (Some 0) None
  alone x true is = position-cons p x [] ∙ rw is refl
  alone x false is = position-cons p x [] ∙ rw is refl

  -- an item that fails changes nothing
  pub push_other : (xs : List A) (x : A) → p x ≡ false → position p (xs ++ x ∷ []) ≡ position p xs
  push_other xs x fails = by (position p xs) refl
    where
      by : (o : Option ℕ) → position p xs ≡ o → position p (xs ++ x ∷ []) ≡ position p xs
      by None none = position-others p xs (x ∷ []) none ∙ rw (alone x false fails, none) refl
      by (Some k) found = position-first p xs (x ∷ []) k found ∙ sym found

  -- one that passes is the first where none was
  pub push_first : (xs : List A) (x : A) → position p xs ≡ None → p x ≡ true → position p (xs ++ x ∷ []) ≡ Some (length xs)
  push_first xs x none passes =
      let same : length xs + 0 ≡ length xs = omega arith in
      position-others p xs (x ∷ []) none ∙ rw (alone x true passes) (ap Some same)

  -- the first is where it was, or it is the last one
  pub push_either : (xs : List A) (x : A) → (p x ≡ true → position p xs ≡ None) → position p (xs ++ x ∷ []) ≡ cond (p x) (Some (length xs)) (position p xs)
  push_either xs x new = by (p x) refl
    where
      by : (b : Bool) → p x ≡ b → position p (xs ++ x ∷ []) ≡ cond b (Some (length xs)) (position p xs)
      by true is = push_first xs x (new is) is
      by false is = push_other xs x is
