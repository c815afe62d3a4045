-- Where the socket of a name stands, among more sockets and after one was replaced.
use Rattle.std.proofs.Common.{◌≡◌, ℕ, zero, suc, ◌+◌, ◌<◌, Bool, true, false, not, cond, List, [], ◌∷◌, ◌++◌, length, map, Some, None, Option, refl, ap, ◌∙◌, sym, subst, arith, option_map}
use Rattle.std.specs.Prelude.{slice_get, slice_set, position, nat_lt}
use Rattle.std.specs.List.{prefix_len}
use Rattle.std.proofs.lemmas.Bool.Decides.{Decides-ltb}
use Rattle.std.specs.Bool.{Decides}
use Rattle.std.proofs.lemmas.List.{length-map, map-set}
use Rattle.std.proofs.lemmas.List.Quantifiers.{position-Some}
use Rattle.std.proofs.lemmas.Option.{slice_get-map, get_or_from_slice_get, same_Some}
use Rattle.std.proofs.lemmas.Slice.Eq.{bytes_eq-Decides}
use Rattle.udt_model.specs.Words.{is_word}
use Rattle.udt_model.specs.Network.{ScriptSocket, place_of}

prefix_len-map : {A B : Type 0} (f : A → B) (p : B → Bool) (xs : List A) → prefix_len p (map f xs) ≡ prefix_len (λ x. p (f x)) xs
prefix_len-map f p [] = refl
prefix_len-map f p (x ∷ xs) = ap (λ (n : ℕ). cond (p (f x)) (1 + n) 0) (prefix_len-map f p xs)

pub position-map : {A B : Type 0} (f : A → B) (p : B → Bool) (xs : List A) → position p (map f xs) ≡ position (λ x. p (f x)) xs
position-map f p xs = rw (prefix_len-map f (λ y. not (p y)) xs, length-map xs f) refl

-- ---- one after the other

same_test : (x y : Bool) (P Q : Type 0) → Decides x P → Decides y Q → (P → Q) → (Q → P) → x ≡ y
same_test true y P Q d k f g = sym (k.1 (f (d.0 refl)))
same_test false true P Q d k f g = d.1 (g (k.0 refl))
same_test false false P Q d k f g = refl

step_lt : (n m : ℕ) → nat_lt (1 + n) (suc m) ≡ nat_lt n m
step_lt n m = same_test _ _ (1 + n < suc m) (n < m) (Decides-ltb (1 + n) (suc m)) (Decides-ltb n m) (λ lt. omega (arith, lt)) (λ lt. omega (arith, lt))

found_by : (b : Bool) (n m : ℕ) → cond (nat_lt (cond (not b) (1 + n) 0) (suc m)) (Some (cond (not b) (1 + n) 0)) None
    ≡ cond b (Some 0) (option_map suc (cond (nat_lt n m) (Some n) None))
found_by true n m = rw ((Decides-ltb 0 (suc m)).1 (omega arith)) refl
found_by false n m =
    let one : 1 + n ≡ suc n = omega arith in
    rw (step_lt n m) (elim (nat_lt n m) as (λ few. cond few (Some (1 + n)) None ≡ option_map suc (cond few (Some n) None)) [
      | true ↦ ap Some one
      | false ↦ refl
    ])

pub position-cons : {A : Type 0} (p : A → Bool) (x : A) (xs : List A) → position p (x ∷ xs) ≡ cond (p x) (Some 0) (option_map suc (position p xs))
position-cons p x xs = found_by (p x) (prefix_len (λ y. not (p y)) xs) (length xs)

some_of : {A B : Type 0} (f : A → B) (o : Option A) (y : B) → option_map f o ≡ Some y → (x : A) × (o ≡ Some x) × (f x ≡ y)
some_of f None y is = absurd (cc)
some_of f (Some x) y is = (x, refl, cc)

pub none_of : {A B : Type 0} (f : A → B) (o : Option A) → option_map f o ≡ None → o ≡ None
none_of f None is = refl
none_of f (Some x) is = absurd (cc)

-- what is found stays found
pub position-first : {A : Type 0} (p : A → Bool) (xs ys : List A) (k : ℕ) → position p xs ≡ Some k → position p (xs ++ ys) ≡ Some k
position-first p [] ys k found = absurd (cc)
position-first p (x ∷ xs) ys k found =
    position-cons p x (xs ++ ys)
    ∙ (elim (p x) as (λ b. cond b (Some 0) (option_map suc (position p xs)) ≡ Some k → cond b (Some 0) (option_map suc (position p (xs ++ ys))) ≡ Some k) [
      | true ↦ λ e. e
      | false ↦ λ e. let rest = some_of suc (position p xs) k e in rw (position-first p xs ys rest.0 rest.1) (ap Some rest.2)
    ] (sym (position-cons p x xs) ∙ found))

-- and what isn't found may stand among the others
pub position-others : {A : Type 0} (p : A → Bool) (xs ys : List A) → position p xs ≡ None
    → position p (xs ++ ys) ≡ option_map (λ j. length xs + j) (position p ys)
position-others p [] ys none = elim (position p ys) as (λ o. o ≡ option_map (λ j. 0 + j) o) [
  | None ↦ refl
  | Some j ↦ let same : j ≡ 0 + j = omega arith in ap Some same
]
position-others p (x ∷ xs) ys none =
    position-cons p x (xs ++ ys)
    ∙ (elim (p x) as (λ b. cond b (Some 0) (option_map suc (position p xs)) ≡ None
    → cond b (Some 0) (option_map suc (position p (xs ++ ys))) ≡ option_map (λ j. length (x ∷ xs) + j) (position p ys)) [
      | true ↦ λ e. absurd (cc)
      | false ↦ λ e.
          rw (position-others p xs ys (none_of suc (position p xs) e))
          (elim (position p ys) as (λ o. option_map suc (option_map (λ j. length xs + j) o) ≡ option_map (λ j. suc (length xs) + j) o) [
            | None ↦ refl
            | Some j ↦ let one : suc (length xs + j) ≡ suc (length xs) + j = omega arith in ap Some one
          ])
    ] (sym (position-cons p x xs) ∙ none))

-- at what is found there is something
pub position-there : {A : Type 0} (p : A → Bool) (xs : List A) (k : ℕ) → position p xs ≡ Some k → (x : A) × (slice_get xs k ≡ Some x)
position-there p [] k is = absurd (cc)
position-there {A} p (x ∷ xs) k is =
    elim (p x) as (λ b. cond b (Some 0) (option_map suc (position p xs)) ≡ Some k → (y : A) × (slice_get (x ∷ xs) k ≡ Some y)) [
      | true ↦ λ e. (x, subst (λ (j : ℕ). slice_get (x ∷ xs) j ≡ Some x) (same_Some 0 k e) refl)
      | false ↦ λ e.
          let rest = some_of suc (position p xs) k e in
          let there = position-there p xs rest.0 rest.1 in
          (there.0, subst (λ (j : ℕ). slice_get (x ∷ xs) j ≡ Some there.0) rest.2 there.1)
    ] (sym (position-cons p x xs) ∙ is)

-- what isn't so before and after is found nowhere else
pub position-apart : {A : Type 0} (p : A → Bool) (xs : List A) (k : ℕ) (old new : A) → slice_get xs k ≡ Some old → p old ≡ false → p new ≡ false
    → position p (slice_set xs k new) ≡ position p xs
position-apart p [] k old new at not_old not_new = absurd (cc)
position-apart p (x ∷ xs) zero old new at not_old not_new =
    let same : p x ≡ false = ap p (same_Some x old at) ∙ not_old in
    position-cons p new xs ∙ (rw (not_new, same) refl ∙ sym (position-cons p x xs))
position-apart p (x ∷ xs) (suc k) old new at not_old not_new =
    position-cons p x (slice_set xs k new) ∙ (rw (position-apart p xs k old new at not_old not_new) refl ∙ sym (position-cons p x xs))

-- and what becomes so where nothing was stands there
pub position-here : {A : Type 0} (p : A → Bool) (xs : List A) (k : ℕ) (old new : A) → slice_get xs k ≡ Some old → position p xs ≡ None → p new ≡ true
    → position p (slice_set xs k new) ≡ Some k
position-here p [] k old new at free is = absurd (cc)
position-here p (x ∷ xs) zero old new at free is = position-cons p new xs ∙ rw is refl
position-here p (x ∷ xs) (suc k) old new at free is =
    position-cons p x (slice_set xs k new)
    ∙ (elim (p x) as (λ b. cond b (Some 0) (option_map suc (position p xs)) ≡ None
    → cond b (Some 0) (option_map suc (position p (slice_set xs k new))) ≡ Some (suc k)) [
      | true ↦ λ e. absurd (cc)
      | false ↦ λ e. ap (option_map suc) (position-here p xs k old new at (none_of suc (position p xs) e) is)
    ] (sym (position-cons p x xs) ∙ free))

-- ---- names

pub same_word : (word text : List ℕ) → is_word word text ≡ true → word ≡ text
same_word word text is = (bytes_eq-Decides word text).0 is

pub is_same_word : (word : List ℕ) → is_word word word ≡ true
is_same_word word = (bytes_eq-Decides word word).1 refl

set_same : {A : Type 0} (xs : List A) (k : ℕ) (x : A) → slice_get xs k ≡ Some x → slice_set xs k x ≡ xs
set_same [] k x at = refl
set_same (y ∷ xs) zero x at = ap (λ z. z ∷ xs) (sym (same_Some y x at))
set_same (y ∷ xs) (suc k) x at = ap (λ zs. y ∷ zs) (set_same xs k x at)

module _ {C : Type 0} where
  -- the socket at the place of a name has it
  pub name_there : (name : List ℕ) (sockets : List (ScriptSocket C)) (k : ℕ) (socket : ScriptSocket C) → place_of name sockets ≡ Some k
      → slice_get sockets k ≡ Some socket → socket.name ≡ name
  unfolding place_of
  name_there name sockets k socket found at =
      let here = get_or_from_slice_get sockets k socket socket at in
      let test = (position-Some (λ (s : ScriptSocket C). is_word s.name name) sockets k socket found).1 in
      same_word socket.name name (rw here at test)

  pub found_there : (name : List ℕ) (sockets : List (ScriptSocket C)) (k : ℕ) → place_of name sockets ≡ Some k
      → (socket : ScriptSocket C) × (slice_get sockets k ≡ Some socket)
  unfolding place_of
  found_there name sockets k is = position-there (λ (s : ScriptSocket C). is_word s.name name) sockets k is

  abbrev pub name_of : ScriptSocket C → List ℕ
  name_of socket = socket.name

  -- a socket of the same name in place of another changes no place
  pub place-set : (name : List ℕ) (sockets : List (ScriptSocket C)) (k : ℕ) (old new : ScriptSocket C) → slice_get sockets k ≡ Some old → new.name ≡ old.name
      → place_of name (slice_set sockets k new) ≡ place_of name sockets
  unfolding place_of
  place-set name sockets k old new at same =
      let test : List ℕ → Bool = λ word. is_word word name in
      let there : slice_get (map name_of sockets) k ≡ Some old.name = rw (slice_get-map name_of sockets k, at) refl in
      let names : map name_of (slice_set sockets k new) ≡ map name_of sockets =
      map-set name_of sockets k new ∙ rw same (set_same (map name_of sockets) k old.name there) in
      sym (position-map name_of test (slice_set sockets k new)) ∙ (ap (λ words. position test words) names ∙ position-map name_of test sockets)
