-- The first element that passes a test, by its place.
use Rattle.std.proofs.Common.{◌≡◌, ℕ, zero, suc, ◌+◌, ◌<◌, Bool, true, false, not, cond, List, [], ◌∷◌, length, Some, None, refl, ap, ◌∙◌, sym, subst, arith}
use Rattle.std.specs.Prelude.{slice_get, position, nat_lt}
use Rattle.std.specs.List.{prefix_len}
use Rattle.std.proofs.lemmas.Bool.Decides.{Decides-ltb}

module _ {X : Type 0} (p : X → Bool) where
  -- the first that passes stands no later than any other that does
  passes-within : (xs : List X) (k : ℕ) (x : X) → slice_get xs k ≡ Some x → p x ≡ true → prefix_len (λ y. not (p y)) xs < length xs
  passes-within [] k x found passes = absurd (cc)
  passes-within (first ∷ others) zero x found passes =
      let same : first ≡ x = cc in
      let here : p first ≡ true = ap p same ∙ passes in
      rw here (omega arith)
  passes-within (first ∷ others) (suc k) x found passes =
      let later = passes-within others k x found passes in
      elim (p first) as (λ b. cond (not b) (1 + prefix_len (λ y. not (p y)) others) 0 < length (first ∷ others)) [
        | true ↦ omega arith
        | false ↦ omega (arith, later)
      ]

  -- where none is found, none passes
  pub none-passes : (xs : List X) → position p xs ≡ None → (k : ℕ) (x : X) → slice_get xs k ≡ Some x → p x ≡ false
  none-passes xs none k x found =
      elim (p x) as (λ b. p x ≡ b → b ≡ false) [
        | true ↦ λ passes.
            let few = (Decides-ltb (prefix_len (λ y. not (p y)) xs) (length xs)).1 (passes-within xs k x found passes) in
            absurd (cc)
        | false ↦ λ fails. refl
      ] refl

  -- and the one that stands at the place that is found passes
  stands-passes : (xs : List X) (x : X) → slice_get xs (prefix_len (λ y. not (p y)) xs) ≡ Some x → p x ≡ true
  stands-passes [] x found = absurd (cc)
  stands-passes (first ∷ others) x found =
      elim (p first) as (λ b. p first ≡ b → slice_get (first ∷ others) (cond (not b) (1 + prefix_len (λ y. not (p y)) others) 0) ≡ Some x → p x ≡ true) [
        | true ↦ λ passes at. let same : first ≡ x = cc in ap p (sym same) ∙ passes
        | false ↦ λ fails at.
            let next : 1 + prefix_len (λ y. not (p y)) others ≡ suc (prefix_len (λ y. not (p y)) others) = omega arith in
            stands-passes others x (subst (λ (k : ℕ). slice_get (first ∷ others) k ≡ Some x) next at)
      ] refl found

  pub found-passes : (xs : List X) (k : ℕ) (x : X) → position p xs ≡ Some k → slice_get xs k ≡ Some x → p x ≡ true
  found-passes xs k x is found =
      elim (nat_lt (prefix_len (λ y. not (p y)) xs) (length xs))
      as (λ few. cond few (Some (prefix_len (λ y. not (p y)) xs)) None ≡ Some k → p x ≡ true) [
        | true ↦ λ e.
            let same : prefix_len (λ y. not (p y)) xs ≡ k = cc in
            stands-passes xs x (ap (slice_get xs) same ∙ found)
        | false ↦ λ e. absurd (cc)
      ] is
