-- What holds of each socket of a network, where one is replaced or more are added.
use Rattle.std.proofs.Common.{◌≡◌, ℕ, zero, suc, ◌+◌, List, [], ◌∷◌, ◌++◌, length, Some, ◌∙◌, sym, subst, inl, inr}
use Rattle.std.specs.Prelude.{slice_get, slice_set}
use Rattle.std.proofs.lemmas.Bool.{cases_eq}
use Rattle.udt_laws.proofs.scripts.ReplacedOne.{set-other, set-same, found-once, append-found}

module _ {X : Type 0} where
  -- this holds of each, by its place
  abbrev pub Each : List X → (ℕ → X → Type 0) → Type 0
  Each xs P = (k : ℕ) (x : X) → slice_get xs k ≡ Some x → P k x

  pub each-set : (xs : List X) (place : ℕ) (old new : X) (P : ℕ → X → Type 0) → slice_get xs place ≡ Some old → Each xs P
      → P place new
      → Each (slice_set xs place new) P
  each-set xs place old new P here all changed k x at = elim (cases_eq place k) [
    | inl same ↦
        let there = subst (λ (j : ℕ). slice_get (slice_set xs place new) j ≡ Some new) same (set-same xs place old new here) in
        let is = found-once _ k new x there at in
        subst (P k) is (subst (λ (j : ℕ). P j new) same changed)
    | inr apart ↦ all k x (sym (set-other xs place k new apart) ∙ at)
  ]

  pub each-more : (xs added : List X) (P : ℕ → X → Type 0) → Each xs P → Each added (λ j x. P (length xs + j) x)
      → Each (xs ++ added) P
  each-more xs added P all others k x at = elim (append-found xs added k x at) [
    | inl old ↦ all k x old
    | inr past ↦ subst (λ (j : ℕ). P j x) (sym past.1) (others past.0 x past.2)
  ]

  -- one that is added stands after the others
  pub each-one : (one : X) (P : ℕ → X → Type 0) → P 0 one → Each (one ∷ []) P
  each-one one P holds zero x at = let same : one ≡ x = cc in subst (P 0) same holds
  each-one one P holds (suc k) x at = absurd (cc)

  pub each-two : (one two : X) (P : ℕ → X → Type 0) → P 0 one → P 1 two → Each (one ∷ two ∷ []) P
  each-two one two P holds also zero x at = let same : one ≡ x = cc in subst (P 0) same holds
  each-two one two P holds also (suc zero) x at = let same : two ≡ x = cc in subst (P 1) same also
  each-two one two P holds also (suc (suc k)) x at = absurd (cc)
