-- What a list with one more at its front has.
use Rattle.std.proofs.Common.{◌≡◌, List, [], ◌∷◌, inl, inr, ◌⊎◌, arith}
use Rattle.std.specs.List.{Contains}
use Rattle.std.proofs.lemmas.List.Elements.{Contains-append_left, Contains-append_right, Contains-append_cases, Contains-push, Contains-push_cases}

module _ {X : Type 0} where
  pub first-contained : (x : X) (others : List X) → Contains (x ∷ others) x
  first-contained x others = Contains-append_left (x ∷ []) others x (Contains-push [] x)

  pub other-contained : (first : X) (others : List X) (x : X) → Contains others x → Contains (first ∷ others) x
  other-contained first others x there = Contains-append_right (first ∷ []) others x there

  pub none-contained : (x : X) → Contains [] x → ⊥
  none-contained x there = omega (arith, there.1)

  pub contained-cases : (first : X) (others : List X) (x : X) → Contains (first ∷ others) x → (first ≡ x) ⊎ Contains others x
  contained-cases first others x there = elim (Contains-append_cases (first ∷ []) others x there) [
    | inl here ↦ elim (Contains-push_cases [] first x here) [
      | inl none ↦ absurd (none-contained x none)
      | inr same ↦ inl same
    ]
    | inr later ↦ inr later
  ]
