-- A pair's line with another number of words is of no form.
use Rattle.std.proofs.Common.{◌≡◌, ℕ, ◌<◌, ◌≤◌, List, [], ◌∷◌, length, map, refl, arith, None}
use Rattle.udt_model.specs.Lines.{pair_line}

pub too_few : {A : Type 0} (bytes : A → List ℕ) (kind : List ℕ) (words : List A) → length words < 5
    → pair_line kind (map bytes words) ≡ None
unfolding pair_line
too_few bytes kind [] few = refl
too_few bytes kind (a ∷ []) few = refl
too_few bytes kind (a ∷ b ∷ []) few = refl
too_few bytes kind (a ∷ b ∷ c ∷ []) few = refl
too_few bytes kind (a ∷ b ∷ c ∷ d ∷ []) few = refl
too_few bytes kind (a ∷ b ∷ c ∷ d ∷ e ∷ words) few = absurd (omega (arith, few))

pub too_many : {A : Type 0} (bytes : A → List ℕ) (kind : List ℕ) (words : List A) → 7 ≤ length words
    → pair_line kind (map bytes words) ≡ None
unfolding pair_line
too_many bytes kind (a ∷ b ∷ c ∷ d ∷ e ∷ f ∷ g ∷ words) many = refl
too_many bytes kind (a ∷ b ∷ c ∷ d ∷ e ∷ f ∷ []) many = absurd (omega (arith, many))
too_many bytes kind (a ∷ b ∷ c ∷ d ∷ e ∷ []) many = absurd (omega (arith, many))
too_many bytes kind (a ∷ b ∷ c ∷ d ∷ []) many = absurd (omega (arith, many))
too_many bytes kind (a ∷ b ∷ c ∷ []) many = absurd (omega (arith, many))
too_many bytes kind (a ∷ b ∷ []) many = absurd (omega (arith, many))
too_many bytes kind (a ∷ []) many = absurd (omega (arith, many))
too_many bytes kind [] many = absurd (omega (arith, many))
