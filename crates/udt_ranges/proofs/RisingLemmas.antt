-- What follows for ranges from their order.
use Rattle.std.proofs.Common.{◌≡◌, ◌≢◌, ℕ, ◌+◌, ◌-◌, ◌/◌, ◌<◌, ◌≤◌, ◌%◌, List, [], ◌∷◌, ◌++◌, length, sym, arith, inl, inr}
use Rattle.std.proofs.Math.Nat.{div-add-mod, mul-le-mul_left}
use Rattle.std.proofs.lemmas.Bool.{cases_lt}
use Rattle.udt_ranges.specs.declared.range.Range.{Range}
use Rattle.udt_ranges.specs.Ranges.{Rises}

-- two numbers less than a window apart have different places in it
pub mod_apart : (a b w : ℕ) → a < b → b < a + w → a % w ≡ b % w → ⊥
mod_apart a b w below within same =
    elim (cases_lt (a / w) (b / w)) [
      | inl less ↦ omega (arith, div-add-mod a w, div-add-mod b w, mul-le-mul_left w (let h : a / w + 1 ≤ b / w = omega arith in h))
      | inr more ↦ omega (arith, div-add-mod a w, div-add-mod b w, mul-le-mul_left w more)
    ]

module _ {T : Type 0} where
  -- a lower bound may be lowered
  pub Rises-lower : (low lower high : ℕ) (rs : List (Range T)) → lower ≤ low → Rises low high rs → Rises lower high rs
  unfolding Rises
  Rises-lower low lower high [] le h = h
  Rises-lower low lower high (r ∷ rs) le h = (omega arith, h.1, h.2, h.3)

  -- an upper bound may be raised
  pub Rises-higher : (low high higher : ℕ) (rs : List (Range T)) → high ≤ higher → Rises low high rs → Rises low higher rs
  unfolding Rises
  Rises-higher low high higher [] le h = h
  Rises-higher low high higher (r ∷ rs) le h = (h.0, h.1, omega arith, Rises-higher (r.last + 1) high higher rs le h.3)

  -- rising ranges are at most as many as the offsets between the bounds
  pub length-Rises : (low high : ℕ) (rs : List (Range T)) → Rises low high rs → length rs ≤ high - low
  unfolding Rises
  length-Rises low high [] h = omega arith
  length-Rises low high (r ∷ rs) h = omega (arith, length-Rises (r.last + 1) high rs h.3)

  -- a range in the middle lies between the bounds
  pub Rises-middle : (low high : ℕ) (front : List (Range T)) (r : Range T) (back : List (Range T)) → Rises low high (front ++ r ∷ back) → (low ≤ r.first) × (r.first ≤ r.last) × (r.last < high) × Rises (r.last + 1) high back
  unfolding Rises
  Rises-middle low high [] r back h = h
  Rises-middle low high (f ∷ front) r back h =
      let rest = Rises-middle (f.last + 1) high front r back h.3 in (omega arith, rest.1, rest.2, rest.3)

  -- without a part in the middle the others still rise
  pub Rises-without : (low high : ℕ) (front : List (Range T)) (r : Range T) (back : List (Range T)) → Rises low high (front ++ r ∷ back) → Rises low high (front ++ back)
  unfolding Rises
  Rises-without low high [] r back h = Rises-lower (r.last + 1) low high back (omega arith) h.3
  Rises-without low high (f ∷ front) r back h = (h.0, h.1, h.2, Rises-without (f.last + 1) high front r back h.3)

  -- the end of a rising list rises
  pub Rises-back : (low high : ℕ) (rs ss : List (Range T)) → Rises low high (rs ++ ss) → Rises low high ss
  unfolding Rises
  Rises-back low high [] ss h = h
  Rises-back low high (r ∷ rs) ss h = Rises-lower (r.last + 1) low high ss (omega arith) (Rises-back (r.last + 1) high rs ss h.3)

  -- no range lies at this place of the window
  unfoldable pub NotAt : ℕ → ℕ → List (Range T) → Type 0
  NotAt w slot [] = Unit {0}
  NotAt w slot (r ∷ rs) = (r.first % w ≢ slot) × NotAt w slot rs

  -- the ranges after an offset do not lie at its place
  pub NotAt-above : (w f low high : ℕ) (rs : List (Range T)) → Rises low high rs → f < low → high ≤ f + w → NotAt w (f % w) rs
  unfolding Rises NotAt
  NotAt-above w f low high [] h below within = tt
  NotAt-above w f low high (r ∷ rs) h below within =
      (λ same. mod_apart f r.first w (omega arith) (omega arith) (sym same), NotAt-above w f (r.last + 1) high rs h.3 (omega arith) within)
