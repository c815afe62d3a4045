-- Moments in time: the sooner of two, and one that isn't before the last one.
use Rattle.std.proofs.Common.{◌≡◌, ℕ, ◌<◌, ◌≤◌, min, max, Option, Some, None, refl, ap, ◌∙◌, sym, inl, inr, ◌⊎◌, arith}
use Rattle.std.specs.Prelude.{nat_le, if◌then◌else◌}
use Rattle.std.proofs.lemmas.Bool.{leb-true, leb-false, cases_lt, cases_Bool}
use Rattle.udt_model.specs.declared.limits.TheConstants.{LAST_MOMENT}
use Rattle.udt_model.specs.Events.{at_moment}
use Rattle.udt_model.specs.Moments.{sooner, not_before}
use Rattle.udt_model.specs.State.{State}

-- ---- the soonest of moments

-- this moment comes before the other, where there is one
abbrev pub IsBefore : ℕ → Option ℕ → Type 0
IsBefore m other = (t : ℕ) → other ≡ Some t → m < t

pub before-first : (m : ℕ) (a b : Option ℕ) → IsBefore m (sooner a b) → IsBefore m a
before-first m None b is = λ t there. absurd (cc)
before-first m (Some x) None is = is
before-first m (Some x) (Some y) is = λ t there.
    let same : x ≡ t = cc in
    omega (arith, is (min x y) refl, same)

pub before-second : (m : ℕ) (a b : Option ℕ) → IsBefore m (sooner a b) → IsBefore m b
before-second m None b is = is
before-second m (Some x) None is = λ t there. absurd (cc)
before-second m (Some x) (Some y) is = λ t there.
    let same : y ≡ t = cc in
    omega (arith, is (min x y) refl, same)

min-is : (x y : ℕ) → (min x y ≡ x) ⊎ (min x y ≡ y)
min-is x y = elim (cases_lt x y) [ inl less ↦ inl (omega (arith, less)) | inr more ↦ inr (omega (arith, more)) ]

pub sooner-is : (a b : Option ℕ) (t : ℕ) → sooner a b ≡ Some t → (a ≡ Some t) ⊎ (b ≡ Some t)
sooner-is None b t is = inr is
sooner-is (Some x) None t is = inl is
sooner-is (Some x) (Some y) t is = elim (min-is x y) [
  | inl first ↦ inl (ap (λ (z : ℕ). Some z) (sym first) ∙ is)
  | inr second ↦ inr (ap (λ (z : ℕ). Some z) (sym second) ∙ is)
]

-- a moment before one that is due later: the clock stands at the last moment of all at most
pub early : (last due m : ℕ) → last ≤ m → IsBefore m (not_before last due) → min m LAST_MOMENT < due
early last due m after is = elim (cases_Bool (nat_le due LAST_MOMENT)) [
  | inl within ↦
      let there : not_before last due ≡ Some (max last due) = rw within refl in
      omega (arith, is (max last due) there, after)
  | inr past ↦ omega (arith, leb-false due LAST_MOMENT past)
]

-- a moment at which something is due
pub record IsDue (last due t : ℕ) : Type 0 where
  pub come : due ≤ t
  pub after : last ≤ t
  pub within : last ≤ LAST_MOMENT → t ≤ LAST_MOMENT

pub not_before-is : (last due t : ℕ) → not_before last due ≡ Some t → IsDue last due t
not_before-is last due t is = elim (cases_Bool (nat_le due LAST_MOMENT)) [
  | inl within ↦
      let there : not_before last due ≡ Some (max last due) = rw within refl in
      let same : max last due ≡ t = cc in
      let fits = leb-true due LAST_MOMENT within in
      record { come = omega (arith, same); after = omega (arith, same); within = λ last_fits. omega (arith, same, fits, last_fits) }
  | inr past ↦
      let none : not_before last due ≡ None = rw past refl in
      absurd (cc)
]

module _ {C : Type 0} where
  -- the state at a moment that isn't before the last one
  pub last-at : (s : State C) (m : ℕ) → s.last ≤ LAST_MOMENT → s.last ≤ m → (at_moment s m).last ≡ min m LAST_MOMENT
  last-at s m fits after = omega (arith, fits, after)
