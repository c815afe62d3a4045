-- The least power of ten that reaches a number.
use Rattle.std.proofs.Common.{◌≡◌, ℕ, zero, suc, ◌+◌, ◌*◌, ◌^◌, ◌<◌, ◌≤◌, inl, inr, refl, arith, add-zero}
use Rattle.std.proofs.Math.Nat.{pow-suc, pow-le-pow_right, one-le-pow}
use Rattle.std.proofs.lemmas.Bool.{cond_both, leb-true, leb-false, cases_lt}
use Rattle.std.specs.Prelude.{nat_le}
use Rattle.udt_model.specs.Rate.{first_power, power_of_ten, IsLeastPower, PowerIsLeast}

-- a greater exponent has no smaller power
pub power_rises : (j k : ℕ) → j ≤ k → 10 ^ j ≤ 10 ^ k
power_rises j k h = let ten : 0 < 10 = omega arith in pow-le-pow_right ten h

-- a power is the least one that reaches x, where no lower one does
pub least_from : (p k x : ℕ) → p ≡ 10 ^ k → x ≤ p → ((j : ℕ) → j < k → 10 ^ j < x) → IsLeastPower p x
least_from p k x is_power reaches below =
    record {
      exponent = k;
      is_power = is_power;
      reaches = reaches;
      is_least =
          λ j h. elim (cases_lt j k) [
            | inl lt ↦ absurd (omega (arith, below j lt))
            | inr le ↦ omega (arith, power_rises k j le, is_power)
          ];
    }

-- no lower power than the next one reaches x, where this one doesn't
pub none_below : (k x : ℕ) → 10 ^ k < x → (j : ℕ) → j < suc k → 10 ^ j < x
none_below k x here j h = let le : j ≤ k = omega arith in omega (arith, power_rises j k le)

-- the search finds it, where it has enough powers to try
pub found :
    (more k p x : ℕ) → p ≡ 10 ^ k → x ≤ 10 ^ (k + more) → ((j : ℕ) → j < k → 10 ^ j < x)
    → IsLeastPower (first_power more p x) x
found zero k p x is_power reaches below =
    let at : x ≤ 10 ^ k = rw (add-zero k) at reaches in
    least_from p k x is_power (omega arith) below
found (suc more) k p x is_power reaches below =
    cond_both (nat_le x p) p (first_power more (p * 10) x) (λ q. IsLeastPower q x)
    (λ e. least_from p k x is_power (leb-true x p e) below)
    (λ e.
    let here : 10 ^ k < x = omega (arith, leb-false x p e, is_power) in
    let next : p * 10 ≡ 10 ^ suc k = omega (arith, pow-suc 10 k, is_power) in
    let same : k + suc more ≡ suc k + more = omega arith in
    let far : x ≤ 10 ^ (suc k + more) = rw same at reaches in
    found more (suc k) (p * 10) x next far (none_below k x here))

-- with x powers to try there are enough
reaches_all : (x : ℕ) → x < 10 ^ x
reaches_all zero = omega arith
reaches_all (suc x) = omega (arith, reaches_all x, pow-suc 10 x)

-- the power that an increase takes is the least one
pub power_is_least : PowerIsLeast
unfolding power_of_ten
power_is_least x =
    let same : 0 + x ≡ x = omega arith in
    let enough : x ≤ 10 ^ (0 + x) = rw same (omega (arith, reaches_all x)) in
    found x 0 1 x refl enough (λ j h. absurd (omega arith))

-- there is one least power
pub least_is_one : (p q x : ℕ) → IsLeastPower p x → IsLeastPower q x → p ≡ q
least_is_one p q x a b =
    let one : p ≤ 10 ^ b.exponent = a.is_least b.exponent (omega (arith, b.is_power, b.reaches)) in
    let other : q ≤ 10 ^ a.exponent = b.is_least a.exponent (omega (arith, a.is_power, a.reaches)) in
    omega (arith, a.is_power, b.is_power)

-- it is below ten times the number
pub below_ten_times : (p x k : ℕ) → p ≡ 10 ^ k → ((j : ℕ) → x ≤ 10 ^ j → p ≤ 10 ^ j) → 1 ≤ x → p < 10 * x
below_ten_times p x zero is_power is_least positive = omega (arith, is_power)
below_ten_times p x (suc k) is_power is_least positive =
    elim (cases_lt (10 ^ k) x) [
      | inl lt ↦ omega (arith, pow-suc 10 k, is_power)
      | inr le ↦ absurd (omega (arith, pow-suc 10 k, is_power, is_least k le, one-le-pow k 10 (omega arith)))
    ]

pub least_is_near : (x : ℕ) → 1 ≤ x → power_of_ten x < 10 * x
least_is_near x positive =
    let l = power_is_least x in
    below_ten_times (power_of_ten x) x l.exponent l.is_power l.is_least positive
