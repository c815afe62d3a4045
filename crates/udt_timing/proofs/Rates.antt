-- Where the rates lie that a window tells.
use Rattle.std.proofs.Common.{◌≡◌, ℕ, ◌*◌, ◌/◌, ◌<◌, ◌≤◌, eqb, List, [], ◌∷◌, length, sum, nat_le, arith}
use Rattle.std.specs.List.{All}
use Rattle.std.proofs.Math.Nat.{le-div_iff_mul-le, div-mul-le_self, mul-le-mul_left, le_of_mul-le-mul_left}
use Rattle.std.proofs.lemmas.Bool.{and_parts, leb-true, ne_eqb, cond-false}
use Rattle.std.proofs.lemmas.List.Elements.{All-head, All-tail, All-weaker, filter_passes}
use Rattle.std.proofs.lemmas.List.Sums.{sum_by-cons, sum_by-le}
use Rattle.udt_model.specs.Timing.{median, is_near, near_median, in_a_second}
use Rattle.udt_timing.specs.Windows.{IsBetweenRates}

-- a sample that is kept is within a factor of eight of the median
pub kept_are_near : (samples : List ℕ) → All (λ v. (median samples ≤ 8 * v) × (v ≤ 8 * median samples)) (near_median samples)
kept_are_near samples =
    let m : ℕ = median samples in
    All-weaker (λ v. is_near m v ≡ _) (λ v. (m ≤ 8 * v) × (v ≤ 8 * m)) (λ v passes.
    let both = and_parts (nat_le m (8 * v)) (nat_le v (8 * m)) passes in
    (leb-true m (8 * v) both.0, leb-true v (8 * m) both.1)) (near_median samples) (filter_passes (is_near m) samples)

-- numbers that are at least `least` sum up to at least as many times that
sum-least : (least : ℕ) (xs : List ℕ) → All (λ v. least ≤ v) xs → length xs * least ≤ sum xs
sum-least least [] all = omega arith
sum-least least (x ∷ xs) all =
    omega (arith, sum_by-cons (λ v. v) x xs, All-head (λ v. least ≤ v) x xs all, sum-least least xs (All-tail (λ v. least ≤ v) x xs all))

-- by division, over a count and its time
rate_no_less : (n s most : ℕ) → 0 < s → s ≤ n * most → 1000000 / most ≤ n * 1000000 / s
rate_no_less n s most pos fits =
    let q : ℕ = 1000000 / most in
    let h : q * s ≤ q * (n * most) = mul-le-mul_left q fits in
    let k : n * (q * most) ≤ n * 1000000 = mul-le-mul_left n (div-mul-le_self 1000000 most) in
    let both : q * s ≤ n * 1000000 = omega (arith, h, k) in
    (le-div_iff_mul-le pos).1 both

rate_no_more : (n s least : ℕ) → 0 < n → 0 < s → 0 < least → n * least ≤ s → n * 1000000 / s ≤ 1000000 / least
rate_no_more n s least some pos pos' fits =
    let r : ℕ = n * 1000000 / s in
    let h : r * (n * least) ≤ r * s = mul-le-mul_left r fits in
    let k : r * s ≤ n * 1000000 = div-mul-le_self (n * 1000000) s in
    let times : n * (r * least) ≤ n * 1000000 = omega (arith, h, k) in
    let once : r * least ≤ 1000000 = le_of_mul-le-mul_left {k = n} times some in
    (le-div_iff_mul-le pos').1 once

rate_of_one : (micros : ℕ) → 0 < micros → in_a_second 1 micros ≡ 1000000 / micros
rate_of_one micros pos = cond-false (eqb micros 0) 0 (1000000 / micros) (ne_eqb micros 0 (λ z. absurd (omega arith)))

pub rate_between : (kept : List ℕ) (least most : ℕ) → 0 < length kept → 0 < least → All (λ v. (least ≤ v) × (v ≤ most)) kept → (in_a_second 1 most ≤ in_a_second (length kept) (sum kept)) × (in_a_second (length kept) (sum kept) ≤ in_a_second 1 least)
rate_between [] least most some pos all = absurd (omega arith)
rate_between (e ∷ es) least most some pos all =
    let n : ℕ = length (e ∷ es) in
    let s : ℕ = sum (e ∷ es) in
    let above = sum-least least (e ∷ es) (All-weaker (λ v. (least ≤ v) × (v ≤ most)) (λ v. least ≤ v) (λ v h. h.0) (e ∷ es) all) in
    let below = sum_by-le (λ v. v) most (e ∷ es) (All-weaker (λ v. (least ≤ v) × (v ≤ most)) (λ v. v ≤ most) (λ v h. h.1) (e ∷ es) all) in
    let first = All-head (λ v. (least ≤ v) × (v ≤ most)) e es all in
    let positive : 0 < s = omega (arith, sum_by-cons (λ v. v) e es, first.0) in
    let is : in_a_second n s ≡ n * 1000000 / s = cond-false (eqb s 0) 0 (n * 1000000 / s) (ne_eqb s 0 (λ z. absurd (omega arith))) in
    let slowest = rate_of_one most (omega (arith, first.0, first.1)) in
    let fastest = rate_of_one least pos in
    (omega (arith, is, slowest, rate_no_less n s most positive below), omega (arith, is, fastest, rate_no_more n s least some positive pos above))

-- the speed of a full window with more than eight kept samples is their rate
pub speed_between : (samples : List ℕ) (speed : ℕ) → 9 ≤ length (near_median samples) → speed ≡ in_a_second (length (near_median samples)) (sum (near_median samples)) → IsBetweenRates samples speed
speed_between samples speed most_are is least most pos all =
    let between = rate_between (near_median samples) least most (omega arith) pos all in
    (omega (arith, between.0), omega (arith, between.1))
