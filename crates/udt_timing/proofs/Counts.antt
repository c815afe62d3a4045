-- How many numbers of a list pass a test.
use Rattle.std.proofs.Common.{◌≡◌, ℕ, zero, suc, ◌<◌, ◌≤◌, Bool, true, false, cond, List, [], ◌∷◌, length, take, get_or, count_by, length-take, arith, add-one, inl, inr, ap, refl}
use Rattle.std.proofs.lemmas.Bool.{cases_lt}
use Rattle.std.proofs.lemmas.List.Sums.{sum_by-cons, sum_by-take-le, count_by_more_yes, count_by_more_no, count_by-le-length}
use Rattle.std.proofs.Math.Seq.{take-length}

cond-mono : (a b : Bool) → (a ≡ true → b ≡ true) → cond a 1 0 ≤ cond b 1 0
cond-mono true true h = omega arith
cond-mono true false h = absurd (cc (h refl))
cond-mono false true h = omega arith
cond-mono false false h = omega arith

-- a test that passes wherever another does counts no less
pub count_by-mono : (p q : ℕ → Bool) → ((x : ℕ) → p x ≡ true → q x ≡ true) → (xs : List ℕ) → count_by p xs ≤ count_by q xs
count_by-mono p q h [] = omega arith
count_by-mono p q h (x ∷ xs) =
    omega (arith, sum_by-cons (λ y. cond (p y) 1 0) x xs, sum_by-cons (λ y. cond (q y) 1 0) x xs, cond-mono (p x) (q x) (h x), count_by-mono p q h xs)

count_by-take_all : (p : ℕ → Bool) (xs : List ℕ) (n : ℕ) → n ≤ length xs → ((i : ℕ) → i < n → p (get_or xs i 0) ≡ true) → count_by p (take n xs) ≡ n
count_by-take_all p xs zero fits h = refl
count_by-take_all p xs (suc n) fits h =
    let more = rw (add-one n) at (count_by_more_yes p xs n 0 (omega arith) (h n (omega arith))) in
    omega (arith, more, count_by-take_all p xs n (omega arith) (λ i l. h i (omega arith)))

-- where the first n pass, at least n do
pub count_by-first : (p : ℕ → Bool) (xs : List ℕ) (n : ℕ) → n ≤ length xs → ((i : ℕ) → i < n → p (get_or xs i 0) ≡ true) → n ≤ count_by p xs
count_by-first p xs n fits h =
    omega (arith, count_by-take_all p xs n fits h, sum_by-take-le (λ x. cond (p x) 1 0) xs n)

count_by-take_none : (p : ℕ → Bool) (xs : List ℕ) (n k : ℕ) → ((i : ℕ) → n ≤ i → i < length xs → p (get_or xs i 0) ≡ false) → k ≤ length xs → count_by p (take k xs) ≤ n
count_by-take_none p xs n zero h fits = omega arith
count_by-take_none p xs n (suc k) h fits =
    elim (cases_lt k n) [
      | inl less ↦ omega (arith, count_by-le-length p (take (suc k) xs), length-take (suc k) xs)
      | inr more ↦
          let same = rw add-one at (count_by_more_no p xs k 0 (omega arith) (h k more (omega arith))) in
          omega (arith, same, count_by-take_none p xs n k h (omega arith))
    ]

-- where none passes from n on, at most n do
pub count_by-from : (p : ℕ → Bool) (xs : List ℕ) (n : ℕ) → ((i : ℕ) → n ≤ i → i < length xs → p (get_or xs i 0) ≡ false) → count_by p xs ≤ n
count_by-from p xs n h =
    let all = take-length xs in
    omega (arith, count_by-take_none p xs n (length xs) h (omega arith), ap (count_by p) all)
