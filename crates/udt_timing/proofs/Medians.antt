-- The median is the ninth smallest sample by counts, and counts leave no other number.
use Rattle.std.proofs.Common.{◌≡◌, ℕ, zero, suc, ◌+◌, ◌<◌, ◌≤◌, Bool, cond, List, [], ◌∷◌, length, get_or, count_by, nat_lt, nat_le, arith, inl, inr, refl, ◌∙◌}
use Rattle.std.specs.List.Sorted.{IsPermutation, IsNonDecreasing}
use Rattle.std.proofs.lemmas.Bool.{cond_both, cases_order, leb-true, leb-false, lt-ltb, le-ltb, le-leb}
use Rattle.std.proofs.lemmas.List.Sums.{sum_by-cons}
use Rattle.std.proofs.lemmas.List.Sorted.{sum_by-IsPermutation, length_permutation}
use Rattle.udt_model.specs.Timing.{put_in_order, in_order, median}
use Rattle.udt_timing.specs.Windows.{IsNinthSmallest}
use Rattle.udt_timing.proofs.Counts.{count_by-mono, count_by-first, count_by-from}

-- ---- where numbers don't fall, the one at place 8 of sixteen is the ninth smallest

pub ninth_at_eight : (ys : List ℕ) → IsNonDecreasing ys → length ys ≡ 16 → IsNinthSmallest ys (get_or ys 8 0)
ninth_at_eight ys up len =
    let middle : ℕ = get_or ys 8 0 in
    record {
      nine = count_by-first (λ x. nat_le x middle) ys 9 (omega arith) (λ i h. le-leb _ _ (up i 8 0 (omega arith) (omega arith)));
      eight = count_by-from (λ x. nat_lt x middle) ys 8 (λ i h k. le-ltb _ _ (up 8 i 0 h k));
    }

-- an exchange of places changes no count
pub ninth_of_permutation : (xs ys : List ℕ) (m : ℕ) → IsPermutation xs ys → IsNinthSmallest ys m → IsNinthSmallest xs m
ninth_of_permutation xs ys m same ninth =
    let at_most = sum_by-IsPermutation (λ x. cond (nat_le x m) 1 0) xs ys same in
    let below = sum_by-IsPermutation (λ x. cond (nat_lt x m) 1 0) xs ys same in
    record { nine = omega (arith, ninth.nine, at_most); eight = omega (arith, ninth.eight, below) }

-- ---- no other number has these counts

below_none : (xs : List ℕ) (a b : ℕ) → a < b → IsNinthSmallest xs a → IsNinthSmallest xs b → ⊥
below_none xs a b less at_a at_b =
    let more = count_by-mono (λ x. nat_le x a) (λ x. nat_lt x b) (λ x h. lt-ltb x b (omega (arith, leb-true x a h))) xs in
    omega (arith, more, at_a.nine, at_b.eight)

pub ninth_unique : (xs : List ℕ) (a b : ℕ) → IsNinthSmallest xs a → IsNinthSmallest xs b → a ≡ b
ninth_unique xs a b at_a at_b =
    elim (cases_order a b) [
      | inl same ↦ same
      | inr other ↦ elim other [
        | inl less ↦ absurd (below_none xs a b less at_a at_b)
        | inr more ↦ absurd (below_none xs b a more at_b at_a)
      ]
    ]

-- ---- the numbers in rising order are the same numbers

count_by-put : (p : ℕ → Bool) (x : ℕ) (ys : List ℕ) → count_by p (put_in_order x ys) ≡ count_by p (x ∷ ys)
unfolding put_in_order
count_by-put p x [] = refl
count_by-put p x (y ∷ ys) =
    cond_both (nat_le x y) (x ∷ y ∷ ys) (y ∷ put_in_order x ys) (λ zs. count_by p zs ≡ count_by p (x ∷ y ∷ ys)) (λ _. refl) (λ _.
    let f : ℕ → ℕ = λ z. cond (p z) 1 0 in
    omega (arith, sum_by-cons f y (put_in_order x ys), count_by-put p x ys, sum_by-cons f x ys, sum_by-cons f x (y ∷ ys), sum_by-cons f y ys))

count_by-in_order : (p : ℕ → Bool) (xs : List ℕ) → count_by p (in_order xs) ≡ count_by p xs
unfolding in_order
count_by-in_order p [] = refl
count_by-in_order p (x ∷ xs) =
    let f : ℕ → ℕ = λ z. cond (p z) 1 0 in
    omega (arith, count_by-put p x (in_order xs), count_by-in_order p xs, sum_by-cons f x (in_order xs), sum_by-cons f x xs)

length-put : (x : ℕ) (ys : List ℕ) → length (put_in_order x ys) ≡ length ys + 1
unfolding put_in_order
length-put x [] = refl
length-put x (y ∷ ys) =
    cond_both (nat_le x y) (x ∷ y ∷ ys) (y ∷ put_in_order x ys) (λ zs. length zs ≡ length (y ∷ ys) + 1) (λ _. omega arith) (λ _. omega (arith, length-put x ys))

pub length-in_order : (xs : List ℕ) → length (in_order xs) ≡ length xs
unfolding in_order
length-in_order [] = refl
length-in_order (x ∷ xs) = omega (arith, length-put x (in_order xs), length-in_order xs)

-- ---- and they rise

abbrev NoneBelow : ℕ → List ℕ → Type 0
NoneBelow m [] = Unit {0}
NoneBelow m (y ∷ ys) = (m ≤ y) × NoneBelow m ys

abbrev Rises : List ℕ → Type 0
Rises [] = Unit {0}
Rises (x ∷ xs) = NoneBelow x xs × Rises xs

NoneBelow-less : (m n : ℕ) (ys : List ℕ) → m ≤ n → NoneBelow n ys → NoneBelow m ys
NoneBelow-less m n [] h none = tt
NoneBelow-less m n (y ∷ ys) h none = (omega (arith, none.0), NoneBelow-less m n ys h none.1)

NoneBelow-put : (m x : ℕ) (ys : List ℕ) → m ≤ x → NoneBelow m ys → NoneBelow m (put_in_order x ys)
unfolding put_in_order
NoneBelow-put m x [] h none = (h, tt)
NoneBelow-put m x (y ∷ ys) h none =
    cond_both (nat_le x y) (x ∷ y ∷ ys) (y ∷ put_in_order x ys) (NoneBelow m) (λ _. (h, none)) (λ _. (none.0, NoneBelow-put m x ys h none.1))

Rises-put : (x : ℕ) (ys : List ℕ) → Rises ys → Rises (put_in_order x ys)
unfolding put_in_order
Rises-put x [] up = (tt, tt)
Rises-put x (y ∷ ys) up =
    cond_both (nat_le x y) (x ∷ y ∷ ys) (y ∷ put_in_order x ys) Rises
    (λ e. let le : x ≤ y = leb-true x y e in ((le, NoneBelow-less x y ys le up.0), up))
    (λ e. let less : y < x = leb-false x y e in (NoneBelow-put y x ys (omega arith) up.0, Rises-put x ys up.1))

Rises-in_order : (xs : List ℕ) → Rises (in_order xs)
unfolding in_order
Rises-in_order [] = tt
Rises-in_order (x ∷ xs) = Rises-put x (in_order xs) (Rises-in_order xs)

NoneBelow-get_or : (m : ℕ) (ys : List ℕ) (j d : ℕ) → NoneBelow m ys → j < length ys → m ≤ get_or ys j d
NoneBelow-get_or m [] j d none h = absurd (omega arith)
NoneBelow-get_or m (y ∷ ys) zero d none h = none.0
NoneBelow-get_or m (y ∷ ys) (suc j) d none h = NoneBelow-get_or m ys j d none.1 (omega arith)

IsNonDecreasing-from_rises : (xs : List ℕ) → Rises xs → IsNonDecreasing xs
IsNonDecreasing-from_rises [] up i j d le h = absurd (omega arith)
IsNonDecreasing-from_rises (x ∷ xs) up zero zero d le h = omega arith
IsNonDecreasing-from_rises (x ∷ xs) up zero (suc j) d le h = NoneBelow-get_or x xs j d up.0 (omega arith)
IsNonDecreasing-from_rises (x ∷ xs) up (suc i) zero d le h = absurd (omega arith)
IsNonDecreasing-from_rises (x ∷ xs) up (suc i) (suc j) d le h = IsNonDecreasing-from_rises xs up.1 i j d (omega arith) (omega arith)

-- ---- so the median of a full window is its ninth smallest

pub median_is_ninth : (xs : List ℕ) → length xs ≡ 16 → IsNinthSmallest xs (median xs)
median_is_ninth xs full =
    let m : ℕ = median xs in
    let ninth : IsNinthSmallest (in_order xs) m = ninth_at_eight (in_order xs) (IsNonDecreasing-from_rises (in_order xs) (Rises-in_order xs)) (length-in_order xs ∙ full) in
    record {
      nine = omega (arith, ninth.nine, count_by-in_order (λ x. nat_le x m) xs);
      eight = omega (arith, ninth.eight, count_by-in_order (λ x. nat_lt x m) xs);
    }

-- and so is what stands at place 8 after a sort
pub ninth_of_sorted : (xs ys : List ℕ) → length xs ≡ 16 → IsPermutation xs ys → IsNonDecreasing ys → IsNinthSmallest xs (get_or ys 8 0)
ninth_of_sorted xs ys full same up =
    ninth_of_permutation xs ys (get_or ys 8 0) same (ninth_at_eight ys up (length_permutation xs ys same ∙ full))

pub median_of_sorted : (xs ys : List ℕ) → length xs ≡ 16 → IsPermutation xs ys → IsNonDecreasing ys → get_or ys 8 0 ≡ median xs
median_of_sorted xs ys full same up =
    ninth_unique xs (get_or ys 8 0) (median xs) (ninth_of_sorted xs ys full same up) (median_is_ninth xs full)
