-- Ranges counted from the end of a list.
use Rattle.std.proofs.Common.{◌≡◌, ℕ, zero, suc, ◌+◌, ◌-◌, ◌<◌, ◌≤◌, ◌++◌, true, false, cond, eqb, List, [], ◌∷◌, length, drop, refl, ap, ◌∙◌, arith, inl, inr}
use Rattle.std.proofs.lemmas.Bool.{cases_Bool}
use Rattle.udt_model.specs.Losses.{LostRange, ranges_of, before_ranges}
use Rattle.std.specs.List.{range_with_len}
use Rattle.udt_ranges.proofs.ItemLemmas.{range_with_len-append}
use Rattle.udt_snd_loss.specs.Plain.{goes_on}

-- an offset before ranges of which the first begins with another
length-before : (x y : ℕ) (zs : List LostRange) (z : LostRange) → z.first ≡ y → length (before_ranges x (z ∷ zs)) ≡ length (z ∷ zs) + cond (eqb y (x + 1)) 0 1
length-before x y zs z first =
    elim (cases_Bool (eqb y (x + 1))) [
      | inl on ↦ rw (first, on) (omega arith)
      | inr off ↦ rw (first, off) (omega arith)
    ]

-- the first range begins with the first offset
starts : (y : ℕ) (rs : List LostRange) → (z : LostRange) × (zs : List LostRange) × (before_ranges y rs ≡ z ∷ zs) × (z.first ≡ y)
starts y [] = (record { first = y; last = y }, [], refl, refl)
starts y (r ∷ rs) =
    elim (eqb r.first (y + 1)) as (λ b. (z : LostRange) × (zs : List LostRange) × (cond b (record { first = y; last = r.last } ∷ rs) (record { first = y; last = y } ∷ r ∷ rs) ≡ z ∷ zs) × (z.first ≡ y)) [
      | true ↦ (record { first = y; last = r.last }, rs, refl, refl)
      | false ↦ (record { first = y; last = y }, r ∷ rs, refl, refl)
    ]

one_more : (x : ℕ) (xs : List ℕ) → length (ranges_of (x ∷ xs)) ≡ length (ranges_of xs) + cond (goes_on (x ∷ xs)) 0 1
unfolding ranges_of
one_more x [] = refl
one_more x (y ∷ ys) = let s = starts y (ranges_of ys) in rw s.2 (length-before x y s.1 s.0 s.3)

-- one offset more from the end is one range more, unless the next offset goes on from it
pub counted_more : (i : ℕ) (xs : List ℕ) → i < length xs → length (ranges_of (drop i xs)) ≡ length (ranges_of (drop (i + 1) xs)) + cond (goes_on (drop i xs)) 0 1
counted_more i [] less = absurd (omega arith)
counted_more zero (x ∷ xs) less = let e : 0 + 1 ≡ suc 0 = omega arith in rw e (one_more x xs)
counted_more (suc i) (x ∷ xs) less =
    let e : suc i + 1 ≡ suc (i + 1) = omega arith in rw e (counted_more i xs (omega arith))

pub counted_none : (xs : List ℕ) → length (ranges_of (drop (length xs) xs)) ≡ 0
unfolding ranges_of
counted_none [] = refl
counted_none (x ∷ xs) = counted_none xs

-- one number more in a row
pub row_push : (from k : ℕ) → range_with_len from (k + 1) ≡ range_with_len from k ++ (from + k) ∷ []
row_push from k = range_with_len-append from k 1

pub row_last : (from to k : ℕ) → from ≤ to → k ≡ to - from → range_with_len from (to + 1 - from) ≡ range_with_len from k ++ to ∷ []
row_last from to k le is =
    let e : to + 1 - from ≡ k + 1 = omega arith in
    let f : from + k ≡ to = omega arith in
    rw e (row_push from k ∙ ap (λ n. range_with_len from k ++ n ∷ []) f)
