-- Which offsets are missing, once some are added, one arrives, and some are reported.
use Rattle.std.proofs.Common.{◌≡◌, ℕ, zero, suc, ◌+◌, ◌-◌, ◌<◌, ◌≤◌, Bool, true, false, cond, eqb, ◌||◌, ltb, List, [], ◌∷◌, ◌++◌, map, filter, refl, sym, ap, subst, ◌∙◌, arith, inl, inr, ◌⊎◌}
use Rattle.std.specs.Prelude.{if◌then◌else◌}
use Rattle.std.specs.List.{range_with_len}
use Rattle.std.proofs.lemmas.Bool.{cases_lt, cases_Bool, cases_eq, cases_order, eqb-true, eq-eqb, ne_eqb, lt-ltb, le-ltb, or_left, or_right, or_from, or_cases, true≢false}
use Rattle.std.proofs.lemmas.List.Folds.{list_any-append}
use Rattle.udt_model.specs.Losses.{Missing, LostRange, is_missing, is_within, with_missing, without_missing, after_report, reported_at}
use Rattle.udt_model.specs.ReceiveReports.{least_missing}

-- ---- offsets that are added

-- an offset that was just found missing
abbrev listed : ℕ → ℕ → Missing
listed now n = record { offset = n; reported = now; wait = 2 }

row_only : (now n from count : ℕ) → is_missing n (map (listed now) (range_with_len from count)) ≡ true → (from ≤ n) × (n < from + count)
row_only now n from zero h = absurd (true≢false (sym h))
row_only now n from (suc count) h = elim (or_cases (eqb from n) _ h) [
  | inl here ↦ let same : from ≡ n = eqb-true from n here in (omega arith, omega arith)
  | inr later ↦ let rest = row_only now n (from + 1) count later in (omega arith, omega arith)
]

row_has : (now n from count : ℕ) → from ≤ n → n < from + count → is_missing n (map (listed now) (range_with_len from count)) ≡ true
row_has now n from zero low high = absurd (omega arith)
row_has now n from (suc count) low high = elim (cases_eq from n) [
  | inl same ↦ or_left (eqb from n) _ (eq-eqb from n same)
  | inr apart ↦
      let above : from + 1 ≤ n = elim (cases_lt from n) [ inl less ↦ omega (arith, less) | inr more ↦ absurd (apart (omega (arith, more, low))) ] in
      or_right (eqb from n) _ (row_has now n (from + 1) count above (omega arith))
]

pub added_only : (from to now n : ℕ) (ms : List Missing) → is_missing n (with_missing from to now ms) ≡ true → (is_missing n ms ≡ true) ⊎ ((from ≤ n) × (n < from + (to + 1 - from)))
unfolding with_missing
added_only from to now n ms h = elim (or_cases _ _ (sym (list_any-append (λ (lost : Missing). eqb lost.offset n) ms _) ∙ h)) [
  | inl old ↦ inl old
  | inr new ↦ inr (row_only now n from (to + 1 - from) new)
]

pub added_keeps : (from to now n : ℕ) (ms : List Missing) → is_missing n ms ≡ true → is_missing n (with_missing from to now ms) ≡ true
unfolding with_missing
added_keeps from to now n ms h = list_any-append (λ (lost : Missing). eqb lost.offset n) ms _ ∙ or_left _ _ h

pub added_has : (from to now n : ℕ) (ms : List Missing) → from ≤ n → n < from + (to + 1 - from) → is_missing n (with_missing from to now ms) ≡ true
unfolding with_missing
added_has from to now n ms low high = list_any-append (λ (lost : Missing). eqb lost.offset n) ms _ ∙ or_right _ _ (row_has now n from (to + 1 - from) low high)

-- ---- an offset that arrives

-- an offset is outside of a range of its own exactly where it is another one
own_outside : (k n : ℕ) → (k ≡ n → ⊥) → (ltb k n || ltb n k) ≡ true
own_outside k n apart = elim (cases_order k n) [
  | inl same ↦ absurd (apart same)
  | inr either ↦ elim either [ inl below ↦ or_left _ _ (lt-ltb k n below) | inr above ↦ or_right _ _ (lt-ltb n k above) ]
]

own_inside : (k n : ℕ) → k ≡ n → (ltb k n || ltb n k) ≡ false
own_inside k n same = or_from _ _ (le-ltb k n (omega arith)) (le-ltb n k (omega arith))

pub arrived_only : (offset n : ℕ) (ms : List Missing) → is_missing n (without_missing offset offset ms) ≡ true → (is_missing n ms ≡ true) × (n ≡ offset → ⊥)
unfolding without_missing
arrived_only offset n [] h = absurd (true≢false (sym h))
arrived_only offset n (m ∷ ms) h = elim (cases_eq m.offset offset) [
  | inl same ↦
      let rest = arrived_only offset n ms (rw (own_inside m.offset offset same) at h) in
      (or_right (eqb m.offset n) _ rest.0, rest.1)
  | inr apart ↦ elim (or_cases (eqb m.offset n) _ (rw (own_outside m.offset offset apart) at h)) [
    | inl here ↦ (or_left (eqb m.offset n) _ here, λ own. apart (eqb-true m.offset n here ∙ own))
    | inr later ↦ let rest = arrived_only offset n ms later in (or_right (eqb m.offset n) _ rest.0, rest.1)
  ]
]

pub arrived_keeps : (offset n : ℕ) (ms : List Missing) → is_missing n ms ≡ true → (n ≡ offset → ⊥) → is_missing n (without_missing offset offset ms) ≡ true
unfolding without_missing
arrived_keeps offset n [] h other = h
arrived_keeps offset n (m ∷ ms) h other = elim (cases_eq m.offset offset) [
  | inl same ↦ rw (own_inside m.offset offset same) (elim (or_cases (eqb m.offset n) _ h) [
    | inl here ↦ absurd (other (sym (eqb-true m.offset n here) ∙ same))
    | inr later ↦ arrived_keeps offset n ms later other
  ])
  | inr apart ↦ rw (own_outside m.offset offset apart) (elim (or_cases (eqb m.offset n) _ h) [
    | inl here ↦ or_left (eqb m.offset n) _ here
    | inr later ↦ or_right (eqb m.offset n) _ (arrived_keeps offset n ms later other)
  ])
]

-- ---- a range that is taken

-- what is missing then was missing, and is outside of the range
pub taken_only : (first last n : ℕ) (ms : List Missing) → is_missing n (without_missing first last ms) ≡ true → (is_missing n ms ≡ true) × ((ltb n first || ltb last n) ≡ true)
unfolding without_missing
taken_only first last n [] h = absurd (true≢false (sym h))
taken_only first last n (m ∷ ms) h = elim (cases_Bool (ltb m.offset first || ltb last m.offset)) [
  | inl outside ↦ elim (or_cases (eqb m.offset n) _ (rw outside at h)) [
    | inl here ↦ (or_left (eqb m.offset n) _ here, subst (λ (k : ℕ). (ltb k first || ltb last k) ≡ true) (eqb-true m.offset n here) outside)
    | inr later ↦ let rest = taken_only first last n ms later in (or_right (eqb m.offset n) _ rest.0, rest.1)
  ]
  | inr inside ↦ let rest = taken_only first last n ms (rw inside at h) in (or_right (eqb m.offset n) _ rest.0, rest.1)
]

-- and what is outside of it stays missing
pub taken_keeps : (first last n : ℕ) (ms : List Missing) → is_missing n ms ≡ true → (ltb n first || ltb last n) ≡ true → is_missing n (without_missing first last ms) ≡ true
unfolding without_missing
taken_keeps first last n [] h outside = h
taken_keeps first last n (m ∷ ms) h outside = elim (cases_Bool (ltb m.offset first || ltb last m.offset)) [
  | inl out ↦ rw out (elim (or_cases (eqb m.offset n) _ h) [
    | inl here ↦ or_left (eqb m.offset n) _ here
    | inr later ↦ or_right (eqb m.offset n) _ (taken_keeps first last n ms later outside)
  ])
  | inr inside ↦ elim (or_cases (eqb m.offset n) _ h) [
    | inl here ↦
        let own = subst (λ (k : ℕ). (ltb k first || ltb last k) ≡ false) (eqb-true m.offset n here) inside in
        absurd (true≢false (sym outside ∙ own))
    | inr later ↦ rw inside (taken_keeps first last n ms later outside)
  ]
]

-- ---- offsets that are reported

same_offset : (ranges : List LostRange) (now : ℕ) (m : Missing) (b : Bool) → (cond b (reported_at now m) m).offset ≡ m.offset
same_offset ranges now m true = refl
same_offset ranges now m false = refl

pub reported_same : (now n : ℕ) (ranges : List LostRange) (ms : List Missing) → is_missing n (after_report now ranges ms) ≡ is_missing n ms
unfolding after_report
reported_same now n ranges [] = refl
reported_same now n ranges (m ∷ ms) =
    ap (λ k. eqb k n || is_missing n (after_report now ranges ms)) (same_offset ranges now m (is_within ranges m.offset))
    ∙ ap (λ b. eqb m.offset n || b) (reported_same now n ranges ms)

-- ---- the least one

-- the top, or a missing one
pub least_is : (top : ℕ) (ms : List Missing) → (least_missing top ms ≡ top) ⊎ (is_missing (least_missing top ms) ms ≡ true)
least_is top [] = inl refl
least_is top (m ∷ ms) = inr (or_left _ _ (eq-eqb m.offset m.offset refl))

-- the missing packets stand in rising order, none before this offset
abbrev pub AreRisingMissing : ℕ → List Missing → Type 0
AreRisingMissing from [] = Unit {0}
AreRisingMissing from (lost ∷ others) = (from ≤ lost.offset) × AreRisingMissing (lost.offset + 1) others

rising-sooner : (from sooner : ℕ) (ms : List Missing) → sooner ≤ from → AreRisingMissing from ms → AreRisingMissing sooner ms
rising-sooner from sooner [] before rising = tt
rising-sooner from sooner (lost ∷ others) before rising = (omega (arith, before, rising.0), rising.1)

none-before : (from n : ℕ) (ms : List Missing) → AreRisingMissing from ms → n < from → is_missing n ms ≡ false
none-before from n [] rising less = refl
none-before from n (lost ∷ others) rising less =
    let other : eqb lost.offset n ≡ false = ne_eqb lost.offset n (λ same. omega (arith, same, rising.0, less)) in
    rw other (none-before (lost.offset + 1) n others rising.1 (omega (arith, rising.0, less)))

-- below the least one none is missing
pub below_least : (from top n : ℕ) (ms : List Missing) → AreRisingMissing from ms → n < least_missing top ms → is_missing n ms ≡ false
below_least from top n [] rising less = refl
below_least from top n (lost ∷ others) rising less = none-before lost.offset n (lost ∷ others) (omega arith, rising.1) less

range-rising : (now from count : ℕ) → AreRisingMissing from (map (listed now) (range_with_len from count))
range-rising now from zero = tt
range-rising now from (suc count) = (omega arith, range-rising now (from + 1) count)

rising-append : (from middle : ℕ) (ms more : List Missing) → from ≤ middle → AreRisingMissing from ms
    → ((n : ℕ) → is_missing n ms ≡ true → n < middle) → AreRisingMissing middle more → AreRisingMissing from (ms ++ more)
rising-append from middle [] more low rising below after = rising-sooner middle from more low after
rising-append from middle (lost ∷ others) more low rising below after =
    let here = below lost.offset (or_left (eqb lost.offset lost.offset) _ (eq-eqb lost.offset lost.offset refl)) in (
      rising.0,
      rising-append (lost.offset + 1) middle others more (omega (arith, here)) rising.1
          (λ n there. below n (or_right (eqb lost.offset n) _ there)) after,
    )

-- those that are added follow
pub added-rising : (from top last now : ℕ) (ms : List Missing) → from ≤ top → AreRisingMissing from ms
    → ((n : ℕ) → is_missing n ms ≡ true → n < top) → AreRisingMissing from (with_missing top last now ms)
unfolding with_missing
added-rising from top last now ms low rising below =
    rising-append from top ms _ low rising below (range-rising now top (last + 1 - top))

-- and one that arrives leaves the order
pub arrived-rising : (from first last : ℕ) (ms : List Missing) → AreRisingMissing from ms → AreRisingMissing from (without_missing first last ms)
unfolding without_missing
arrived-rising from first last [] rising = tt
arrived-rising from first last (lost ∷ others) rising =
    let rest = arrived-rising (lost.offset + 1) first last others rising.1 in
    elim (ltb lost.offset first || ltb last lost.offset) as (λ stays. AreRisingMissing from (
    if stays
    then lost ∷ filter (λ l. ltb l.offset first || ltb last l.offset) others
    else filter (λ l. ltb l.offset first || ltb last l.offset) others)) [
      | true ↦ (rising.0, rest)
      | false ↦ rising-sooner (lost.offset + 1) from _ (omega (arith, rising.0)) rest
    ]

-- and so does a report
pub reported-rising : (from now : ℕ) (ranges : List LostRange) (ms : List Missing) → AreRisingMissing from ms
    → AreRisingMissing from (after_report now ranges ms)
unfolding after_report
reported-rising from now ranges [] rising = tt
reported-rising from now ranges (lost ∷ others) rising =
    let rest = reported-rising (lost.offset + 1) now ranges others rising.1 in
    elim (is_within ranges lost.offset) as (λ within. AreRisingMissing from (
    (if within then reported_at now lost else lost) ∷ map (λ l. if is_within ranges l.offset then reported_at now l else l) others)) [
      | true ↦ (rising.0, rest)
      | false ↦ (rising.0, rest)
    ]
