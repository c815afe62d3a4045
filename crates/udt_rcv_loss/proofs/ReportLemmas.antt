-- The ranges of a report, and the list once it was made.
use Rattle.std.proofs.Common.{◌≡◌, ℕ, zero, suc, ◌+◌, ◌-◌, ◌^◌, ◌<◌, ◌≤◌, min, if◌then◌else◌, Bool, true, false, cond, eqb, leb, ◌||◌, ◌&&◌, List, [], ◌∷◌, ◌++◌, map, refl, sym, ap, ◌∙◌, arith, append_assoc, inl, inr, Option, Some, None, IfSome, IfNone}
use Rattle.std.specs.List.{range_with_len, list_any}
use Rattle.std.proofs.lemmas.Bool.{ne_eqb, eq-eqb, cases_Bool, cases_eq, cases_order, le-leb, lt-leb, and_right}
use Rattle.udt_model.specs.Losses.{Missing, LostRange, offsets_between, ranges_of, before_ranges, due_ranges, words_of_range, fitting_ranges, is_within, reported_at, after_report}
use Rattle.udt_ranges.specs.declared.range.Range.{Range}
use Rattle.udt_ranges.specs.Ranges.{Rises, IsFrom, EndsBelow}
use Rattle.udt_ranges.specs.Cursors.{IsCursor, before, following}
use Rattle.udt_ranges.specs.Offsets.{Rising}
use Rattle.std.proofs.lemmas.List.{map-append}
use Rattle.udt_ranges.proofs.RisingLemmas.{Rises-back, Rises-middle}
use Rattle.udt_ranges.proofs.PlaceLemmas.{whole}
use Rattle.udt_ranges.proofs.ItemLemmas.{Rises-from}
use Rattle.udt_rcv_loss.proofs.RunLemmas.{due_in, due_in-due, due_in-not, Rising-due}
use Rattle.udt_rcv_loss.specs.Runs.{AllBy, IsTaken}
use Rattle.udt_rcv_loss.specs.declared.last_report.LastReport.{LastReport}
use Rattle.udt_rcv_loss.specs.Tags.{is_due_range, next_report, missing_at, missing_in, missing_in_range, reported_to}
use Rattle.udt_rcv_loss.proofs.ListedLemmas.{missing_in-append, missing_in-cons}

-- ranges that fit into words
pub fitting-none : (words : ℕ) → fitting_ranges words [] ≡ []
unfolding fitting_ranges
fitting-none words = refl

pub fitting-some : (words : ℕ) (r : LostRange) (rs : List LostRange) → words_of_range r ≤ words → fitting_ranges words (r ∷ rs) ≡ r ∷ fitting_ranges (words - words_of_range r) rs
unfolding fitting_ranges
fitting-some words r rs le = rw (le-leb (words_of_range r) words le) refl

pub fitting-over : (words : ℕ) (r : LostRange) (rs : List LostRange) → words < words_of_range r → fitting_ranges words (r ∷ rs) ≡ []
unfolding fitting_ranges
fitting-over words r rs over = rw (lt-leb (words_of_range r) words over) refl

-- what was taken, by the place that it was taken up to
pub taken_is : (now rtt : ℕ) (last : Option ℕ) (taken : List LostRange) (cursor : Option ℕ) (rs : List (Range LastReport)) → IsCursor cursor rs → IfSome last (λ k. EndsBelow (k + 1) (before cursor rs)) → IfSome last (λ k. IsFrom (k + 1) (following cursor rs)) → IfSome last (λ k. AllBy k taken) → due_ranges now rtt (missing_in rs) ≡ taken ++ due_ranges now rtt (missing_in (following cursor rs)) → IfSome last (λ k. IsTaken now rtt k taken rs)
taken_is now rtt None taken cursor rs h ends from by due = tt
taken_is now rtt (Some k) taken cursor rs h ends from by due =
    record { front = before cursor rs; back = following cursor rs; is = sym (whole cursor rs h); ends = ends; from = from; by = by; due = due }

-- one more range that ends later
AllBy-later : (last later : ℕ) (rs : List LostRange) → last ≤ later → AllBy last rs → AllBy later rs
unfolding AllBy
AllBy-later last later [] le h = tt
AllBy-later last later (r ∷ rs) le h = (omega (arith, h.0), AllBy-later last later rs le h.1)

AllBy-add : (last : ℕ) (rs : List LostRange) (r : LostRange) → AllBy last rs → r.last ≤ last → AllBy last (rs ++ r ∷ [])
unfolding AllBy
AllBy-add last [] r h le = (omega arith, tt)
AllBy-add last (s ∷ rs) r h le = (h.0, AllBy-add last rs r h.1 le)

pub AllBy-nil : (last : ℕ) → AllBy last []
unfolding AllBy
AllBy-nil last = tt

pub AllBy-push : (taken : Option ℕ) (last : ℕ) (rs : List LostRange) (r : LostRange) → IfNone taken (rs ≡ []) → IfSome taken (λ k. AllBy k rs) → ((k : ℕ) → taken ≡ Some k → k ≤ last) → r.last ≤ last → AllBy last (rs ++ r ∷ [])
AllBy-push None last rs r none by later le = rw none (AllBy-add last [] r (AllBy-nil last) le)
AllBy-push (Some k) last rs r none by later le = AllBy-add last rs r (AllBy-later k last rs (later k refl) by) le

-- an offset stands in a list
unfoldable pub stands_in : ℕ → List ℕ → Bool
stands_in n xs = list_any (λ k. eqb k n) xs

pub stands_in-append : (n : ℕ) (xs ys : List ℕ) → stands_in n (xs ++ ys) ≡ (stands_in n xs || stands_in n ys)
unfolding stands_in
stands_in-append n [] ys = refl
stands_in-append n (x ∷ xs) ys =
    elim (eqb x n) as (λ b. (b || stands_in n (xs ++ ys)) ≡ ((b || stands_in n xs) || stands_in n ys)) [ true ↦ refl | false ↦ stands_in-append n xs ys ]

stands_in-below : (n low high : ℕ) (xs : List ℕ) → n < low → Rising low high xs → stands_in n xs ≡ false
unfolding stands_in Rising
stands_in-below n low high [] less h = refl
stands_in-below n low high (x ∷ xs) less h =
    rw (ne_eqb x n (λ same. omega arith)) (stands_in-below n (x + 1) high xs (omega arith) h.2)

stands_in-after : (n a k : ℕ) → a + k ≤ n → stands_in n (range_with_len a k) ≡ false
unfolding stands_in
stands_in-after n a zero after = refl
stands_in-after n a (suc k) after =
    rw (ne_eqb a n (λ same. omega arith)) (stands_in-after n (a + 1) k (omega arith))

stands_in-within : (n a k : ℕ) → a ≤ n → n < a + k → stands_in n (range_with_len a k) ≡ true
unfolding stands_in
stands_in-within n a zero from to = absurd (omega arith)
stands_in-within n a (suc k) from to =
    elim (cases_eq a n) [
      | inl same ↦ rw (eq-eqb a n same) refl
      | inr differs ↦ rw (ne_eqb a n differs) (stands_in-within n (a + 1) k (omega arith) (omega arith))
    ]

-- an offset of a range is due where the range is
due_stands : (now rtt low high n : ℕ) (front : List (Range LastReport)) (r : Range LastReport) (back : List (Range LastReport)) → Rises low high (front ++ r ∷ back) → r.first ≤ n → n ≤ r.last → stands_in n (due_in now rtt (missing_in (front ++ r ∷ back))) ≡ is_due_range now rtt r
unfolding Rises
due_stands now rtt low high n [] r back h from to =
    elim (cases_Bool (is_due_range now rtt r)) [
      | inl on ↦
          ap (stands_in n) (due_in-due now rtt r back on)
          ∙ stands_in-append n (offsets_between r.first r.last) (due_in now rtt (missing_in back))
          ∙ ap (λ b. b || stands_in n (due_in now rtt (missing_in back))) (stands_in-within n r.first (r.last + 1 - r.first) from (omega arith))
          ∙ sym on
      | inr off ↦
          ap (stands_in n) (due_in-not now rtt r back off)
          ∙ stands_in-below n (r.last + 1) high (due_in now rtt (missing_in back)) (omega arith) (Rising-due now rtt (r.last + 1) high back h.3)
          ∙ sym off
    ]
due_stands now rtt low high n (f ∷ front) r back h from to =
    let rest = due_stands now rtt (f.last + 1) high n front r back h.3 from to in
    let m = Rises-middle (f.last + 1) high front r back h.3 in
    elim (cases_Bool (is_due_range now rtt f)) [
      | inl on ↦
          ap (stands_in n) (due_in-due now rtt f (front ++ r ∷ back) on)
          ∙ stands_in-append n (offsets_between f.first f.last) (due_in now rtt (missing_in (front ++ r ∷ back)))
          ∙ ap (λ b. b || stands_in n (due_in now rtt (missing_in (front ++ r ∷ back)))) (stands_in-after n f.first (f.last + 1 - f.first) (omega (arith, m.0)))
          ∙ rest
      | inr off ↦ ap (stands_in n) (due_in-not now rtt f (front ++ r ∷ back) off) ∙ rest
    ]

-- ranges in order
unfoldable pub Ordered : List LostRange → Type 0
Ordered [] = Unit {0}
Ordered (r ∷ rs) = (r.first ≤ r.last) × Ordered rs

-- one more offset lies in the ranges
is_within-one : (x n : ℕ) → (leb x n && leb n x) ≡ eqb x n
is_within-one x n =
    elim (cases_order x n) [
      | inl same ↦ rw (le-leb x n (omega arith), le-leb n x (omega arith), eq-eqb x n same) refl
      | inr differs ↦
          elim differs [
            | inl less ↦ rw (lt-leb n x less, ne_eqb x n (λ same. omega arith)) (and_right (leb x n) false refl)
            | inr more ↦ rw (lt-leb x n more, ne_eqb x n (λ same. omega arith)) refl
          ]
    ]

is_within-grown : (x n last : ℕ) → x < last → (leb x n && leb n last) ≡ (eqb x n || (leb (x + 1) n && leb n last))
is_within-grown x n last less =
    elim (cases_order x n) [
      | inl same ↦ rw (le-leb x n (omega arith), le-leb n last (omega arith), eq-eqb x n same) refl
      | inr differs ↦
          elim differs [
            | inl below ↦ rw (le-leb x n (omega arith), le-leb (x + 1) n (omega arith), ne_eqb x n (λ same. omega arith)) refl
            | inr above ↦ rw (lt-leb x n above, lt-leb (x + 1) n (omega arith), ne_eqb x n (λ same. omega arith)) refl
          ]
    ]

or_assoc : (a b c : Bool) → ((a || b) || c) ≡ (a || (b || c))
or_assoc true b c = refl
or_assoc false b c = refl

before_within : (n x : ℕ) (ys : List LostRange) → Ordered ys → (is_within (before_ranges x ys) n ≡ (eqb x n || is_within ys n)) × Ordered (before_ranges x ys)
unfolding Ordered
before_within n x [] h = (ap (λ b. b || false) (is_within-one x n), (omega arith, tt))
before_within n x (y ∷ ys) h =
    elim (cases_eq y.first (x + 1)) [
      | inl next ↦
          let e = eq-eqb y.first (x + 1) next in (
            rw e (ap (λ b. b || is_within ys n) (is_within-grown x n y.last (omega (arith, h.0))) ∙ or_assoc (eqb x n) (leb (x + 1) n && leb n y.last) (is_within ys n) ∙ ap (λ k. eqb x n || ((leb k n && leb n y.last) || is_within ys n)) (sym next)),
            rw e (omega (arith, h.0), h.1),
          )
      | inr apart ↦
          let e = ne_eqb y.first (x + 1) apart in
          (rw e (ap (λ b. b || is_within (y ∷ ys) n) (is_within-one x n)), rw e (omega arith, h))
    ]

-- what lies in the ranges of a list stands in the list
pub ranges_within : (n : ℕ) (xs : List ℕ) → (is_within (ranges_of xs) n ≡ stands_in n xs) × Ordered (ranges_of xs)
unfolding ranges_of stands_in Ordered
ranges_within n [] = (refl, tt)
ranges_within n (x ∷ xs) =
    let rest = ranges_within n xs in
    let b = before_within n x (ranges_of xs) rest.1 in
    (b.0 ∙ ap (λ c. eqb x n || c) rest.0, b.1)

is_within-append : (n : ℕ) (rs ss : List LostRange) → is_within (rs ++ ss) n ≡ (is_within rs n || is_within ss n)
is_within-append n [] ss = refl
is_within-append n (r ∷ rs) ss =
    ap (λ b. (leb r.first n && leb n r.last) || b) (is_within-append n rs ss) ∙ sym (or_assoc (leb r.first n && leb n r.last) (is_within rs n) (is_within ss n))

-- ranges that end by an offset have none that lies later
within-after : (n last : ℕ) (rs : List LostRange) → last < n → AllBy last rs → is_within rs n ≡ false
unfolding AllBy
within-after n last [] less h = refl
within-after n last (r ∷ rs) less h =
    rw (lt-leb n r.last (omega (arith, h.0)), and_right (leb r.first n) false refl) (within-after n last rs less h.1)

-- a report of all offsets of a range, or of none
told : ℕ → List LostRange → Missing → Missing
told now taken m = if is_within taken m.offset then reported_at now m else m

told_row : (now : ℕ) (taken : List LostRange) (r : Range LastReport) (b : Bool) (a n : ℕ) → ((k : ℕ) → a ≤ k → k < a + n → is_within taken k ≡ b) → map (told now taken) (map (missing_at r) (range_with_len a n)) ≡ map (missing_at (record r { tag = cond b (next_report now r.tag) r.tag })) (range_with_len a n)
unfolding told
told_row now taken r true a zero is = refl
told_row now taken r false a zero is = refl
told_row now taken r true a (suc n) is =
    rw (is a (omega arith) (omega arith)) (ap (λ ms. missing_at (record r { tag = next_report now r.tag }) a ∷ ms) (told_row now taken r true (a + 1) n (λ k from to. is k (omega arith) (omega arith))))
told_row now taken r false a (suc n) is =
    rw (is a (omega arith) (omega arith)) (ap (λ ms. missing_at r a ∷ ms) (told_row now taken r false (a + 1) n (λ k from to. is k (omega arith) (omega arith))))

told_range : (now : ℕ) (taken : List LostRange) (r : Range LastReport) (b : Bool) → ((k : ℕ) → r.first ≤ k → k ≤ r.last → is_within taken k ≡ b) → map (told now taken) (missing_in_range r) ≡ missing_in_range (record r { tag = cond b (next_report now r.tag) r.tag })
told_range now taken r true is = told_row now taken r true r.first (r.last + 1 - r.first) (λ k from to. is k from (omega arith))
told_range now taken r false is = told_row now taken r false r.first (r.last + 1 - r.first) (λ k from to. is k from (omega arith))

or_none : (a b : Bool) → b ≡ false → (a || b) ≡ a
or_none true b none = refl
or_none false b none = none

module _ (now rtt last : ℕ) (taken : List LostRange) where
  back_from : (low high : ℕ) (back : List (Range LastReport)) → last < low → Rises low high back → AllBy last taken → missing_in (map (reported_to last now rtt) back) ≡ map (told now taken) (missing_in back)
  unfolding Rises
  back_from low high [] less h by = unfold missing_in in refl
  back_from low high (r ∷ back) less h by =
      let stamped : reported_to last now rtt r ≡ r = ap (λ b. record r { tag = cond (b && is_due_range now rtt r) (next_report now r.tag) r.tag }) (lt-leb r.last last (omega arith)) in
      let here = told_range now taken r false (λ k from to. within-after k last taken (omega arith) by) in
      let rest = back_from (r.last + 1) high back (omega arith) h.3 by in
      missing_in-cons (reported_to last now rtt r) (map (reported_to last now rtt) back)
      ∙ ap (λ x. missing_in_range x ++ missing_in (map (reported_to last now rtt) back)) stamped
      ∙ ap (λ ms. ms ++ missing_in (map (reported_to last now rtt) back)) (sym here)
      ∙ ap (λ ms. map (told now taken) (missing_in_range r) ++ ms) rest
      ∙ sym (ap (map (told now taken)) (missing_in-cons r back) ∙ map-append (told now taken) (missing_in_range r) (missing_in back))

  -- ranges after the report stay
  back_told : (high : ℕ) (back : List (Range LastReport)) → Rises (last + 1) high back → AllBy last taken → missing_in (map (reported_to last now rtt) back) ≡ map (told now taken) (missing_in back)
  back_told high back h by = back_from (last + 1) high back (omega arith) h by

  -- ranges up to its end are told anew where they are due
  front_told : (low high : ℕ) (all before front after : List (Range LastReport)) → before ++ (front ++ after) ≡ all → Rises low high (before ++ (front ++ after)) → EndsBelow (last + 1) front → ((n : ℕ) → n ≤ last → is_within taken n ≡ stands_in n (due_in now rtt (missing_in all))) → missing_in (map (reported_to last now rtt) front) ≡ map (told now taken) (missing_in front)
  front_told low high all before [] after is h ends tells = unfold missing_in in refl
  front_told low high all before (r ∷ front) after is h ends tells =
      let stamped : reported_to last now rtt r ≡ record r { tag = cond (is_due_range now rtt r) (next_report now r.tag) r.tag } = ap (λ b. record r { tag = cond (b && is_due_range now rtt r) (next_report now r.tag) r.tag }) (le-leb r.last last (unfold EndsBelow in omega arith)) in
      let here = told_range now taken r (is_due_range now rtt r) (λ k from to. tells k (unfold EndsBelow in omega arith) ∙ ap (λ rs. stands_in k (due_in now rtt (missing_in rs))) (sym is) ∙ due_stands now rtt low high k before r (front ++ after) h from to) in
      let rest = front_told low high all (before ++ r ∷ []) front after (append_assoc before (r ∷ []) (front ++ after) ∙ is) (rw (append_assoc before (r ∷ []) (front ++ after)) h) (unfold EndsBelow in ends.1) tells in
      missing_in-cons (reported_to last now rtt r) (map (reported_to last now rtt) front)
      ∙ ap (λ x. missing_in_range x ++ missing_in (map (reported_to last now rtt) front)) stamped
      ∙ ap (λ ms. ms ++ missing_in (map (reported_to last now rtt) front)) (sym here)
      ∙ ap (λ ms. map (told now taken) (missing_in_range r) ++ ms) rest
      ∙ sym (ap (map (told now taken)) (missing_in-cons r front) ∙ map-append (told now taken) (missing_in_range r) (missing_in front))

-- the ranges that were taken are told anew, and the others stay
pub reported_is : (now rtt last low high : ℕ) (taken : List LostRange) (rs : List (Range LastReport)) → Rises low high rs → IsTaken now rtt last taken rs → missing_in (map (reported_to last now rtt) rs) ≡ after_report now taken (missing_in rs)
unfolding after_report told
reported_is now rtt last low high taken rs h t =
    let stamp = reported_to last now rtt in
    let rises : Rises low high (t.front ++ t.back) = rw (← t.is) h in
    let back_rises = Rises-from (last + 1) low high t.back t.from (Rises-back low high t.front t.back rises) in
    let tells : (n : ℕ) → n ≤ last → is_within taken n ≡ stands_in n (due_in now rtt (missing_in (t.front ++ t.back))) = λ n le.
    sym (or_none (is_within taken n) (is_within (due_ranges now rtt (missing_in t.back)) n) ((ranges_within n (due_in now rtt (missing_in t.back))).0 ∙ stands_in-below n (last + 1) high (due_in now rtt (missing_in t.back)) (omega arith) (Rising-due now rtt (last + 1) high t.back back_rises)))
    ∙ sym (is_within-append n taken (due_ranges now rtt (missing_in t.back)))
    ∙ ap (λ ys. is_within ys n) (sym t.due)
    ∙ (ranges_within n (due_in now rtt (missing_in rs))).0
    ∙ ap (λ xs. stands_in n (due_in now rtt (missing_in xs))) t.is in
    ap (λ xs. missing_in (map stamp xs)) t.is
    ∙ ap missing_in (map-append stamp t.front t.back)
    ∙ missing_in-append (map stamp t.front) (map stamp t.back)
    ∙ ap (λ ms. ms ++ missing_in (map stamp t.back)) (front_told now rtt last taken low high (t.front ++ t.back) [] t.front t.back refl rises t.ends tells)
    ∙ ap (λ ms. map (told now taken) (missing_in t.front) ++ ms) (back_told now rtt last taken high t.back back_rises t.by)
    ∙ sym (ap (map (told now taken)) (ap missing_in t.is ∙ missing_in-append t.front t.back) ∙ map-append (told now taken) (missing_in t.front) (missing_in t.back))

-- without a report all stays
pub reported_none : (now : ℕ) (ms : List Missing) → after_report now [] ms ≡ ms
unfolding after_report
reported_none now [] = refl
reported_none now (m ∷ ms) = ap (λ xs. m ∷ xs) (reported_none now ms)
