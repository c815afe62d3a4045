-- What is due in ranges, and the runs that it makes.
use Rattle.std.proofs.Common.{◌≡◌, ◌≢◌, ℕ, zero, suc, ◌+◌, ◌-◌, ◌<◌, ◌≤◌, Bool, true, false, cond, eqb, List, [], ◌∷◌, ◌++◌, map, filter, drop, refl, sym, ap, subst, ◌∙◌, arith, Option, Some}
use Rattle.std.specs.List.{range_with_len}
use Rattle.std.proofs.lemmas.List.Elements.{filter-append}
use Rattle.udt_model.specs.Losses.{Missing, LostRange, offsets_between, ranges_of, before_ranges, is_due, due_ranges}
use Rattle.udt_ranges.specs.declared.range.Range.{Range}
use Rattle.udt_ranges.specs.Ranges.{Rises, IsWithin, IsFrom, EndsBelow}
use Rattle.udt_ranges.specs.Cursors.{IsCursor, before, following, begins_at, through, beyond, head_of}
use Rattle.udt_ranges.specs.Offsets.{Rising}
use Rattle.udt_ranges.proofs.RisingLemmas.{Rises-middle, Rises-higher}
use Rattle.udt_ranges.proofs.CursorLemmas.{is_split}
use Rattle.udt_ranges.proofs.PlaceLemmas.{whole, bounds, head_some}
use Rattle.udt_ranges.proofs.ItemLemmas.{IsFrom-Rises, range_with_len-append}
use Rattle.udt_ranges.proofs.EditLemmas.{EndsBelow-front, EndsBelow-push}
use Rattle.udt_ranges.proofs.OffsetLemmas.{Rising-lower, Gap, ranges_of-row}
use Rattle.udt_rcv_loss.specs.Runs.{IsCutAt}
use Rattle.udt_rcv_loss.specs.declared.last_report.LastReport.{LastReport}
use Rattle.udt_rcv_loss.specs.Tags.{is_due_range, missing_at, missing_in, missing_in_range}
use Rattle.udt_rcv_loss.proofs.ListedLemmas.{Rising-missing, missing_in-cons, offsets_in-append, offsets_in-range}
use Rattle.udt_rcv_loss.specs.Absent.{offsets_in}

-- the offsets that are due
abbrev pub due_in : ℕ → ℕ → List Missing → List ℕ
due_in now rtt ms = offsets_in (filter (is_due now rtt) ms)

-- a range is due as a whole
filter_due : (now rtt : ℕ) (r : Range LastReport) (a n : ℕ) (b : Bool) → is_due_range now rtt r ≡ b → filter (is_due now rtt) (map (missing_at r) (range_with_len a n)) ≡ cond b (map (missing_at r) (range_with_len a n)) []
filter_due now rtt r a zero true e = refl
filter_due now rtt r a zero false e = refl
filter_due now rtt r a (suc n) true e = rw e (ap (λ xs. missing_at r a ∷ xs) (filter_due now rtt r (a + 1) n true e))
filter_due now rtt r a (suc n) false e = rw e (filter_due now rtt r (a + 1) n false e)

due_in-cons : (now rtt : ℕ) (r : Range LastReport) (rs : List (Range LastReport)) → due_in now rtt (missing_in (r ∷ rs)) ≡ offsets_in (filter (is_due now rtt) (missing_in_range r)) ++ due_in now rtt (missing_in rs)
due_in-cons now rtt r rs =
    ap (due_in now rtt) (missing_in-cons r rs)
    ∙ ap offsets_in (filter-append (is_due now rtt) (missing_in_range r) (missing_in rs))
    ∙ offsets_in-append (filter (is_due now rtt) (missing_in_range r)) (filter (is_due now rtt) (missing_in rs))

pub due_in-due : (now rtt : ℕ) (r : Range LastReport) (rs : List (Range LastReport)) → is_due_range now rtt r ≡ true → due_in now rtt (missing_in (r ∷ rs)) ≡ offsets_between r.first r.last ++ due_in now rtt (missing_in rs)
due_in-due now rtt r rs e =
    due_in-cons now rtt r rs
    ∙ ap (λ xs. offsets_in xs ++ due_in now rtt (missing_in rs)) (filter_due now rtt r r.first (r.last + 1 - r.first) true e)
    ∙ ap (λ xs. xs ++ due_in now rtt (missing_in rs)) (offsets_in-range r)

pub due_in-not : (now rtt : ℕ) (r : Range LastReport) (rs : List (Range LastReport)) → is_due_range now rtt r ≡ false → due_in now rtt (missing_in (r ∷ rs)) ≡ due_in now rtt (missing_in rs)
due_in-not now rtt r rs e =
    due_in-cons now rtt r rs
    ∙ ap (λ xs. offsets_in xs ++ due_in now rtt (missing_in rs)) (filter_due now rtt r r.first (r.last + 1 - r.first) false e)

-- the offsets that are due rise as all do
pub Rising-some : (p : Missing → Bool) (low high : ℕ) (ms : List Missing) → Rising low high (offsets_in ms) → Rising low high (offsets_in (filter p ms))
unfolding Rising
Rising-some p low high [] h = tt
Rising-some p low high (m ∷ ms) h =
    elim (p m) as (λ b. Rising low high (offsets_in (cond b (m ∷ filter p ms) (filter p ms)))) [
      | true ↦ (h.0, h.1, Rising-some p (m.offset + 1) high ms h.2)
      | false ↦ Rising-lower (m.offset + 1) low high (offsets_in (filter p ms)) (omega arith) (Rising-some p (m.offset + 1) high ms h.2)
    ]

pub Rising-due : (now rtt low high : ℕ) (rs : List (Range LastReport)) → Rises low high rs → Rising low high (due_in now rtt (missing_in rs))
Rising-due now rtt low high rs h = Rising-some (is_due now rtt) low high (missing_in rs) (Rising-missing low high rs h)

-- the ranges of offsets begin no earlier than the offsets
Gap-before : (k x : ℕ) (ys : List LostRange) → x ≢ k → Gap k (before_ranges x ys)
unfolding Gap
Gap-before k x [] h = h
Gap-before k x (y ∷ ys) h =
    elim (eqb y.first (x + 1)) as (λ b. Gap k (cond b (record { first = x; last = y.last } ∷ ys) (record { first = x; last = x } ∷ y ∷ ys))) [ true ↦ h | false ↦ h ]

pub Gap-Rising : (k low high : ℕ) (xs : List ℕ) → k < low → Rising low high xs → Gap k (ranges_of xs)
unfolding Rising ranges_of
Gap-Rising k low high [] less h = unfold Gap in tt
Gap-Rising k low high (x ∷ xs) less h = Gap-before k x (ranges_of xs) (λ same. omega arith)

-- consecutive offsets before others that lie apart are a range of their own
pub run_ends : (first last : ℕ) (xs : List ℕ) → first ≤ last → Gap (last + 1) (ranges_of xs) → ranges_of (offsets_between first last ++ xs) ≡ record { first = first; last = last } ∷ ranges_of xs
run_ends first last xs order gap =
    let e : last + 1 - first ≡ suc (last - first) = omega arith in
    let f : first + (last - first) ≡ last = omega arith in
    ap (λ n. ranges_of (range_with_len first n ++ xs)) e
    ∙ ranges_of-row first (last - first) xs (ranges_of xs) refl (subst (λ k. Gap (k + 1) (ranges_of xs)) (sym f) gap)
    ∙ ap (λ k. record { first = first; last = k } ∷ ranges_of xs) f

-- consecutive offsets in two parts
pub offsets_between-join : (first last to : ℕ) → first ≤ last + 1 → last ≤ to → offsets_between first last ++ offsets_between (last + 1) to ≡ offsets_between first to
offsets_between-join first last to low high =
    let e : to + 1 - first ≡ (last + 1 - first) + (to + 1 - (last + 1)) = omega arith in
    let f : first + (last + 1 - first) ≡ last + 1 = omega arith in
    sym (ap (range_with_len first) e ∙ range_with_len-append first (last + 1 - first) (to + 1 - (last + 1)) ∙ ap (λ a. range_with_len first (last + 1 - first) ++ range_with_len a (to + 1 - (last + 1))) f)

-- the place after the range that is next to a place
pub record NextCut (cursor : Option ℕ) (r : Range LastReport) (rs : List (Range LastReport)) : Type 0 where
  pub rest : List (Range LastReport)
  pub high : ℕ
  pub following_is : following cursor rs ≡ r ∷ rest
  pub begins : begins_at r.first rs ≡ true
  pub cut : IsCutAt r.first r.last rs
  pub beyond_is : beyond r.first rs ≡ rest
  pub order : r.first ≤ r.last
  pub rises : Rises (r.last + 1) high rest

cut_split : (w : ℕ) (cursor : Option ℕ) (rs front back : List (Range LastReport)) (r : Range LastReport) → following cursor rs ≡ back → front ++ back ≡ rs → IsWithin w rs → back ≡ r ∷ drop 1 back → NextCut cursor r rs
cut_split w cursor rs front back r back_is is within head =
    let rest = drop 1 back in
    let is_rs : front ++ r ∷ rest ≡ rs = ap (λ xs. front ++ xs) (sym head) ∙ is in
    let b = bounds w (front ++ r ∷ rest) (rw is_rs within) in
    let split = is_split r.first b.low b.high front r rest refl b.rises in
    let middle = Rises-middle b.low b.high front r rest b.rises in
    record {
      rest = rest;
      high = b.high;
      following_is = back_is ∙ head;
      begins = subst (λ xs. begins_at r.first xs ≡ true) is_rs split.begins;
      cut = record {
        cursor_is = subst (λ xs. begins_at r.first xs ≡ true) is_rs split.begins;
        ends = subst (λ xs. EndsBelow (r.last + 1) (through r.first xs)) is_rs (rw split.through_is (EndsBelow-push (r.last + 1) front r (EndsBelow-front (r.last + 1) b.low b.high front r rest (omega (arith, middle.1)) b.rises) (omega arith)));
        from = subst (λ xs. IsFrom (r.last + 1) (beyond r.first xs)) is_rs (rw split.beyond_is (IsFrom-Rises (r.last + 1) (r.last + 1) b.high rest middle.3 (omega arith)));
      };
      beyond_is = subst (λ xs. beyond r.first xs ≡ rest) is_rs split.beyond_is;
      order = middle.1;
      rises = middle.3;
    }

pub next_cut : (w : ℕ) (cursor : Option ℕ) (rs : List (Range LastReport)) (r : Range LastReport) → IsCursor cursor rs → IsWithin w rs → Some r ≡ head_of (following cursor rs) → NextCut cursor r rs
next_cut w cursor rs r h within is = cut_split w cursor rs (before cursor rs) (following cursor rs) r refl (whole cursor rs h) within (head_some (following cursor rs) r is)

-- a list that begins no lower than an offset has a first range that does so
pub first_from : (from : ℕ) (back : List (Range LastReport)) (r : Range LastReport) (rest : List (Range LastReport)) → back ≡ r ∷ rest → IsFrom from back → from ≤ r.first
unfolding IsFrom
first_from from back r rest is h = let k = subst (IsFrom from) is h in k.0

rises_cons : (r : Range LastReport) (rest : List (Range LastReport)) (high : ℕ) → r.first ≤ r.last → Rises (r.last + 1) high rest → Rises r.first (high + r.last + 1) (r ∷ rest)
unfolding Rises
rises_cons r rest high order rises = (omega arith, order, omega arith, Rises-higher (r.last + 1) high (high + r.last + 1) rest (omega arith) rises)

-- what is due after an offset does not go on from it: where there is nothing, where the next range is not due, and
-- where it lies apart
pub Gap-none : (now rtt k : ℕ) (back : List (Range LastReport)) → back ≡ [] → Gap k (ranges_of (due_in now rtt (missing_in back)))
unfolding missing_in ranges_of Gap
Gap-none now rtt k back is = rw is tt

pub Gap-not : (now rtt k high : ℕ) (back : List (Range LastReport)) (r : Range LastReport) (rest : List (Range LastReport)) → back ≡ r ∷ rest → is_due_range now rtt r ≡ false → k ≤ r.last → Rises (r.last + 1) high rest → Gap k (ranges_of (due_in now rtt (missing_in back)))
Gap-not now rtt k high back r rest is not_due le rises =
    rw (is, due_in-not now rtt r rest not_due) (Gap-Rising k (r.last + 1) high (due_in now rtt (missing_in rest)) (omega arith) (Rising-due now rtt (r.last + 1) high rest rises))

pub Gap-apart : (now rtt k high : ℕ) (back : List (Range LastReport)) (r : Range LastReport) (rest : List (Range LastReport)) → back ≡ r ∷ rest → k < r.first → r.first ≤ r.last → Rises (r.last + 1) high rest → Gap k (ranges_of (due_in now rtt (missing_in back)))
Gap-apart now rtt k high back r rest is less order rises =
    rw is (Gap-Rising k r.first (high + r.last + 1) (due_in now rtt (missing_in (r ∷ rest))) less (Rising-due now rtt r.first (high + r.last + 1) (r ∷ rest) (rises_cons r rest high order rises)))

pub rest_from : (from : ℕ) (back : List (Range LastReport)) (r : Range LastReport) (rest : List (Range LastReport)) → back ≡ r ∷ rest → IsFrom from back → IsFrom from rest
unfolding IsFrom
rest_from from back r rest is h = let k = subst (IsFrom from) is h in k.1

-- in no ranges nothing is due
pub due_none : (now rtt : ℕ) (rs : List (Range LastReport)) → rs ≡ [] → due_ranges now rtt (missing_in rs) ≡ []
unfolding missing_in ranges_of
due_none now rtt rs is = rw is refl
