-- Packets with their reports, filtered, and as ranges again.
use Rattle.std.proofs.Common.{◌≡◌, ℕ, zero, suc, ◌+◌, ◌-◌, ◌<◌, ◌≤◌, Bool, true, false, cond, eqb, ◌==◌, ltb, ◌||◌, ◌&&◌, List, [], ◌∷◌, ◌++◌, length, map, filter, refl, sym, ap, subst, ◌∙◌, arith, append-nil, inl, inr, Option, Some, None}
use Rattle.std.specs.List.{range_with_len}
use Rattle.std.proofs.lemmas.Bool.{lt-ltb, le-ltb, ne_eqb, eq-eqb, cases_lt, cases_order, cases_eq, or_right}
use Rattle.udt_model.specs.Losses.{Missing, MissingRange, LostRange, after_report, reported_at, is_within, without_missing, with_missing, is_missing, missing_ranges, before_missing}
use Rattle.udt_ranges.specs.declared.range.Range.{Range}
use Rattle.udt_ranges.specs.Ranges.{Rises, IsWithin}
use Rattle.udt_ranges.specs.Offsets.{Rising, least}
use Rattle.udt_ranges.proofs.RisingLemmas.{Rises-lower, Rises-higher}
use Rattle.udt_rcv_loss.specs.Absent.{offsets_in, IsInWindow, AllBelow, AllFrom, first_or}
use Rattle.udt_ranges.specs.Merging.{IsApart, IsMaximal}
use Rattle.udt_rcv_loss.specs.declared.last_report.LastReport.{LastReport}
use Rattle.udt_rcv_loss.specs.Tags.{missing_at, missing_in, missing_in_range, same_report}
use Rattle.udt_rcv_loss.proofs.ListedLemmas.{Rising-missing, missing_in-cons}

-- the first offset begins the first range
first_or-cons : (other : ℕ) (r : Range LastReport) (rs : List (Range LastReport)) → r.first ≤ r.last → first_or other (missing_in (r ∷ rs)) ≡ r.first
unfolding missing_in
first_or-cons other r rs order =
    let e : r.last + 1 - r.first ≡ suc (r.last - r.first) = omega arith in
    ap (λ n. first_or other (map (missing_at r) (range_with_len r.first n) ++ missing_in rs)) e

-- ranges within a window have their offsets within it
pub IsInWindow-items : (w : ℕ) (rs : List (Range LastReport)) → IsWithin w rs → IsInWindow (record { window = w; missing = missing_in rs })
unfolding IsWithin
IsInWindow-items w [] h = unfold missing_in Rising in tt
IsInWindow-items w (r ∷ rs) h =
    let first = first_or-cons 0 r rs (unfold Rises in h.1) in
    subst (λ k. Rising k (k + w) (offsets_in (missing_in (r ∷ rs)))) (sym first) (Rising-missing r.first (r.first + w) (r ∷ rs) h)

-- where all offsets lie below a range, all ranges lie within a window with it
below_first : (from : ℕ) (r : Range LastReport) (rs : List (Range LastReport)) → r.first ≤ r.last → AllBelow from (missing_in (r ∷ rs)) → r.first < from
unfolding missing_in AllBelow
below_first from r rs order below =
    let e : r.last + 1 - r.first ≡ suc (r.last - r.first) = omega arith in
    let h = subst (λ n. AllBelow from (map (missing_at r) (range_with_len r.first n) ++ missing_in rs)) e below in h.0

near_none : (from to w : ℕ) → to < first_or from (missing_in []) + w → (to < from + w) × Rises {T = LastReport} (to + 1 - w) (from + w) []
unfolding missing_in Rises
near_none from to w room = (room, tt)

pub near_from : (from to w : ℕ) (rs : List (Range LastReport)) → IsWithin w rs → AllBelow from (missing_in rs) → to < first_or from (missing_in rs) + w → (to < from + w) × Rises (to + 1 - w) (from + w) rs
unfolding IsWithin
near_from from to w [] h below room = near_none from to w room
near_from from to w (r ∷ rs) h below room =
    let order : r.first ≤ r.last = unfold Rises in h.1 in
    let first = first_or-cons from r rs order in
    let less = below_first from r rs order below in
    (omega arith, Rises-lower r.first (to + 1 - w) (from + w) (r ∷ rs) (omega arith) (Rises-higher r.first (r.first + w) (from + w) (r ∷ rs) (omega arith) h))

-- packets below an offset
filter_below : (from : ℕ) (ms : List Missing) → AllBelow from ms → filter (λ m. ltb m.offset from) ms ≡ ms
unfolding AllBelow
filter_below from [] h = refl
filter_below from (m ∷ ms) h = rw (lt-ltb m.offset from h.0) (ap (λ xs. m ∷ xs) (filter_below from ms h.1))

filter_above : (from to : ℕ) (ms : List Missing) → from ≤ to → AllBelow from ms → filter (λ m. ltb to m.offset) ms ≡ []
unfolding AllBelow
filter_above from to [] le h = refl
filter_above from to (m ∷ ms) le h = rw (le-ltb to m.offset (omega (arith, h.0))) (filter_above from to ms le h.1)

-- a range put after all others
pub with_is : (from to now : ℕ) (ms : List Missing) → from ≤ to → AllBelow from ms → filter (λ m. ltb m.offset from) ms ++ missing_in_range (record { first = from; last = to; tag = record { reported = now; wait = 2 } }) ++ filter (λ m. ltb to m.offset) ms ≡ with_missing from to now ms
unfolding with_missing
with_is from to now ms le below =
    rw (filter_below from ms below, filter_above from to ms le below) (append-nil (ms ++ missing_in_range (record { first = from; last = to; tag = record { reported = now; wait = 2 } })))

-- nothing lies in no range
outside_all : (from to n : ℕ) → to < from → (ltb n from || ltb to n) ≡ true
outside_all from to n none =
    elim (cases_lt n from) [
      | inl below ↦ rw (lt-ltb n from below) refl
      | inr above ↦ rw (lt-ltb to n (omega arith)) (or_right (ltb n from) true refl)
    ]

pub without_none : (from to : ℕ) (ms : List Missing) → to < from → without_missing from to ms ≡ ms
unfolding without_missing
without_none from to [] none = refl
without_none from to (m ∷ ms) none = rw (outside_all from to m.offset none) (ap (λ xs. m ∷ xs) (without_none from to ms none))

-- a packet is listed where its removal leaves fewer
length-without : (n : ℕ) (ms : List Missing) → length (without_missing n n ms) ≤ length ms
unfolding without_missing
length-without n [] = omega arith
length-without n (m ∷ ms) =
    elim (ltb m.offset n || ltb n m.offset) as (λ b. length (cond b (m ∷ without_missing n n ms) (without_missing n n ms)) ≤ suc (length ms)) [
      | true ↦ omega (arith, length-without n ms)
      | false ↦ omega (arith, length-without n ms)
    ]

pub listed_is : (n k : ℕ) (ms : List Missing) → k + length (without_missing n n ms) ≡ length ms → ltb 0 k ≡ is_missing n ms
unfolding without_missing
listed_is n k [] h = le-ltb 0 k (omega arith)
listed_is n k (m ∷ ms) h =
    elim (cases_order m.offset n) [
      | inl same ↦
          let e = le-ltb m.offset n (omega arith) in
          let f = le-ltb n m.offset (omega arith) in
          rw (eq-eqb m.offset n same) (lt-ltb 0 k (omega (arith, rw (e, f) at h, length-without n ms)))
      | inr apart ↦
          let outside : (ltb m.offset n || ltb n m.offset) ≡ true =
          elim apart [ inl below ↦ rw (lt-ltb m.offset n below) refl | inr above ↦ rw (lt-ltb n m.offset above) (or_right (ltb m.offset n) true refl) ] in
          let differs = ne_eqb m.offset n (elim apart [ inl below ↦ λ same. omega arith | inr above ↦ λ same. omega arith ]) in
          rw differs (listed_is n k ms (omega (arith, rw outside at h)))
    ]

-- the report of a range
abbrev pub missing_of : Range LastReport → MissingRange
missing_of r = record { first = r.first; last = r.last; reported = r.tag.reported; wait = r.tag.wait }

-- no range goes on from an offset with this report
Beyond : Range LastReport → ℕ → List MissingRange → Type 0
Beyond r k [] = Unit {0}
Beyond r k (y ∷ ys) = (y.first == k && y.reported == r.tag.reported && y.wait == r.tag.wait) ≡ false

before_beyond : (r : Range LastReport) (a : ℕ) (ys : List MissingRange) → Beyond r (a + 1) ys → before_missing (missing_at r a) ys ≡ record { first = a; last = a; reported = r.tag.reported; wait = r.tag.wait } ∷ ys
unfolding Beyond
before_beyond r a [] h = refl
before_beyond r a (y ∷ ys) h = rw h refl

missing_ranges-row : (r : Range LastReport) (a n : ℕ) (ms : List Missing) (ys : List MissingRange) → missing_ranges ms ≡ ys → Beyond r (a + n + 1) ys → missing_ranges (map (missing_at r) (range_with_len a (suc n)) ++ ms) ≡ record { first = a; last = a + n; reported = r.tag.reported; wait = r.tag.wait } ∷ ys
unfolding missing_ranges
missing_ranges-row r a zero ms ys is h =
    let e : a + 0 ≡ a = omega arith in
    rw (is, e) (before_beyond r a ys (rw e at h))
missing_ranges-row r a (suc n) ms ys is h =
    let e : a + suc n ≡ a + 1 + n = omega arith in
    let rest = missing_ranges-row r (a + 1) n ms ys is (rw e at h) in
    rw (rest, eq-eqb (a + 1) (a + 1) refl, eq-eqb r.tag.reported r.tag.reported refl, eq-eqb r.tag.wait r.tag.wait refl, e) refl

eqb_comm : (a b : ℕ) → eqb a b ≡ eqb b a
eqb_comm a b =
    elim (cases_eq a b) [
      | inl same ↦ rw (eq-eqb a b same, eq-eqb b a (sym same)) refl
      | inr differs ↦ rw (ne_eqb a b differs, ne_eqb b a (λ same. differs (sym same))) refl
    ]

and_assoc : (a b c : Bool) → (a && (b && c)) ≡ ((a && b) && c)
and_assoc true b c = refl
and_assoc false b c = refl

beyond_apart : (r : Range LastReport) (rs : List (Range LastReport)) → IsApart same_report r rs → Beyond r (r.last + 1) (map missing_of rs)
unfolding Beyond
beyond_apart r [] h = tt
beyond_apart r (s ∷ rs) h =
    rw (eqb_comm s.first (r.last + 1), eqb_comm s.tag.reported r.tag.reported, eqb_comm s.tag.wait r.tag.wait)
    (sym (and_assoc (eqb (r.last + 1) s.first) (eqb r.tag.reported s.tag.reported) (eqb r.tag.wait s.tag.wait)) ∙ h)

missing_ranges-step : (low high : ℕ) (r : Range LastReport) (rs : List (Range LastReport)) → Rises low high (r ∷ rs) → IsApart same_report r rs → missing_ranges (missing_in rs) ≡ map missing_of rs → missing_ranges (missing_in (r ∷ rs)) ≡ map missing_of (r ∷ rs)
unfolding Rises
missing_ranges-step low high r rs h apart rest =
    let e : r.last + 1 - r.first ≡ suc (r.last - r.first) = omega arith in
    let f : r.first + (r.last - r.first) ≡ r.last = omega arith in
    let gap = subst (λ k. Beyond r (k + 1) (map missing_of rs)) (sym f) (beyond_apart r rs apart) in
    ap missing_ranges (missing_in-cons r rs)
    ∙ ap (λ n. missing_ranges (map (missing_at r) (range_with_len r.first n) ++ missing_in rs)) e
    ∙ missing_ranges-row r r.first (r.last - r.first) (missing_in rs) (map missing_of rs) rest gap
    ∙ ap (λ k. record { first = r.first; last = k; reported = r.tag.reported; wait = r.tag.wait } ∷ map missing_of rs) f

-- ranges that are as long as they can be are the ranges of their packets
pub missing_ranges-items : (low high : ℕ) (rs : List (Range LastReport)) → Rises low high rs → IsMaximal same_report rs → missing_ranges (missing_in rs) ≡ map missing_of rs
unfolding IsMaximal
missing_ranges-items low high [] h maximal = unfold missing_in missing_ranges in refl
missing_ranges-items low high (r ∷ rs) h maximal =
    missing_ranges-step low high r rs h maximal.0 (missing_ranges-items (r.last + 1) high rs (unfold Rises in h.3) maximal.1)

-- what holds of all offsets once more are listed
pub AllBelow-higher : (from to : ℕ) (ms : List Missing) → from ≤ to → AllBelow from ms → AllBelow to ms
unfolding AllBelow
AllBelow-higher from to [] le h = tt
AllBelow-higher from to (m ∷ ms) le h = (omega (arith, h.0), AllBelow-higher from to ms le h.1)

AllBelow-append : (k : ℕ) (ms ns : List Missing) → AllBelow k ms → AllBelow k ns → AllBelow k (ms ++ ns)
unfolding AllBelow
AllBelow-append k [] ns h g = g
AllBelow-append k (m ∷ ms) ns h g = (h.0, AllBelow-append k ms ns h.1 g)

AllBelow-row : (k : ℕ) (f : ℕ → Missing) (a n : ℕ) → ((i : ℕ) → (f i).offset ≡ i) → a + n ≤ k → AllBelow k (map f (range_with_len a n))
unfolding AllBelow
AllBelow-row k f a zero is le = tt
AllBelow-row k f a (suc n) is le = (omega (arith, is a), AllBelow-row k f (a + 1) n is (omega arith))

pub AllBelow-with : (from to now : ℕ) (ms : List Missing) → from ≤ to → AllBelow from ms → AllBelow (to + 1) (with_missing from to now ms)
unfolding with_missing
AllBelow-with from to now ms le h =
    AllBelow-append (to + 1) ms _ (AllBelow-higher from (to + 1) ms (omega arith) h) (AllBelow-row (to + 1) (λ n. record { offset = n; reported = now; wait = 2 }) from (to + 1 - from) (λ i. refl) (omega arith))

AllBelow-filter : (k : ℕ) (p : Missing → Bool) (ms : List Missing) → AllBelow k ms → AllBelow k (filter p ms)
unfolding AllBelow
AllBelow-filter k p [] h = tt
AllBelow-filter k p (m ∷ ms) h =
    elim (p m) as (λ b. AllBelow k (cond b (m ∷ filter p ms) (filter p ms))) [
      | true ↦ (h.0, AllBelow-filter k p ms h.1)
      | false ↦ AllBelow-filter k p ms h.1
    ]

pub AllBelow-without : (k from to : ℕ) (ms : List Missing) → AllBelow k ms → AllBelow k (without_missing from to ms)
unfolding without_missing
AllBelow-without k from to ms h = AllBelow-filter k (λ m. ltb m.offset from || ltb to m.offset) ms h

pub AllBelow-report : (k now : ℕ) (taken : List LostRange) (ms : List Missing) → AllBelow k ms → AllBelow k (after_report now taken ms)
unfolding after_report AllBelow
AllBelow-report k now taken [] h = tt
AllBelow-report k now taken (m ∷ ms) h =
    (elim (is_within taken m.offset) as (λ b. (cond b (reported_at now m) m).offset < k) [ true ↦ h.0 | false ↦ h.0 ], AllBelow-report k now taken ms h.1)

-- the least is below it as well
pub AllBelow-least : (n k : ℕ) (ms : List Missing) → Some n ≡ least (offsets_in ms) → AllBelow k ms → n < k
unfolding AllBelow
AllBelow-least n k [] h below = absurd (cc)
AllBelow-least n k (m ∷ ms) h below = let same : n ≡ m.offset = cc in omega (arith, below.0)

-- where no offset lies below one
AllFrom-row : (k : ℕ) (f : ℕ → Missing) (a n : ℕ) → ((i : ℕ) → (f i).offset ≡ i) → k ≤ a → AllFrom k (map f (range_with_len a n))
unfolding AllFrom
AllFrom-row k f a zero is le = tt
AllFrom-row k f a (suc n) is le = (omega (arith, is a), AllFrom-row k f (a + 1) n is (omega arith))

AllFrom-append : (k : ℕ) (ms ns : List Missing) → AllFrom k ms → AllFrom k ns → AllFrom k (ms ++ ns)
unfolding AllFrom
AllFrom-append k [] ns h g = g
AllFrom-append k (m ∷ ms) ns h g = (h.0, AllFrom-append k ms ns h.1 g)

pub AllFrom-with : (k from to now : ℕ) (ms : List Missing) → k ≤ from → AllFrom k ms → AllFrom k (with_missing from to now ms)
unfolding with_missing
AllFrom-with k from to now ms le h =
    AllFrom-append k ms _ h (AllFrom-row k (λ n. record { offset = n; reported = now; wait = 2 }) from (to + 1 - from) (λ i. refl) le)

AllFrom-filter : (k : ℕ) (p : Missing → Bool) (ms : List Missing) → AllFrom k ms → AllFrom k (filter p ms)
unfolding AllFrom
AllFrom-filter k p [] h = tt
AllFrom-filter k p (m ∷ ms) h =
    elim (p m) as (λ b. AllFrom k (cond b (m ∷ filter p ms) (filter p ms))) [
      | true ↦ (h.0, AllFrom-filter k p ms h.1)
      | false ↦ AllFrom-filter k p ms h.1
    ]

pub AllFrom-without : (k from to : ℕ) (ms : List Missing) → AllFrom k ms → AllFrom k (without_missing from to ms)
unfolding without_missing
AllFrom-without k from to ms h = AllFrom-filter k (λ m. ltb m.offset from || ltb to m.offset) ms h

pub AllFrom-report : (k now : ℕ) (taken : List LostRange) (ms : List Missing) → AllFrom k ms → AllFrom k (after_report now taken ms)
unfolding after_report AllFrom
AllFrom-report k now taken [] h = tt
AllFrom-report k now taken (m ∷ ms) h =
    (elim (is_within taken m.offset) as (λ b. k ≤ (cond b (reported_at now m) m).offset) [ true ↦ h.0 | false ↦ h.0 ], AllFrom-report k now taken ms h.1)

AllFrom-Rising : (k low high : ℕ) (ms : List Missing) → k ≤ low → Rising low high (offsets_in ms) → AllFrom k ms
unfolding AllFrom Rising
AllFrom-Rising k low high [] le h = tt
AllFrom-Rising k low high (m ∷ ms) le h = (omega arith, AllFrom-Rising k (m.offset + 1) high ms (omega arith) h.2)

-- none is below the least
pub AllFrom-least : (n w : ℕ) (ms : List Missing) → Some n ≡ least (offsets_in ms) → IsInWindow (record { window = w; missing = ms }) → AllFrom n ms
AllFrom-least n w [] h rising = absurd (cc)
AllFrom-least n w (m ∷ ms) h rising =
    let same : n ≡ m.offset = cc in AllFrom-Rising n m.offset (m.offset + w) (m ∷ ms) (omega arith) rising

pub AllFrom-none : (k : ℕ) (ms : List Missing) → ms ≡ [] → AllFrom k ms
unfolding AllFrom
AllFrom-none k ms is = rw is tt

pub first_or-from : (k other : ℕ) (ms : List Missing) → k ≤ other → AllFrom k ms → k ≤ first_or other ms
unfolding AllFrom
first_or-from k other [] le h = le
first_or-from k other (m ∷ ms) le h = h.0

-- the removal of the first leaves fewer
pub length-without_first : (n : ℕ) (ms : List Missing) → Some n ≡ least (offsets_in ms) → length (without_missing n n ms) < length ms
unfolding without_missing
length-without_first n [] h = absurd (cc)
length-without_first n (m ∷ ms) h =
    let same : n ≡ m.offset = cc in
    let e = le-ltb m.offset n (omega arith) in
    let f = le-ltb n m.offset (omega arith) in
    rw (e, f) (omega (arith, length-without n ms))

pub none_first : (ms : List Missing) → ◌≡◌ {A = Option ℕ} None (least (offsets_in ms)) → ms ≡ []
none_first [] h = refl
none_first (m ∷ ms) h = absurd (cc)
