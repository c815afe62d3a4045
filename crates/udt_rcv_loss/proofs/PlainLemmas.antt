-- Ranges counted from the end of a list, and a range pushed packet by packet.
use Rattle.std.proofs.Common.{◌≡◌, ℕ, zero, suc, ◌+◌, ◌-◌, ◌<◌, ◌≤◌, ◌++◌, Bool, true, false, cond, eqb, ◌&&◌, List, [], ◌∷◌, length, map, drop, refl, sym, ap, ◌∙◌, arith, inl, inr, append_assoc}
use Rattle.std.specs.List.{range_with_len}
use Rattle.std.proofs.lemmas.List.{map-append, drop_all}
use Rattle.std.proofs.lemmas.Bool.{cases_Bool, and_parts, eqb-true, le-leb, lt-leb}
use Rattle.udt_model.specs.Losses.{Missing, MissingRange, LostRange, missing_ranges, before_missing, with_missing, ranges_of, is_due, due_ranges, before_ranges, words_of_range, fitting_ranges}
use Rattle.udt_ranges.proofs.ItemLemmas.{range_with_len-append}
use Rattle.udt_rcv_loss.specs.Plain.{goes_on}

-- the range that begins with a packet
record BeginsWith (m : Missing) (z : MissingRange) : Type 0 where
  first : z.first ≡ m.offset
  reported : z.reported ≡ m.reported
  wait : z.wait ≡ m.wait

-- a packet before ranges of which the first begins with another
length-before : (m n : Missing) (z : MissingRange) (zs : List MissingRange) → BeginsWith n z → length (before_missing m (z ∷ zs)) ≡ length (z ∷ zs) + cond (goes_on (m ∷ n ∷ [])) 0 1
length-before m n z zs b =
    elim (cases_Bool (goes_on (m ∷ n ∷ []))) [
      | inl on ↦ rw (b.first, b.reported, b.wait, on) (omega arith)
      | inr off ↦ rw (b.first, b.reported, b.wait, off) (omega arith)
    ]

starts_by : (m : Missing) (r : MissingRange) (rs : List MissingRange) (b : Bool) → (eqb r.first (m.offset + 1) && eqb r.reported m.reported && eqb r.wait m.wait) ≡ b → (z : MissingRange) × (zs : List MissingRange) × (before_missing m (r ∷ rs) ≡ z ∷ zs) × BeginsWith m z
starts_by m r rs true e =
    let both = and_parts (eqb r.first (m.offset + 1) && eqb r.reported m.reported) (eqb r.wait m.wait) e in
    let inner = and_parts (eqb r.first (m.offset + 1)) (eqb r.reported m.reported) both.0 in
    (record r { first = m.offset }, rs, rw e refl, record { first = refl; reported = eqb-true _ _ inner.1; wait = eqb-true _ _ both.1 })
starts_by m r rs false e =
    (record { first = m.offset; last = m.offset; reported = m.reported; wait = m.wait }, r ∷ rs, rw e refl, record { first = refl; reported = refl; wait = refl })

-- the first range begins with the first packet
starts : (m : Missing) (rs : List MissingRange) → (z : MissingRange) × (zs : List MissingRange) × (before_missing m rs ≡ z ∷ zs) × BeginsWith m z
starts m [] = (record { first = m.offset; last = m.offset; reported = m.reported; wait = m.wait }, [], refl, record { first = refl; reported = refl; wait = refl })
starts m (r ∷ rs) = starts_by m r rs (eqb r.first (m.offset + 1) && eqb r.reported m.reported && eqb r.wait m.wait) refl

one_more : (m : Missing) (ms : List Missing) → length (missing_ranges (m ∷ ms)) ≡ length (missing_ranges ms) + cond (goes_on (m ∷ ms)) 0 1
unfolding missing_ranges
one_more m [] = refl
one_more m (n ∷ ns) = let s = starts n (missing_ranges ns) in rw s.2 (length-before m n s.0 s.1 s.3)

-- one packet more from the end is one range more, unless the next one goes on from it
pub counted_more : (i : ℕ) (ms : List Missing) → i < length ms → length (missing_ranges (drop i ms)) ≡ length (missing_ranges (drop (i + 1) ms)) + cond (goes_on (drop i ms)) 0 1
counted_more i [] less = absurd (omega arith)
counted_more zero (m ∷ ms) less = let e : 0 + 1 ≡ suc 0 = omega arith in rw e (one_more m ms)
counted_more (suc i) (m ∷ ms) less =
    let e : suc i + 1 ≡ suc (i + 1) = omega arith in rw e (counted_more i ms (omega arith))

pub counted_none : (ms : List Missing) → length (missing_ranges (drop (length ms) ms)) ≡ 0
unfolding missing_ranges
counted_none [] = refl
counted_none (m ∷ ms) = counted_none ms

-- a packet that was just listed
abbrev pub listed : ℕ → ℕ → Missing
listed now n = record { offset = n; reported = now; wait = 2 }

-- one packet more in a row
pub row_push : (now from k : ℕ) → map (listed now) (range_with_len from (k + 1)) ≡ map (listed now) (range_with_len from k) ++ listed now (from + k) ∷ []
row_push now from k = ap (map (listed now)) (range_with_len-append from k 1) ∙ map-append (listed now) (range_with_len from k) ((from + k) ∷ [])

pub row_last : (now from to k : ℕ) (ms : List Missing) → from ≤ to → k ≡ to - from → ms ++ map (listed now) (range_with_len from k) ++ listed now to ∷ [] ≡ with_missing from to now ms
unfolding with_missing
row_last now from to k ms le is =
    let e : to + 1 - from ≡ k + 1 = omega arith in
    let f : from + k ≡ to = omega arith in
    append_assoc ms (map (listed now) (range_with_len from k)) (listed now to ∷ [])
    ∙ ap (λ xs. ms ++ xs) (ap (λ n. map (listed now) (range_with_len from k) ++ listed now n ∷ []) (sym f) ∙ sym (row_push now from k) ∙ ap (λ n. map (listed now) (range_with_len from n)) (sym e))

-- the due runs from a packet on: one that is due goes before those after it
pub due-more : (now rtt : ℕ) (m : Missing) (all rest : List Missing) → all ≡ m ∷ rest → due_ranges now rtt all ≡ cond (is_due now rtt m) (before_ranges m.offset (due_ranges now rtt rest)) (due_ranges now rtt rest)
unfolding ranges_of
due-more now rtt m all rest is =
    elim (cases_Bool (is_due now rtt m)) [ inl due ↦ rw (is, due) refl | inr early ↦ rw (is, early) refl ]

-- all of the list is after its end
pub due-none : (now rtt n : ℕ) (ms : List Missing) → n ≡ length ms → due_ranges now rtt (drop n ms) ≡ []
unfolding ranges_of
due-none now rtt n ms is = rw (drop_all n ms (omega arith)) refl

-- a range that fits, and one that doesn't
pub fitting-fits : (left cost : ℕ) (r : LostRange) (rs : List LostRange) → cost ≡ words_of_range r → cost ≤ left → fitting_ranges left (r ∷ rs) ≡ r ∷ fitting_ranges (left - cost) rs
unfolding fitting_ranges
fitting-fits left cost r rs is fits =
    rw (← is, le-leb cost left fits) refl

pub fitting-ends : (left cost : ℕ) (r : LostRange) (rs : List LostRange) → cost ≡ words_of_range r → left < cost → fitting_ranges left (r ∷ rs) ≡ []
unfolding fitting_ranges
fitting-ends left cost r rs is ends =
    rw (← is, lt-leb cost left ends) refl
