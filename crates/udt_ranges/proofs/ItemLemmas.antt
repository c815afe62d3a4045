-- The offsets of ranges, counted, divided and filtered.
use Rattle.std.proofs.Common.{◌≡◌, ℕ, zero, suc, ◌+◌, ◌-◌, ◌<◌, ◌≤◌, Bool, true, false, ltb, List, [], ◌∷◌, ◌++◌, length, map, filter, refl, sym, ap, subst, ◌∙◌, arith, length-append, inl, inr}
use Rattle.std.proofs.lemmas.List.{map-append}
use Rattle.std.specs.List.{range_with_len}
use Rattle.std.proofs.lemmas.List.Concat.{flat_map-append}
use Rattle.std.proofs.lemmas.List.FromFn.{length-map-range_with_len}
use Rattle.std.proofs.lemmas.List.Elements.{filter-append}
use Rattle.std.proofs.lemmas.Bool.{lt-ltb, le-ltb, cases_lt}
use Rattle.udt_ranges.specs.declared.range.Range.{Range}
use Rattle.udt_ranges.proofs.RisingLemmas.{Rises-lower}
use Rattle.udt_ranges.specs.Ranges.{Item, Rises, IsFrom, EndsBelow, items_of, items_of_range, trimmed, trimmed_off}

-- numbers in a row, in two parts
pub range_with_len-append : (a n k : ℕ) → range_with_len a (n + k) ≡ range_with_len a n ++ range_with_len (a + n) k
range_with_len-append a zero k =
    let e : 0 + k ≡ k = omega arith in
    let f : a + 0 ≡ a = omega arith in
    rw (e, f) refl
range_with_len-append a (suc n) k =
    let e : suc n + k ≡ suc (n + k) = omega arith in
    let f : a + suc n ≡ (a + 1) + n = omega arith in
    rw (e, f) (ap (λ xs. a ∷ xs) (range_with_len-append (a + 1) n k))

pub filter-true : {X : Type 0} (xs : List X) → filter (λ x. true) xs ≡ xs
filter-true [] = refl
filter-true (x ∷ xs) = ap (λ ys. x ∷ ys) (filter-true xs)

pub filter-false : {X : Type 0} (xs : List X) → filter (λ x. false) xs ≡ []
filter-false [] = refl
filter-false (x ∷ xs) = filter-false xs

module _ {T : Type 0} where
  -- an offset with the tag of a range
  abbrev pub item_of : Range T → ℕ → Item T
  item_of r n = record { offset = n; tag = r.tag }

  -- a range has as many offsets as it spans
  pub length-items_of_range : (r : Range T) → length (items_of_range r) ≡ r.last + 1 - r.first
  length-items_of_range r = length-map-range_with_len (item_of r) r.first (r.last + 1 - r.first)

  -- the offsets of a range, in two parts
  pub items_of_range-split : (r : Range T) (at : ℕ) → r.first ≤ at → at ≤ r.last + 1 → items_of_range r ≡ map (item_of r) (range_with_len r.first (at - r.first)) ++ map (item_of r) (range_with_len at (r.last + 1 - at))
  items_of_range-split r at low high =
      let e : r.last + 1 - r.first ≡ (at - r.first) + (r.last + 1 - at) = omega arith in
      let f : r.first + (at - r.first) ≡ at = omega arith in
      ap (λ n. map (item_of r) (range_with_len r.first n)) e
      ∙ ap (map (item_of r)) (range_with_len-append r.first (at - r.first) (r.last + 1 - at))
      ∙ map-append (item_of r) (range_with_len r.first (at - r.first)) (range_with_len (r.first + (at - r.first)) (r.last + 1 - at))
      ∙ ap (λ n. map (item_of r) (range_with_len r.first (at - r.first)) ++ map (item_of r) (range_with_len n (r.last + 1 - at))) f

  pub items_of-append : (rs ss : List (Range T)) → items_of (rs ++ ss) ≡ items_of rs ++ items_of ss
  unfolding items_of
  items_of-append rs ss = flat_map-append items_of_range rs ss

  pub items_of-cons : (r : Range T) (rs : List (Range T)) → items_of (r ∷ rs) ≡ items_of_range r ++ items_of rs
  unfolding items_of
  items_of-cons r rs = refl

  -- two tests that agree on numbers in a row keep the same of them
  filter_row : (p q : Item T → Bool) (f : ℕ → Item T) (a n : ℕ) → ((k : ℕ) → a ≤ k → k < a + n → p (f k) ≡ q (f k)) → filter p (map f (range_with_len a n)) ≡ filter q (map f (range_with_len a n))
  filter_row p q f a zero agree = refl
  filter_row p q f a (suc n) agree =
      let rest = filter_row p q f (a + 1) n (λ k low high. agree k (omega arith) (omega arith)) in
      let here = agree a (omega arith) (omega arith) in
      rw (here, rest) refl

  -- tests that agree between the bounds of rising ranges keep the same of their offsets
  pub filter_items : (p q : Item T → Bool) (low high : ℕ) (rs : List (Range T)) → Rises low high rs → ((m : Item T) → low ≤ m.offset → m.offset < high → p m ≡ q m) → filter p (items_of rs) ≡ filter q (items_of rs)
  unfolding items_of Rises
  filter_items p q low high [] h agree = refl
  filter_items p q low high (r ∷ rs) h agree =
      filter-append p (items_of_range r) (items_of rs)
      ∙ ap (λ xs. xs ++ filter p (items_of rs)) (filter_row p q (item_of r) r.first (r.last + 1 - r.first) (λ k from to. agree (item_of r k) (omega arith) (omega arith)))
      ∙ ap (λ xs. filter q (items_of_range r) ++ xs) (filter_items p q (r.last + 1) high rs h.3 (λ m from to. agree m (omega arith) to))
      ∙ sym (filter-append q (items_of_range r) (items_of rs))

  -- offsets that all pass, and offsets of which none does
  pub filter_all : (p : Item T → Bool) (low high : ℕ) (rs : List (Range T)) → Rises low high rs → ((m : Item T) → low ≤ m.offset → m.offset < high → p m ≡ true) → filter p (items_of rs) ≡ items_of rs
  filter_all p low high rs h all = filter_items p (λ m. true) low high rs h all ∙ filter-true (items_of rs)

  pub filter_none : (p : Item T → Bool) (low high : ℕ) (rs : List (Range T)) → Rises low high rs → ((m : Item T) → low ≤ m.offset → m.offset < high → p m ≡ false) → filter p (items_of rs) ≡ []
  filter_none p low high rs h none = filter_items p (λ m. false) low high rs h none ∙ filter-false (items_of rs)

  pub filter_row_none : (p : Item T → Bool) (f : ℕ → Item T) (a n : ℕ) → ((k : ℕ) → a ≤ k → k < a + n → p (f k) ≡ false) → filter p (map f (range_with_len a n)) ≡ []
  filter_row_none p f a n none = filter_row p (λ m. false) f a n none ∙ filter-false (map f (range_with_len a n))

  -- rising ranges have no more offsets than lie between the bounds
  pub length-items_of : (low high : ℕ) (rs : List (Range T)) → Rises low high rs → length (items_of rs) ≤ high - low
  unfolding items_of Rises
  length-items_of low high [] h = omega arith
  length-items_of low high (r ∷ rs) h =
      omega (arith, length-items_of (r.last + 1) high rs h.3, length-append (items_of_range r) (items_of rs), length-items_of_range r)

  -- a higher bound that no range is below
  pub Rises-from : (from low high : ℕ) (rs : List (Range T)) → IsFrom from rs → Rises low high rs → Rises from high rs
  unfolding IsFrom Rises
  Rises-from from low high [] is h = tt
  Rises-from from low high (r ∷ rs) is h = (is.0, h.1, h.2, h.3)

  -- a lower bound that no range is above
  pub Rises-below : (below low high : ℕ) (rs : List (Range T)) → EndsBelow below rs → Rises low high rs → Rises low below rs
  unfolding EndsBelow Rises
  Rises-below below low high [] is h = tt
  Rises-below below low high (r ∷ rs) is h = (h.0, h.1, is.0, Rises-below below (r.last + 1) high rs is.1 h.3)

  -- two lists that rise one after the other
  pub Rises-append : (low mid high : ℕ) (rs ss : List (Range T)) → low ≤ mid → mid ≤ high → Rises low mid rs → Rises mid high ss → Rises low high (rs ++ ss)
  unfolding Rises
  Rises-append low mid high [] ss le le_high h k = Rises-lower mid low high ss le k
  Rises-append low mid high (r ∷ rs) ss le le_high h k =
      (h.0, h.1, omega arith, Rises-append (r.last + 1) mid high rs ss (omega arith) le_high h.3 k)

  -- and the parts of a rising list
  pub Rises-front : (low high : ℕ) (rs ss : List (Range T)) → Rises low high (rs ++ ss) → Rises low high rs
  unfolding Rises
  Rises-front low high [] ss h = tt
  Rises-front low high (r ∷ rs) ss h = (h.0, h.1, h.2, Rises-front (r.last + 1) high rs ss h.3)

  module _ (to : ℕ) (r : Range T) (rs : List (Range T)) where
    -- the three cases of an offset: before the first range, inside of it, and no lower than its end
    pub trimmed-before : to < r.first → (trimmed to (r ∷ rs) ≡ r ∷ rs) × (trimmed_off to (r ∷ rs) ≡ 0)
    unfolding trimmed trimmed_off
    trimmed-before before = let e = lt-ltb to r.first before in (rw e refl, rw e refl)

    pub trimmed-inside : r.first ≤ to → to < r.last → (trimmed to (r ∷ rs) ≡ record r { first = to + 1 } ∷ rs) × (trimmed_off to (r ∷ rs) ≡ to + 1 - r.first)
    unfolding trimmed trimmed_off
    trimmed-inside from inside =
        let e = le-ltb to r.first from in
        let f = lt-ltb to r.last inside in
        (rw (e, f) refl, rw (e, f) refl)

    pub trimmed-past : r.first ≤ to → r.last ≤ to → (trimmed to (r ∷ rs) ≡ rs) × (trimmed_off to (r ∷ rs) ≡ r.last + 1 - r.first)
    unfolding trimmed trimmed_off
    trimmed-past from past =
        let e = le-ltb to r.first from in
        let f = le-ltb to r.last past in
        (rw (e, f) refl, rw (e, f) refl)

  -- rising ranges begin no earlier than a bound
  pub IsFrom-Rises : (offset low high : ℕ) (rs : List (Range T)) → Rises low high rs → offset ≤ low → IsFrom offset rs
  unfolding IsFrom Rises
  IsFrom-Rises offset low high [] h le = tt
  IsFrom-Rises offset low high (r ∷ rs) h le = (omega arith, IsFrom-Rises offset (r.last + 1) high rs h.3 (omega arith))

  -- once nothing is trimmed off, the ranges begin after the offset
  pub IsFrom-trimmed : (to low high : ℕ) (rs : List (Range T)) → Rises low high rs → trimmed_off to rs ≡ 0 → IsFrom (to + 1) rs
  unfolding IsFrom Rises
  IsFrom-trimmed to low high [] h none = tt
  IsFrom-trimmed to low high (r ∷ rs) h none =
      elim (cases_lt to r.first) [
        | inl before ↦ (omega arith, IsFrom-Rises (to + 1) (r.last + 1) high rs h.3 (omega arith))
        | inr from ↦
            elim (cases_lt to r.last) [
              | inl inside ↦ absurd (omega (arith, (trimmed-inside to r rs from inside).1))
              | inr past ↦ absurd (omega (arith, (trimmed-past to r rs from past).1))
            ]
      ]

  pub Rises-trimmed : (to low high : ℕ) (rs : List (Range T)) → Rises low high rs → Rises low high (trimmed to rs)
  unfolding Rises
  Rises-trimmed to low high [] h = unfold trimmed in tt
  Rises-trimmed to low high (r ∷ rs) h =
      elim (cases_lt to r.first) [
        | inl before ↦ subst (Rises low high) (sym (trimmed-before to r rs before).0) h
        | inr from ↦
            elim (cases_lt to r.last) [
              | inl inside ↦ subst (Rises low high) (sym (trimmed-inside to r rs from inside).0) (omega arith, omega arith, h.2, h.3)
              | inr past ↦ subst (Rises low high) (sym (trimmed-past to r rs from past).0) (Rises-lower (r.last + 1) low high rs (omega arith) h.3)
            ]
      ]

  -- the offsets after the first part of a range
  filter_inside : (to : ℕ) (r : Range T) → r.first ≤ to → to < r.last → filter (λ m. ltb to m.offset) (items_of_range r) ≡ filter (λ m. ltb to m.offset) (items_of_range (record r { first = to + 1 }))
  filter_inside to r from inside =
      let p : Item T → Bool = λ m. ltb to m.offset in
      ap (filter p) (items_of_range-split r (to + 1) (omega arith) (omega arith))
      ∙ filter-append p (map (item_of r) (range_with_len r.first (to + 1 - r.first))) (map (item_of r) (range_with_len (to + 1) (r.last + 1 - (to + 1))))
      ∙ ap (λ xs. xs ++ filter p (map (item_of r) (range_with_len (to + 1) (r.last + 1 - (to + 1))))) (filter_row_none p (item_of r) r.first (to + 1 - r.first) (λ k low high. le-ltb to k (omega arith)))

  filter_after : (to : ℕ) (r : Range T) → r.last ≤ to → filter (λ m. ltb to m.offset) (items_of_range r) ≡ []
  filter_after to r past =
      filter_row_none (λ m. ltb to m.offset) (item_of r) r.first (r.last + 1 - r.first) (λ k low high. le-ltb to k (omega arith))

  -- what is trimmed off lies up to the offset
  pub filter-trimmed : (to low high : ℕ) (rs : List (Range T)) → Rises low high rs → filter (λ m. ltb to m.offset) (items_of (trimmed to rs)) ≡ filter (λ m. ltb to m.offset) (items_of rs)
  unfolding Rises
  filter-trimmed to low high [] h = unfold trimmed in refl
  filter-trimmed to low high (r ∷ rs) h =
      let p : Item T → Bool = λ m. ltb to m.offset in
      let whole : filter p (items_of (r ∷ rs)) ≡ filter p (items_of_range r) ++ filter p (items_of rs) = ap (filter p) (items_of-cons r rs) ∙ filter-append p (items_of_range r) (items_of rs) in
      elim (cases_lt to r.first) [
        | inl before ↦ ap (λ xs. filter p (items_of xs)) (trimmed-before to r rs before).0
        | inr from ↦
            elim (cases_lt to r.last) [
              | inl inside ↦
                  let q : Range T = record r { first = to + 1 } in
                  ap (λ xs. filter p (items_of xs)) (trimmed-inside to r rs from inside).0
                  ∙ ap (filter p) (items_of-cons q rs)
                  ∙ filter-append p (items_of_range q) (items_of rs)
                  ∙ ap (λ xs. xs ++ filter p (items_of rs)) (sym (filter_inside to r from inside))
                  ∙ sym whole
              | inr past ↦
                  ap (λ xs. filter p (items_of xs)) (trimmed-past to r rs from past).0
                  ∙ sym (ap (λ xs. xs ++ filter p (items_of rs)) (filter_after to r past))
                  ∙ sym whole
            ]
      ]

  -- and what is counted
  pub length-trimmed : (to low high : ℕ) (rs : List (Range T)) → Rises low high rs → trimmed_off to rs + length (items_of (trimmed to rs)) ≡ length (items_of rs)
  unfolding Rises
  length-trimmed to low high [] h = unfold trimmed trimmed_off in omega arith
  length-trimmed to low high (r ∷ rs) h =
      let long : length (items_of (r ∷ rs)) ≡ (r.last + 1 - r.first) + length (items_of rs) = ap length (items_of-cons r rs) ∙ length-append (items_of_range r) (items_of rs) ∙ ap (λ n. n + length (items_of rs)) (length-items_of_range r) in
      elim (cases_lt to r.first) [
        | inl before ↦
            let t = trimmed-before to r rs before in
            rw (t.0, t.1) (omega arith)
        | inr from ↦
            elim (cases_lt to r.last) [
              | inl inside ↦
                  let t = trimmed-inside to r rs from inside in
                  let q : Range T = record r { first = to + 1 } in
                  let short : length (items_of (q ∷ rs)) ≡ (r.last + 1 - (to + 1)) + length (items_of rs) = ap length (items_of-cons q rs) ∙ length-append (items_of_range q) (items_of rs) ∙ ap (λ n. n + length (items_of rs)) (length-items_of_range q) in
                  rw (t.0, t.1) (omega arith)
              | inr past ↦
                  let t = trimmed-past to r rs from past in
                  rw (t.0, t.1) (omega arith)
            ]
      ]
