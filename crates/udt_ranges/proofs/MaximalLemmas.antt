-- Ranges that are as long as they can be.
use Rattle.std.proofs.Common.{◌≡◌, ℕ, ◌+◌, ◌<◌, ◌≤◌, Bool, true, false, eqb, List, [], ◌∷◌, ◌++◌, refl, sym, ap, subst, ◌∙◌, arith, append_assoc, append-nil, inl, inr}
use Rattle.std.proofs.lemmas.Bool.{cases_lt, ne_eqb, eqb-true, and_parts, cases_Bool}
use Rattle.udt_ranges.specs.declared.range.Range.{Range}
use Rattle.udt_ranges.specs.Ranges.{Item, Rises, IsFrom, EndsBelow, items_of, items_of_range, trimmed}
use Rattle.udt_ranges.specs.Merging.{IsMaximal, IsApart, joins, pushed, pushed_after, absorbed, unabsorbed}
use Rattle.udt_ranges.proofs.ItemLemmas.{trimmed-before, trimmed-inside, trimmed-past, items_of_range-split, items_of-cons, items_of-append}

module _ {T : Type 0} where
  nil_after : (xs : List (Item T)) → xs ++ items_of [] ≡ xs
  unfolding items_of
  nil_after xs = append-nil xs

  nil_before : (xs : List (Item T)) → items_of [] ++ xs ≡ xs
  unfolding items_of
  nil_before xs = refl

module _ {T : Type 0} (same : T → T → Bool) where
  -- ranges with the same end and tag lie apart from the same ranges
  pub IsApart-same : (p q : Range T) (rs : List (Range T)) → p.last ≡ q.last → p.tag ≡ q.tag → IsApart same p rs → IsApart same q rs
  IsApart-same p q [] last tag h = tt
  IsApart-same p q (s ∷ rs) last tag h = rw (← last, ← tag) h

  -- ranges lie apart where an offset lies between them
  pub joins-gap : (p s : Range T) → p.last + 1 < s.first → joins same p s ≡ false
  joins-gap p s gap = rw (ne_eqb (p.last + 1) s.first (λ same. omega arith)) refl

  pub IsApart-gap : (p : Range T) (from : ℕ) (rs : List (Range T)) → p.last + 1 < from → IsFrom from rs → IsApart same p rs
  unfolding IsFrom
  IsApart-gap p from [] gap h = tt
  IsApart-gap p from (s ∷ rs) gap h = joins-gap p s (omega (arith, h.0))

  -- the parts of a list of such ranges are such ranges
  pub IsMaximal-back : (rs ss : List (Range T)) → IsMaximal same (rs ++ ss) → IsMaximal same ss
  unfolding IsMaximal
  IsMaximal-back [] ss h = h
  IsMaximal-back (r ∷ rs) ss h = IsMaximal-back rs ss h.1

  IsApart-front : (r : Range T) (rs ss : List (Range T)) → IsApart same r (rs ++ ss) → IsApart same r rs
  IsApart-front r [] ss h = tt
  IsApart-front r (s ∷ rs) ss h = h

  pub IsMaximal-front : (rs ss : List (Range T)) → IsMaximal same (rs ++ ss) → IsMaximal same rs
  unfolding IsMaximal
  IsMaximal-front [] ss h = tt
  IsMaximal-front (r ∷ rs) ss h = (IsApart-front r rs ss h.0, IsMaximal-front rs ss h.1)

  -- another end of the last range changes nothing
  IsApart-last : (r : Range T) (rs : List (Range T)) (p q : Range T) → p.first ≡ q.first → p.tag ≡ q.tag → IsApart same r (rs ++ p ∷ []) → IsApart same r (rs ++ q ∷ [])
  IsApart-last r [] p q first tag h = rw (← first, ← tag) h
  IsApart-last r (s ∷ rs) p q first tag h = h

  pub IsMaximal-last : (rs : List (Range T)) (p q : Range T) → p.first ≡ q.first → p.tag ≡ q.tag → IsMaximal same (rs ++ p ∷ []) → IsMaximal same (rs ++ q ∷ [])
  unfolding IsMaximal
  IsMaximal-last [] p q first tag h = (tt, tt)
  IsMaximal-last (r ∷ rs) p q first tag h =
      (IsApart-last r rs p q first tag h.0, IsMaximal-last rs p q first tag h.1)

  -- nor does another beginning of the first
  pub IsMaximal-first : (p q : Range T) (rs : List (Range T)) → p.last ≡ q.last → p.tag ≡ q.tag → IsMaximal same (p ∷ rs) → IsMaximal same (q ∷ rs)
  unfolding IsMaximal
  IsMaximal-first p q rs last tag h = (IsApart-same p q rs last tag h.0, h.1)

  pub IsMaximal-trimmed : (to : ℕ) (rs : List (Range T)) → IsMaximal same rs → IsMaximal same (trimmed to rs)
  IsMaximal-trimmed to [] h = unfold trimmed in h
  IsMaximal-trimmed to (r ∷ rs) h =
      elim (cases_lt to r.first) [
        | inl before ↦ subst (IsMaximal same) (sym (trimmed-before to r rs before).0) h
        | inr from ↦
            elim (cases_lt to r.last) [
              | inl inside ↦ subst (IsMaximal same) (sym (trimmed-inside to r rs from inside).0) (IsMaximal-first r (record r { first = to + 1 }) rs refl refl h)
              | inr past ↦ subst (IsMaximal same) (sym (trimmed-past to r rs from past).0) (IsMaximal-back (r ∷ []) rs h)
            ]
      ]

  -- two lists, of which the second begins after a gap
  pub IsMaximal-gap : (from to low : ℕ) (rs ss : List (Range T)) → from ≤ to → EndsBelow from rs → IsFrom (to + 1) ss → IsMaximal same rs → IsMaximal same ss → IsMaximal same (rs ++ ss)
  unfolding IsMaximal EndsBelow
  IsMaximal-gap from to low [] ss le ends is h k = k
  IsMaximal-gap from to low (r ∷ []) ss le ends is h k = (IsApart-gap r (to + 1) ss (omega (arith, ends.0)) is, k)
  IsMaximal-gap from to low (r ∷ s ∷ rs) ss le ends is h k =
      (h.0, IsMaximal-gap from to low (s ∷ rs) ss le ends.1 is h.1 k)

  -- a range pushed after others
  pushed_after-joined : (q : Range T) (rs : List (Range T)) (r x : Range T) → joins same r x ≡ true → pushed_after same q (rs ++ r ∷ []) x ≡ q ∷ (rs ++ record r { last = x.last } ∷ [])
  unfolding pushed_after
  pushed_after-joined q [] r x h = rw h refl
  pushed_after-joined q (s ∷ rs) r x h = ap (λ xs. q ∷ xs) (pushed_after-joined s rs r x h)

  pub pushed-joined : (rs : List (Range T)) (r x : Range T) → joins same r x ≡ true → pushed same (rs ++ r ∷ []) x ≡ rs ++ record r { last = x.last } ∷ []
  pushed-joined [] r x h = unfold pushed_after in rw h refl
  pushed-joined (q ∷ rs) r x h = pushed_after-joined q rs r x h

  pushed_after-apart : (q : Range T) (rs : List (Range T)) (r x : Range T) → joins same r x ≡ false → pushed_after same q (rs ++ r ∷ []) x ≡ q ∷ ((rs ++ r ∷ []) ++ x ∷ [])
  unfolding pushed_after
  pushed_after-apart q [] r x h = rw h refl
  pushed_after-apart q (s ∷ rs) r x h = ap (λ xs. q ∷ xs) (pushed_after-apart s rs r x h)

  pub pushed-apart : (rs : List (Range T)) (r x : Range T) → joins same r x ≡ false → pushed same (rs ++ r ∷ []) x ≡ (rs ++ r ∷ []) ++ x ∷ []
  pushed-apart [] r x h = unfold pushed_after in rw h refl
  pushed-apart (q ∷ rs) r x h = pushed_after-apart q rs r x h

  -- the ranges stay as long as they can be
  IsApart-pushed_after : (r s : Range T) (rs : List (Range T)) (x : Range T) (ss : List (Range T)) → joins same r s ≡ false → IsApart same r (pushed_after same s rs x ++ ss)
  unfolding pushed_after
  IsApart-pushed_after r s [] x ss h =
      elim (cases_Bool (joins same s x)) [ inl on ↦ rw on h | inr off ↦ rw off h ]
  IsApart-pushed_after r s (q ∷ rs) x ss h = h

  -- and rise
  Rises-pushed_after : (low high : ℕ) (r : Range T) (rs : List (Range T)) (x : Range T) (ss : List (Range T)) → Rises low high (r ∷ rs ++ x ∷ ss) → Rises low high (pushed_after same r rs x ++ ss)
  unfolding pushed_after Rises
  Rises-pushed_after low high r [] x ss h =
      elim (cases_Bool (joins same r x)) [ inl on ↦ rw on (h.0, omega arith, h.3.2, h.3.3) | inr off ↦ rw off h ]
  Rises-pushed_after low high r (s ∷ rs) x ss h = (h.0, h.1, h.2, Rises-pushed_after (r.last + 1) high s rs x ss h.3)

  pub Rises-pushed : (low high : ℕ) (rs : List (Range T)) (x : Range T) (ss : List (Range T)) → Rises low high (rs ++ x ∷ ss) → Rises low high (pushed same rs x ++ ss)
  Rises-pushed low high [] x ss h = h
  Rises-pushed low high (r ∷ rs) x ss h = Rises-pushed_after low high r rs x ss h

  pub Rises-absorbed : (low high : ℕ) (x : Range T) (rs : List (Range T)) → Rises low high (x ∷ rs) → Rises low high (absorbed same x rs ∷ unabsorbed same x rs)
  unfolding absorbed unabsorbed Rises
  Rises-absorbed low high x [] h = h
  Rises-absorbed low high x (s ∷ rs) h =
      elim (cases_Bool (joins same x s)) [
        | inl on ↦ rw on (h.0, omega arith, h.3.2, h.3.3)
        | inr off ↦ rw off h
      ]

module _ {T : Type 0} (same : T → T → Bool) (only : (a b : T) → same a b ≡ true → a ≡ b) where
  -- a range pushed after such ranges
  joined_is : (r x : Range T) → joins same r x ≡ true → (r.last + 1 ≡ x.first) × (r.tag ≡ x.tag)
  joined_is r x h =
      let both = and_parts (eqb (r.last + 1) x.first) (same r.tag x.tag) h in
      (eqb-true _ _ both.0, only r.tag x.tag both.1)

  -- a range that goes on from another has the offsets of both
  items_of_range-joined : (r x : Range T) → r.first ≤ r.last → x.first ≤ x.last → joins same r x ≡ true → items_of_range (record r { last = x.last }) ≡ items_of_range r ++ items_of_range x
  items_of_range-joined r x low high h =
      let j = joined_is r x h in
      items_of_range-split (record r { last = x.last }) x.first (omega (arith, j.0)) (omega arith)
      ∙ rw (← j.0, ← j.1) refl

  -- it adds its offsets
  items_of-pushed_after : (low : ℕ) (r : Range T) (rs : List (Range T)) (x : Range T) → Rises low x.first (r ∷ rs) → x.first ≤ x.last → items_of (pushed_after same r rs x) ≡ items_of (r ∷ rs) ++ items_of_range x
  unfolding pushed_after Rises
  items_of-pushed_after low r [] x h le =
      elim (cases_Bool (joins same r x)) [
        | inl on ↦ rw on (items_of-cons (record r { last = x.last }) [] ∙ rw (items_of_range-joined r x h.1 le on) (append_assoc (items_of_range r) (items_of_range x) (items_of []) ∙ ap (λ xs. items_of_range r ++ xs) (nil_after (items_of_range x)) ∙ sym (rw (items_of-cons r []) (append_assoc (items_of_range r) (items_of []) (items_of_range x) ∙ ap (λ xs. items_of_range r ++ xs) (nil_before (items_of_range x))))))
        | inr off ↦ rw off (items_of-append (r ∷ []) (x ∷ []) ∙ ap (λ xs. items_of (r ∷ []) ++ xs) (items_of-cons x [] ∙ nil_after (items_of_range x)))
      ]
  items_of-pushed_after low r (s ∷ rs) x h le =
      items_of-cons r (pushed_after same s rs x)
      ∙ ap (λ xs. items_of_range r ++ xs) (items_of-pushed_after (r.last + 1) s rs x h.3 le)
      ∙ sym (append_assoc (items_of_range r) (items_of (s ∷ rs)) (items_of_range x))
      ∙ ap (λ xs. xs ++ items_of_range x) (sym (items_of-cons r (s ∷ rs)))

  pub items_of-pushed : (low : ℕ) (rs : List (Range T)) (x : Range T) → Rises low x.first rs → x.first ≤ x.last → items_of (pushed same rs x) ≡ items_of rs ++ items_of_range x
  items_of-pushed low [] x h le = items_of-cons x [] ∙ nil_after (items_of_range x) ∙ sym (nil_before (items_of_range x))
  items_of-pushed low (r ∷ rs) x h le = items_of-pushed_after low r rs x h le

  IsMaximal-pushed_after : (r : Range T) (rs : List (Range T)) (x : Range T) (ss : List (Range T)) → IsMaximal same (r ∷ rs) → IsApart same x ss → IsMaximal same ss → IsMaximal same (pushed_after same r rs x ++ ss)
  unfolding pushed_after IsMaximal
  IsMaximal-pushed_after r [] x ss h apart k =
      elim (cases_Bool (joins same r x)) [
        | inl on ↦
            let j = joined_is r x on in
            rw on (IsApart-same same x (record r { last = x.last }) ss refl (sym j.1) apart, k)
        | inr off ↦ rw off (off, (apart, k))
      ]
  IsMaximal-pushed_after r (s ∷ rs) x ss h apart k =
      (IsApart-pushed_after same r s rs x ss h.0, IsMaximal-pushed_after s rs x ss h.1 apart k)

  pub IsMaximal-pushed : (rs : List (Range T)) (x : Range T) (ss : List (Range T)) → IsMaximal same rs → IsApart same x ss → IsMaximal same ss → IsMaximal same (pushed same rs x ++ ss)
  unfolding IsMaximal
  IsMaximal-pushed [] x ss h apart k = (apart, k)
  IsMaximal-pushed (r ∷ rs) x ss h apart k = IsMaximal-pushed_after r rs x ss h apart k

  -- a range that takes in the one after it
  pub items_of-absorbed : (high : ℕ) (x : Range T) (rs : List (Range T)) → Rises (x.last + 1) high rs → x.first ≤ x.last → items_of_range (absorbed same x rs) ++ items_of (unabsorbed same x rs) ≡ items_of_range x ++ items_of rs
  unfolding absorbed unabsorbed Rises
  items_of-absorbed high x [] h le = refl
  items_of-absorbed high x (s ∷ rs) h le =
      elim (cases_Bool (joins same x s)) [
        | inl on ↦ rw on (ap (λ xs. xs ++ items_of rs) (items_of_range-joined x s le h.1 on) ∙ append_assoc (items_of_range x) (items_of_range s) (items_of rs) ∙ ap (λ xs. items_of_range x ++ xs) (sym (items_of-cons s rs)))
        | inr off ↦ rw off refl
      ]

  pub IsMaximal-absorbed : (x : Range T) (rs : List (Range T)) → IsMaximal same rs → IsApart same (absorbed same x rs) (unabsorbed same x rs) × IsMaximal same (unabsorbed same x rs)
  unfolding absorbed unabsorbed IsMaximal
  IsMaximal-absorbed x [] h = (tt, tt)
  IsMaximal-absorbed x (s ∷ rs) h =
      elim (cases_Bool (joins same x s)) [
        | inl on ↦
            let j = joined_is x s on in
            rw on (IsApart-same same s (record x { last = s.last }) rs refl (sym j.1) h.0, h.1)
        | inr off ↦ rw off (off, h)
      ]
