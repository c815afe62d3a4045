-- What the edits do to lists of ranges.
use Rattle.std.proofs.Common.{◌≡◌, ℕ, ◌+◌, ◌-◌, ◌<◌, ◌≤◌, true, false, ltb, List, [], ◌∷◌, ◌++◌, length, filter, refl, sym, ap, subst, ◌∙◌, arith, append_assoc, append-nil, Bool, ◌||◌, cond, inl, inr, Option, Some}
use Rattle.std.proofs.lemmas.List.Elements.{filter-append}
use Rattle.std.proofs.lemmas.Bool.{lt-ltb, le-ltb, or_left, cases_lt}
use Rattle.udt_ranges.specs.declared.range.Range.{Range}
use Rattle.udt_ranges.specs.Ranges.{Item, Rises, KeepsBounds, IsWithin, IsBelow, IsFrom, EndsBelow, IsNear, items_of, items_of_range, items_before, items_after, trimmed, trimmed_off, without_items}
use Rattle.udt_ranges.specs.Merging.{IsMaximal, absorbed, unabsorbed, pushed, pushed_after, joins}
use Rattle.udt_ranges.specs.Cursors.{IsCursor, begins_at, ahead, through, beyond, before, following}
use Rattle.udt_ranges.proofs.CursorLemmas.{is_split}
use Rattle.udt_ranges.proofs.RisingLemmas.{Rises-back, Rises-lower, Rises-higher, Rises-middle}
use Rattle.udt_ranges.proofs.PlaceLemmas.{whole, bounds}
use Rattle.udt_ranges.proofs.ItemLemmas.{items_of-append, items_of-cons, items_of_range-split, filter_items, filter_all, filter_none, Rises-from, Rises-below, Rises-front, length-items_of, trimmed-before, trimmed-inside, trimmed-past}
use Rattle.udt_ranges.proofs.MaximalLemmas.{items_of-pushed, items_of-absorbed, IsMaximal-front, IsMaximal-back, IsMaximal-last, IsMaximal-first, Rises-absorbed, Rises-pushed}

module _ {T : Type 0} where
  -- another range in the middle, and what is after it, within the old bounds
  Rises-edit : (low high : ℕ) (front : List (Range T)) (r : Range T) (back new : List (Range T)) → ((low high : ℕ) → Rises low high (r ∷ back) → Rises low high new) → Rises low high (front ++ r ∷ back) → Rises low high (front ++ new)
  unfolding Rises
  Rises-edit low high [] r back new edit h = edit low high h
  Rises-edit low high (f ∷ front) r back new edit h = (h.0, h.1, h.2, Rises-edit (f.last + 1) high front r back new edit h.3)

  IsWithin-edit : (w : ℕ) (front : List (Range T)) (r q : Range T) (back new : List (Range T)) → q.first ≡ r.first → ((low high : ℕ) → Rises low high (r ∷ back) → Rises low high (q ∷ new)) → IsWithin w (front ++ r ∷ back) → IsWithin w (front ++ q ∷ new)
  unfolding IsWithin
  IsWithin-edit w [] r q back new same edit h = subst (λ f. Rises f (f + w) (q ∷ new)) (sym same) (edit r.first (r.first + w) h)
  IsWithin-edit w (f ∷ front) r q back new same edit h =
      Rises-edit f.first (f.first + w) (f ∷ front) r back (q ∷ new) edit h

  -- the range before an offset begins before it
  pub IsBelow-last : (offset : ℕ) (front : List (Range T)) (r : Range T) → IsBelow offset (front ++ r ∷ []) → r.first < offset
  unfolding IsBelow
  IsBelow-last offset [] r h = h.0
  IsBelow-last offset (f ∷ front) r h = IsBelow-last offset front r h.1

  -- ranges before another end before it
  pub EndsBelow-front : (offset low high : ℕ) (front : List (Range T)) (r : Range T) (back : List (Range T)) → r.first ≤ offset → Rises low high (front ++ r ∷ back) → EndsBelow offset front
  unfolding EndsBelow Rises
  EndsBelow-front offset low high [] r back le h = tt
  EndsBelow-front offset low high (f ∷ front) r back le h =
      (omega (arith, (Rises-middle (f.last + 1) high front r back h.3).0), EndsBelow-front offset (f.last + 1) high front r back le h.3)

  pub EndsBelow-push : (offset : ℕ) (front : List (Range T)) (r : Range T) → EndsBelow offset front → r.last < offset → EndsBelow offset (front ++ r ∷ [])
  unfolding EndsBelow
  EndsBelow-push offset [] r h below = (below, tt)
  EndsBelow-push offset (f ∷ front) r h below = (h.0, EndsBelow-push offset front r h.1 below)

  -- a range in two parts
  module _ (from : ℕ) (front : List (Range T)) (r : Range T) (back : List (Range T)) (begins : r.first < from) (inside : from ≤ r.last) where
    parts_rise : (low high : ℕ) → Rises low high (r ∷ back) → Rises low high (record r { last = from - 1 } ∷ record r { first = from } ∷ back)
    unfolding Rises
    parts_rise low high h = (h.0, omega arith, omega arith, (omega arith, inside, h.2, h.3))

    lower_rises : (low high : ℕ) → Rises low high (r ∷ back) → Rises low high (record r { last = from - 1 } ∷ back)
    unfolding Rises
    lower_rises low high h = (h.0, omega arith, omega arith, Rises-lower (r.last + 1) (from - 1 + 1) high back (omega arith) h.3)

    pub IsWithin-lower : (w : ℕ) → IsWithin w (front ++ r ∷ back) → IsWithin w (front ++ record r { last = from - 1 } ∷ back)
    IsWithin-lower w h = IsWithin-edit w front r (record r { last = from - 1 }) back back refl lower_rises h

    pub IsWithin-parts : (w : ℕ) → IsWithin w (front ++ r ∷ back) → IsWithin w (front ++ record r { last = from - 1 } ∷ record r { first = from } ∷ back)
    IsWithin-parts w h = IsWithin-edit w front r (record r { last = from - 1 }) back (record r { first = from } ∷ back) refl parts_rise h

    pub Rises-parts : (low high : ℕ) → Rises low high (front ++ r ∷ back) → Rises low high (front ++ record r { last = from - 1 } ∷ record r { first = from } ∷ back)
    Rises-parts low high h = Rises-edit low high front r back _ parts_rise h

    range_parts : items_of_range r ≡ items_of_range (record r { last = from - 1 }) ++ items_of_range (record r { first = from })
    range_parts =
        let e : from - r.first ≡ from - 1 + 1 - r.first = omega arith in
        items_of_range-split r from (omega arith) (omega arith) ∙ rw e refl

    pub items_of-parts : items_of (front ++ record r { last = from - 1 } ∷ record r { first = from } ∷ back) ≡ items_of (front ++ r ∷ back)
    items_of-parts =
        let p : Range T = record r { last = from - 1 } in
        let q : Range T = record r { first = from } in
        items_of-append front (p ∷ q ∷ back)
        ∙ ap (λ xs. items_of front ++ xs) (items_of-cons p (q ∷ back) ∙ ap (λ xs. items_of_range p ++ xs) (items_of-cons q back) ∙ sym (append_assoc (items_of_range p) (items_of_range q) (items_of back)) ∙ ap (λ xs. xs ++ items_of back) (sym range_parts) ∙ sym (items_of-cons r back))
        ∙ sym (items_of-append front (r ∷ back))

  -- a list with a place between the offsets below one and those above another
  pub record Opened (from to : ℕ) (old front new : List (Range T)) : Type 0 where
    pub low : items_of front ≡ items_before from (items_of old)
    pub high : items_of new ≡ items_after to (items_of old)
    pub next : items_of (front ++ new) ≡ without_items from to (items_of old)

  pub opened : (from to w : ℕ) (old front back new : List (Range T)) → from ≤ to → IsWithin w (front ++ back) → items_of (front ++ back) ≡ items_of old → EndsBelow from front → IsFrom from back → items_of new ≡ items_after to (items_of back) → Opened from to old front new
  unfolding without_items
  opened from to w old front back new le within same ends is new_is =
      let b = bounds w (front ++ back) within in
      let p : Item T → Bool = λ m. ltb m.offset from in
      let q : Item T → Bool = λ m. ltb to m.offset in
      let both : Item T → Bool = λ m. ltb m.offset from || ltb to m.offset in
      let first = Rises-below from b.low b.high front ends (Rises-front b.low b.high front back b.rises) in
      let second = Rises-from from b.low b.high back is (Rises-back b.low b.high front back b.rises) in
      let whole_is : items_of front ++ items_of back ≡ items_of old = sym (items_of-append front back) ∙ same in
      let part : (r : Item T → Bool) → filter r (items_of old) ≡ filter r (items_of front) ++ filter r (items_of back) = λ r. ap (filter r) (sym whole_is) ∙ filter-append r (items_of front) (items_of back) in
      record {
        low = sym (part p ∙ rw (filter_all p b.low from front first (λ m low high. lt-ltb m.offset from high), filter_none p from b.high back second (λ m low high. le-ltb m.offset from low)) (append-nil (items_of front)));
        high = sym (part q ∙ rw (filter_none q b.low from front first (λ m low high. le-ltb to m.offset (omega arith))) (sym new_is));
        next =
            items_of-append front new
            ∙ ap (λ xs. items_of front ++ xs) (new_is ∙ filter_items q both from b.high back second (λ m low high. rw (le-ltb m.offset from low) refl))
            ∙ sym (part both ∙ rw (filter_all both b.low from front first (λ m low high. or_left (ltb m.offset from) (ltb to m.offset) (lt-ltb m.offset from high))) refl);
      }

  -- what is known of the range before a place that an offset lies in or after
  pub record Dividing (w from at : ℕ) (r : Range T) (rs : List (Range T)) : Type 0 where
    pub through_is : through at rs ≡ ahead at rs ++ r ∷ []
    pub is : ahead at rs ++ r ∷ beyond at rs ≡ rs
    pub below : r.first < from
    pub within : IsWithin w (ahead at rs ++ r ∷ beyond at rs)
    pub ends : EndsBelow from (ahead at rs)

  pub dividing : (w from at : ℕ) (r : Range T) (rs : List (Range T)) → r.first ≡ at → begins_at at rs ≡ true → through at rs ≡ ahead at rs ++ r ∷ [] → IsBelow from (through at rs) → IsWithin w rs → Dividing w from at r rs
  dividing w from at r rs first begins read before within =
      let is : ahead at rs ++ r ∷ beyond at rs ≡ rs = sym (append_assoc (ahead at rs) (r ∷ []) (beyond at rs)) ∙ ap (λ xs. xs ++ beyond at rs) (sym read) ∙ whole (Some at) rs begins in
      let below = IsBelow-last from (ahead at rs) r (subst (IsBelow from) read before) in
      let within_2 = subst (IsWithin w) (sym is) within in
      let b = bounds w _ within_2 in
      record {
        through_is = read;
        is = is;
        below = below;
        within = within_2;
        ends = EndsBelow-front from b.low b.high (ahead at rs) r (beyond at rs) (omega arith) b.rises;
      }

  -- the list around a range that was replaced
  pub replaced : (at : ℕ) (p : Range T) (rs mid : List (Range T)) → p.first ≡ at → through p.first mid ≡ ahead p.first rs ++ p ∷ [] → beyond p.first mid ≡ beyond p.first rs → (through at mid ≡ ahead at rs ++ p ∷ []) × (beyond at mid ≡ beyond at rs)
  replaced at p rs mid first before_is following_is =
      (subst (λ f. through f mid ≡ ahead f rs ++ p ∷ []) first before_is, subst (λ f. beyond f mid ≡ beyond f rs) first following_is)

  -- and once it was given its new end, and its second part was put after it
  pub record Divided (from at : ℕ) (r : Range T) (rs new : List (Range T)) : Type 0 where
    pub before_is : through at new ≡ ahead at rs ++ record r { last = from - 1 } ∷ []
    pub following_is : beyond at new ≡ record r { first = from } ∷ beyond at rs
    pub is : new ≡ ahead at rs ++ record r { last = from - 1 } ∷ record r { first = from } ∷ beyond at rs

  pub divided : (from at : ℕ) (r : Range T) (rs mid new : List (Range T)) → r.first ≡ at → through r.first mid ≡ ahead r.first rs ++ record r { last = from - 1 } ∷ [] → beyond r.first mid ≡ beyond r.first rs → begins_at at new ≡ true → through at new ≡ through at mid → beyond at new ≡ record r { first = from } ∷ beyond at mid → Divided from at r rs new
  divided from at r rs mid new first mid_before mid_after cursor new_before new_after =
      let p : Range T = record r { last = from - 1 } in
      let q : Range T = record r { first = from } in
      let half = replaced at p rs mid first mid_before mid_after in
      let before_is : through at new ≡ ahead at rs ++ p ∷ [] = new_before ∙ half.0 in
      let following_is : beyond at new ≡ q ∷ beyond at rs = new_after ∙ ap (λ xs. q ∷ xs) half.1 in
      record {
        before_is = before_is;
        following_is = following_is;
        is = sym (whole (Some at) new cursor) ∙ rw (before_is, following_is) (append_assoc (ahead at rs) (p ∷ []) (q ∷ beyond at rs));
      }

  -- a range that was put at a place is where the list is split
  pub record IsPut (x : Range T) (front back new : List (Range T)) : Type 0 where
    pub begins : begins_at x.first new ≡ true
    pub through_is : through x.first new ≡ front ++ x ∷ []
    pub beyond_is : beyond x.first new ≡ back

  pub is_put : (w : ℕ) (cursor : Option ℕ) (x : Range T) (front back new : List (Range T)) → IsWithin w (front ++ x ∷ back) → IsCursor cursor new → before cursor new ≡ front → following cursor new ≡ x ∷ back → IsPut x front back new
  is_put w cursor x front back new within h before_is following_is =
      let is : front ++ x ∷ back ≡ new = ap (λ xs. xs ++ x ∷ back) (sym before_is) ∙ ap (λ xs. before cursor new ++ xs) (sym following_is) ∙ whole cursor new h in
      let b = bounds w (front ++ x ∷ back) within in
      let split = is_split x.first b.low b.high front x back refl b.rises in
      record {
        begins = subst (λ rs. begins_at x.first rs ≡ true) is split.begins;
        through_is = subst (λ rs. through x.first rs ≡ front ++ x ∷ []) is split.through_is;
        beyond_is = subst (λ rs. beyond x.first rs ≡ back) is split.beyond_is;
      }

  -- a range between others within one window
  pub Rises-insert : (low high : ℕ) (front : List (Range T)) (x : Range T) (back : List (Range T)) → low ≤ x.first → x.first ≤ x.last → x.last < high → EndsBelow x.first front → IsFrom (x.last + 1) back → Rises low high (front ++ back) → Rises low high (front ++ x ∷ back)
  unfolding Rises EndsBelow
  Rises-insert low high [] x back le order below ends is h = (le, order, below, Rises-from (x.last + 1) low high back is h)
  Rises-insert low high (f ∷ front) x back le order below ends is h =
      (h.0, h.1, h.2, Rises-insert (f.last + 1) high front x back (omega (arith, ends.0)) order below ends.1 is h.3)

  pub IsWithin-insert : (w : ℕ) (front : List (Range T)) (x : Range T) (back : List (Range T)) → x.first ≤ x.last → x.last < x.first + w → EndsBelow x.first front → IsFrom (x.last + 1) back → IsNear w x (front ++ back) → IsWithin w (front ++ back) → IsWithin w (front ++ x ∷ back)
  unfolding IsWithin Rises EndsBelow
  IsWithin-insert w [] x back order room ends is near within =
      (omega arith, order, room, Rises-from (x.last + 1) (x.last + 1 - w) (x.first + w) back is near)
  IsWithin-insert w (f ∷ front) x back order room ends is near within =
      Rises-insert f.first (f.first + w) (f ∷ front) x back (omega (arith, ends.0)) order (omega arith) ends is within

  -- the last part of a range
  pub IsWithin-upper : (to w : ℕ) (front : List (Range T)) (r : Range T) (back : List (Range T)) → r.first ≤ to → to < r.last → IsWithin w (front ++ r ∷ back) → IsWithin w (front ++ record r { first = to + 1 } ∷ back)
  unfolding IsWithin Rises
  IsWithin-upper to w [] r back from inside h =
      (omega arith, omega arith, omega arith, Rises-higher (r.last + 1) (r.first + w) (to + 1 + w) back (omega arith) h.3)
  IsWithin-upper to w (f ∷ front) r back from inside h =
      Rises-edit f.first (f.first + w) (f ∷ front) r back (record r { first = to + 1 } ∷ back) (λ low high k. (omega arith, omega arith, k.2, k.3)) h

  -- a range has no more offsets than the window
  pub span_within : (w : ℕ) (front : List (Range T)) (r : Range T) (back : List (Range T)) → IsWithin w (front ++ r ∷ back) → r.last < r.first + w
  unfolding IsWithin Rises
  span_within w [] r back h = h.2
  span_within w (f ∷ front) r back h = omega (arith, (Rises-middle f.first (f.first + w) (f ∷ front) r back h))

  joined_rises : (r x : Range T) (back : List (Range T)) (low high : ℕ) → Rises low high (r ∷ x ∷ back) → Rises low high (record r { last = x.last } ∷ back)
  unfolding Rises
  joined_rises r x back low high h = (h.0, omega arith, h.3.2, h.3.3)

  -- a range that takes in the one after it
  pub IsWithin-joined : (w : ℕ) (front : List (Range T)) (r x : Range T) (back : List (Range T)) → IsWithin w ((front ++ r ∷ []) ++ x ∷ back) → IsWithin w (front ++ record r { last = x.last } ∷ back)
  IsWithin-joined w front r x back h =
      IsWithin-edit w front r (record r { last = x.last }) (x ∷ back) back refl (joined_rises r x back) (rw (append_assoc front (r ∷ []) (x ∷ back)) at h)

  pub EndsBelow-last : (offset : ℕ) (front : List (Range T)) (r : Range T) → EndsBelow offset (front ++ r ∷ []) → r.last < offset
  unfolding EndsBelow
  EndsBelow-last offset [] r h = h.0
  EndsBelow-last offset (f ∷ front) r h = EndsBelow-last offset front r h.1

  -- other ranges after a place that rise between the same bounds
  pub Rises-swap : (low high : ℕ) (front back new : List (Range T)) → ((low high : ℕ) → Rises low high back → Rises low high new) → Rises low high (front ++ back) → Rises low high (front ++ new)
  unfolding Rises
  Rises-swap low high [] back new edit h = edit low high h
  Rises-swap low high (f ∷ front) back new edit h = (h.0, h.1, h.2, Rises-swap (f.last + 1) high front back new edit h.3)

  -- what is after a place has no more offsets than the window
  pub length_within : (w : ℕ) (front back : List (Range T)) → IsWithin w (front ++ back) → length (items_of back) ≤ w
  unfolding IsWithin
  length_within w [] [] h = unfold items_of in omega arith
  length_within w [] (r ∷ back) h = omega (arith, length-items_of r.first (r.first + w) (r ∷ back) h)
  length_within w (f ∷ front) back h =
      omega (arith, length-items_of f.first (f.first + w) back (Rises-back f.first (f.first + w) (f ∷ front) back h))

  -- where nothing is trimmed off, all stays
  pub trimmed-same : (to low high : ℕ) (rs : List (Range T)) → Rises low high rs → trimmed_off to rs ≡ 0 → trimmed to rs ≡ rs
  unfolding Rises
  trimmed-same to low high [] h none = unfold trimmed in refl
  trimmed-same to low high (r ∷ rs) h none =
      elim (cases_lt to r.first) [
        | inl before ↦ (trimmed-before to r rs before).0
        | inr from ↦
            elim (cases_lt to r.last) [
              | inl inside ↦ absurd (omega (arith, (trimmed-inside to r rs from inside).1))
              | inr past ↦ absurd (omega (arith, (trimmed-past to r rs from past).1))
            ]
      ]

  -- a range with the same offsets in the middle
  retagged_rises : (r q : Range T) (back : List (Range T)) → q.first ≡ r.first → q.last ≡ r.last → (low high : ℕ) → Rises low high (r ∷ back) → Rises low high (q ∷ back)
  unfolding Rises
  retagged_rises r q back first last low high h = (omega arith, omega arith, omega arith, subst (λ k. Rises (k + 1) high back) (sym last) h.3)

  pub IsWithin-retagged : (w : ℕ) (front : List (Range T)) (r q : Range T) (back : List (Range T)) → q.first ≡ r.first → q.last ≡ r.last → IsWithin w (front ++ r ∷ back) → IsWithin w (front ++ q ∷ back)
  IsWithin-retagged w front r q back first last h =
      IsWithin-edit w front r q back back first (retagged_rises r q back first last) h

module _ {T : Type 0} (same : T → T → Bool) where
  pub IsMaximal-parts : (from : ℕ) (front : List (Range T)) (r : Range T) (back : List (Range T)) → IsMaximal same (front ++ r ∷ back) → IsMaximal same (front ++ record r { last = from - 1 } ∷ []) × IsMaximal same (record r { first = from } ∷ back)
  IsMaximal-parts from front r back h = (
    IsMaximal-last same front r (record r { last = from - 1 }) refl refl (IsMaximal-front same (front ++ r ∷ []) back (rw (append_assoc front (r ∷ []) back) h)),
    IsMaximal-first same r (record r { first = from }) back refl refl (IsMaximal-back same front (r ∷ back) h),
  )

  pub absorbed-first : (x : Range T) (rs : List (Range T)) → (absorbed same x rs).first ≡ x.first
  unfolding absorbed
  absorbed-first x [] = refl
  absorbed-first x (s ∷ rs) = elim (joins same x s) as (λ b. (cond b (record x { last = s.last }) x).first ≡ x.first) [ true ↦ refl | false ↦ refl ]

  pub IsWithin-absorbed : (w : ℕ) (front : List (Range T)) (x : Range T) (back : List (Range T)) → IsWithin w (front ++ x ∷ back) → IsWithin w (front ++ absorbed same x back ∷ unabsorbed same x back)
  IsWithin-absorbed w front x back h =
      IsWithin-edit w front x (absorbed same x back) back (unabsorbed same x back) (absorbed-first x back) (λ low high k. Rises-absorbed same low high x back k) h

  -- a range pushed after others lies within the window that it lay in after them
  IsWithin-pushed_after : (w : ℕ) (r : Range T) (rs : List (Range T)) (x : Range T) (ss : List (Range T)) → Rises r.first (r.first + w) (pushed_after same r rs x ++ ss) → IsWithin w (pushed_after same r rs x ++ ss)
  unfolding pushed_after IsWithin
  IsWithin-pushed_after w r [] x ss h =
      (elim (joins same r x) as (λ b. Rises r.first (r.first + w) (cond b (record r { last = x.last } ∷ []) (r ∷ x ∷ []) ++ ss) → IsWithin w (cond b (record r { last = x.last } ∷ []) (r ∷ x ∷ []) ++ ss)) [ true ↦ λ k. k | false ↦ λ k. k ]) h
  IsWithin-pushed_after w r (s ∷ rs) x ss h = h

  pub IsWithin-pushed : (w : ℕ) (rs : List (Range T)) (x : Range T) (ss : List (Range T)) → IsWithin w (rs ++ x ∷ ss) → IsWithin w (pushed same rs x ++ ss)
  IsWithin-pushed w [] x ss h = h
  IsWithin-pushed w (r ∷ rs) x ss h =
      IsWithin-pushed_after w r rs x ss (Rises-pushed same r.first (r.first + w) (r ∷ rs) x ss (unfold IsWithin in h))

  -- a range put between others, as part of them where it can be, lies between the bounds that it lay between
  pub KeepsBounds-put : (front : List (Range T)) (x : Range T) (back : List (Range T)) → KeepsBounds (front ++ x ∷ back) (pushed same front (absorbed same x back) ++ unabsorbed same x back)
  KeepsBounds-put front x back low high h =
      Rises-pushed same low high front (absorbed same x back) (unabsorbed same x back) (Rises-swap low high front (x ∷ back) (absorbed same x back ∷ unabsorbed same x back) (λ l u k. Rises-absorbed same l u x back k) h)

module _ {T : Type 0} (same : T → T → Bool) (only : (a b : T) → same a b ≡ true → a ≡ b) where
  -- and adds its offsets
  pub items_of-put : (w : ℕ) (front : List (Range T)) (x : Range T) (back : List (Range T)) → x.first ≤ x.last → EndsBelow x.first front → IsWithin w (front ++ x ∷ back) → items_of (pushed same front (absorbed same x back) ++ unabsorbed same x back) ≡ items_of (front ++ x ∷ back)
  unfolding Rises
  items_of-put w front x back order ends room =
      let b = bounds w (front ++ x ∷ back) room in
      let above = Rises-middle b.low b.high front x back b.rises in
      let y = absorbed same x back in
      let y_order : y.first ≤ y.last = (Rises-absorbed same x.first b.high x back (omega arith, above.1, above.2, above.3)).1 in
      let y_first : y.first ≡ x.first = absorbed-first same x back in
      let low_part = Rises-below x.first b.low b.high front ends (Rises-front b.low b.high front (x ∷ back) b.rises) in
      items_of-append (pushed same front y) (unabsorbed same x back)
      ∙ ap (λ xs. xs ++ items_of (unabsorbed same x back)) (items_of-pushed same only b.low front y (rw y_first low_part) y_order)
      ∙ append_assoc (items_of front) (items_of_range y) (items_of (unabsorbed same x back))
      ∙ ap (λ xs. items_of front ++ xs) (items_of-absorbed same only b.high x back above.3 order ∙ sym (items_of-cons x back))
      ∙ sym (items_of-append front (x ∷ back))
