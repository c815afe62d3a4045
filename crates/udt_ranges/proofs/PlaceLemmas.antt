-- Places in a list of ranges, and the lists before and after them.
use Rattle.std.proofs.Common.{◌≡◌, ℕ, ◌+◌, true, List, [], ◌∷◌, ◌++◌, refl, sym, ap, subst, ◌∙◌, arith, append_assoc, drop, Option, Some, None}
use Rattle.std.proofs.lemmas.List.{same_from_push}
use Rattle.udt_ranges.specs.declared.range.Range.{Range}
use Rattle.udt_ranges.specs.Ranges.{Rises, IsWithin}
use Rattle.udt_ranges.specs.Cursors.{begins_at, ahead, through, beyond, first_of, head_of, IsCursor, before, following}
use Rattle.udt_ranges.proofs.RisingLemmas.{Rises-without, Rises-back}
use Rattle.udt_ranges.proofs.StepLemmas.{IsWithin-above}
use Rattle.udt_ranges.proofs.CursorLemmas.{split_at, is_split}

module _ {T : Type 0} where
  -- ranges within a window rise from some offset to another
  pub record Bounds (rs : List (Range T)) : Type 0 where
    pub low : ℕ
    pub high : ℕ
    pub rises : Rises low high rs

  pub bounds : (w : ℕ) (rs : List (Range T)) → IsWithin w rs → Bounds rs
  unfolding IsWithin Rises
  bounds w [] h = record { low = 0; high = 0; rises = tt }
  bounds w (r ∷ rs) h = record { low = r.first; high = r.first + w; rises = h }

  -- a place keeps what is before it, whatever is put after it
  pub record Kept (cursor : Option ℕ) (rs back : List (Range T)) : Type 0 where
    pub cursor_is : IsCursor cursor (before cursor rs ++ back)
    pub before_is : before cursor (before cursor rs ++ back) ≡ before cursor rs
    pub following_is : following cursor (before cursor rs ++ back) ≡ back

  kept_split : (at low high : ℕ) (rs back front : List (Range T)) (here : Range T) → here.first ≡ at → through at rs ≡ front ++ here ∷ [] → Rises low high (through at rs ++ back) → Kept (Some at) rs back
  kept_split at low high rs back front here first is rises =
      let e : through at rs ++ back ≡ front ++ here ∷ back = rw is (append_assoc front (here ∷ []) back) in
      let s = is_split at low high front here back first (rw e at rises) in
      record {
        cursor_is = rw e s.begins;
        before_is = rw (e, is) s.through_is;
        following_is = rw e s.beyond_is;
      }

  pub kept : (w : ℕ) (cursor : Option ℕ) (rs back : List (Range T)) → IsCursor cursor rs → IsWithin w (before cursor rs ++ back) → Kept cursor rs back
  kept w None rs back h within = record { cursor_is = tt; before_is = refl; following_is = refl }
  kept w (Some at) rs back h within =
      let s = split_at at rs h in
      let b = bounds w (through at rs ++ back) within in
      kept_split at b.low b.high rs back s.front s.here s.first s.through_is b.rises

  -- without its first range, what is after a place still lies within the window
  pub IsWithin-without : (w : ℕ) (front : List (Range T)) (x : Range T) (back : List (Range T)) → IsWithin w (front ++ x ∷ back) → IsWithin w (front ++ back)
  unfolding IsWithin Rises
  IsWithin-without w [] x back h = IsWithin-above (x.last + 1) (x.first + w) w back (omega arith) h.3
  IsWithin-without w (f ∷ front) x back h = (h.0, h.1, h.2, Rises-without (f.last + 1) (f.first + w) front x back h.3)

  pub IsWithin-drop : (w : ℕ) (front back : List (Range T)) → IsWithin w (front ++ back) → IsWithin w (front ++ drop 1 back)
  IsWithin-drop w front [] h = h
  IsWithin-drop w front (x ∷ back) h = IsWithin-without w front x back h

  -- a list is what is before a place and what is after it
  whole_split : (rs through beyond front : List (Range T)) (here : Range T) (back : List (Range T)) → rs ≡ front ++ here ∷ back → through ≡ front ++ here ∷ [] → beyond ≡ back → through ++ beyond ≡ rs
  whole_split rs through beyond front here back is through_is beyond_is =
      rw (is, through_is, beyond_is) (append_assoc front (here ∷ []) back)

  pub whole : (cursor : Option ℕ) (rs : List (Range T)) → IsCursor cursor rs → before cursor rs ++ following cursor rs ≡ rs
  whole None rs h = refl
  whole (Some at) rs h =
      let s = split_at at rs h in
      whole_split rs _ _ s.front s.here s.back s.is s.through_is s.beyond_is

  -- the range after a place is the one that begins there
  pub record Found (next : ℕ) (rs back : List (Range T)) : Type 0 where
    pub begins : begins_at next rs ≡ true
    pub is : (r : Range T) → through next rs ≡ ahead next rs ++ r ∷ [] → Some r ≡ head_of back

  found_split : (w : ℕ) (rs front back : List (Range T)) (next : ℕ) → front ++ back ≡ rs → IsWithin w rs → Some next ≡ first_of back → Found next rs back
  found_split w rs front [] next is within first = absurd (cc)
  found_split w rs front (r ∷ back) next is within first =
      let same : next ≡ r.first = cc in
      let b = bounds w (front ++ r ∷ back) (rw is within) in
      let s = is_split next b.low b.high front r back (sym same) b.rises in
      record {
        begins = rw (← is) s.begins;
        is = λ q read.
            let e : front ++ r ∷ [] ≡ front ++ q ∷ [] = sym s.through_is ∙ ap (through next) is ∙ read ∙ ap (λ xs. ahead next xs ++ q ∷ []) (sym is) ∙ ap (λ xs. xs ++ q ∷ []) s.ahead_is in
            ap Some (sym (same_from_push front front r q e).1);
      }

  pub found : (w : ℕ) (cursor : Option ℕ) (rs : List (Range T)) (next : ℕ) → IsCursor cursor rs → IsWithin w rs → Some next ≡ first_of (following cursor rs) → Found next rs (following cursor rs)
  found w cursor rs next h within first = found_split w rs (before cursor rs) (following cursor rs) next (whole cursor rs h) within first

  -- a list by its first range
  pub head_none : (rs : List (Range T)) → ◌≡◌ {A = Option (Range T)} None (head_of rs) → rs ≡ []
  head_none [] h = refl
  head_none (r ∷ rs) h = absurd (cc)

  pub head_some : (rs : List (Range T)) (r : Range T) → Some r ≡ head_of rs → rs ≡ r ∷ drop 1 rs
  head_some [] r h = absurd (cc)
  head_some (s ∷ rs) r h = let e : r ≡ s = cc in ap (λ q. q ∷ rs) (sym e)

  -- the range after a place, and the list around it
  pub record NextIs (w : ℕ) (cursor : Option ℕ) (r : Range T) (rs : List (Range T)) : Type 0 where
    pub following_is : following cursor rs ≡ r ∷ drop 1 (following cursor rs)
    pub within : IsWithin w (before cursor rs ++ r ∷ drop 1 (following cursor rs))

  pub next_is : (w : ℕ) (cursor : Option ℕ) (r : Range T) (rs : List (Range T)) → IsCursor cursor rs → IsWithin w rs → Some r ≡ head_of (following cursor rs) → NextIs w cursor r rs
  next_is w cursor r rs h within read =
      let following_is : following cursor rs ≡ r ∷ drop 1 (following cursor rs) = head_some (following cursor rs) r read in
      record {
        following_is = following_is;
        within = subst (IsWithin w) (sym (whole cursor rs h) ∙ ap (λ xs. before cursor rs ++ xs) following_is) within;
      }

  -- what is after a place rises too
  pub bounds_after : (w : ℕ) (cursor : Option ℕ) (rs : List (Range T)) → IsCursor cursor rs → IsWithin w rs → Bounds (following cursor rs)
  bounds_after w cursor rs h within =
      let b = bounds w rs within in
      let all = subst (Rises b.low b.high) (sym (whole cursor rs h)) b.rises in
      record { low = b.low; high = b.high; rises = Rises-back b.low b.high (before cursor rs) (following cursor rs) all }
