-- A list of ranges, split at one of them.
use Rattle.std.proofs.Common.{◌≡◌, ℕ, suc, length, length-append, ◌+◌, ◌≤◌, Bool, true, false, cond, eqb, List, [], ◌∷◌, ◌++◌, refl, ap, arith}
use Rattle.std.proofs.lemmas.Bool.{eqb-true, eq-eqb, ne_eqb, false≢true}
use Rattle.udt_ranges.specs.declared.range.Range.{Range}
use Rattle.udt_ranges.specs.Ranges.{Rises}
use Rattle.udt_ranges.specs.Cursors.{begins_at, ahead, through, beyond}
use Rattle.udt_ranges.proofs.RisingLemmas.{Rises-middle}

module _ {T : Type 0} where
  -- the ranges before the one that begins with an offset, that range, and those after it
  pub record Split (at : ℕ) (rs : List (Range T)) : Type 0 where
    pub front : List (Range T)
    pub here : Range T
    pub back : List (Range T)
    pub is : rs ≡ front ++ here ∷ back
    pub first : here.first ≡ at
    pub ahead_is : ahead at rs ≡ front
    pub through_is : through at rs ≡ front ++ here ∷ []
    pub beyond_is : beyond at rs ≡ back
    pub begins : begins_at at rs ≡ true

  -- where the first range begins with the offset, nothing is before it
  Split-here : (at : ℕ) (r : Range T) (rs : List (Range T)) → r.first ≡ at → Split at (r ∷ rs)
  unfolding begins_at ahead through beyond
  Split-here at r rs same =
      let e = eq-eqb r.first at same in
      record { front = []; here = r; back = rs; is = refl; first = same; ahead_is = rw e; through_is = rw e; beyond_is = rw e; begins = rw e }

  -- otherwise it lies further on
  Split-there : (at : ℕ) (r : Range T) (rs : List (Range T)) → eqb r.first at ≡ false → Split at rs → Split at (r ∷ rs)
  unfolding begins_at ahead through beyond
  Split-there at r rs e s =
      record {
        front = r ∷ s.front;
        here = s.here;
        back = s.back;
        is = ap (λ xs. r ∷ xs) s.is;
        first = s.first;
        ahead_is = rw e (ap (λ xs. r ∷ xs) s.ahead_is);
        through_is = rw e (ap (λ xs. r ∷ xs) s.through_is);
        beyond_is = rw e s.beyond_is;
        begins = rw e s.begins;
      }

  Split-test : (at : ℕ) (r : Range T) (rs : List (Range T)) → (b : Bool) → eqb r.first at ≡ b → (begins_at at rs ≡ true → Split at rs) → begins_at at (r ∷ rs) ≡ true → Split at (r ∷ rs)
  unfolding begins_at
  Split-test at r rs true e rest h = Split-here at r rs (eqb-true _ _ e)
  Split-test at r rs false e rest h = Split-there at r rs e (rest (rw e at h))

  -- a list with a range that begins with an offset is split there
  pub split_at : (at : ℕ) (rs : List (Range T)) → begins_at at rs ≡ true → Split at rs
  unfolding begins_at
  split_at at [] h = absurd (false≢true h)
  split_at at (r ∷ rs) h = Split-test at r rs (eqb r.first at) refl (split_at at rs) h

  -- in a rising list each range is the one that begins with its first offset
  pub record IsSplit (at : ℕ) (front : List (Range T)) (here : Range T) (back : List (Range T)) : Type 0 where
    pub ahead_is : ahead at (front ++ here ∷ back) ≡ front
    pub through_is : through at (front ++ here ∷ back) ≡ front ++ here ∷ []
    pub beyond_is : beyond at (front ++ here ∷ back) ≡ back
    pub begins : begins_at at (front ++ here ∷ back) ≡ true

  pub is_split : (at low high : ℕ) (front : List (Range T)) (here : Range T) (back : List (Range T)) → here.first ≡ at → Rises low high (front ++ here ∷ back) → IsSplit at front here back
  unfolding begins_at ahead through beyond Rises
  is_split at low high [] here back same h =
      let e = eq-eqb here.first at same in
      record { ahead_is = rw e; through_is = rw e; beyond_is = rw e; begins = rw e }
  is_split at low high (f ∷ front) here back same h =
      let rest = is_split at (f.last + 1) high front here back same h.3 in
      let m = Rises-middle (f.last + 1) high front here back h.3 in
      let e = ne_eqb f.first at (λ same'. omega (arith, m.0)) in
      record {
        ahead_is = rw e (ap (λ xs. f ∷ xs) rest.ahead_is);
        through_is = rw e (ap (λ xs. f ∷ xs) rest.through_is);
        beyond_is = rw e rest.beyond_is;
        begins = rw e rest.begins;
      }

  -- a range that begins somewhere in a list does so in a longer one
  begins_at-test : (at : ℕ) (r : Range T) (front back mid : List (Range T)) → (b : Bool) → eqb r.first at ≡ b → (begins_at at (front ++ back) ≡ true → begins_at at (front ++ mid ++ back) ≡ true) → begins_at at (r ∷ front ++ back) ≡ true → begins_at at (r ∷ front ++ mid ++ back) ≡ true
  unfolding begins_at
  begins_at-test at r front back mid true e rest h = rw e
  begins_at-test at r front back mid false e rest h = rw e (rest (rw e at h))

  pub begins_at-cons : (at : ℕ) (r : Range T) (rs : List (Range T)) → begins_at at rs ≡ true → begins_at at (r ∷ rs) ≡ true
  unfolding begins_at
  begins_at-cons at r rs h = elim (eqb r.first at) as (λ b. cond b true (begins_at at rs) ≡ true) [ true ↦ refl | false ↦ h ]

  pub begins_at-insert : (at : ℕ) (front : List (Range T)) (x : Range T) (back : List (Range T)) → begins_at at (front ++ back) ≡ true → begins_at at (front ++ x ∷ back) ≡ true
  unfolding begins_at
  begins_at-insert at [] x back h = begins_at-cons at x back h
  begins_at-insert at (f ∷ front) x back h =
      (elim (eqb f.first at) as (λ b. cond b true (begins_at at (front ++ back)) ≡ true → cond b true (begins_at at (front ++ x ∷ back)) ≡ true) [
        | true ↦ λ h. refl
        | false ↦ λ h. begins_at-insert at front x back h
      ]) h

  -- what is after a range is no longer than the whole, and one longer with one put before it
  pub length-beyond : (at : ℕ) (rs : List (Range T)) → length (beyond at rs) ≤ length rs
  unfolding beyond
  length-beyond at [] = omega arith
  length-beyond at (r ∷ rs) =
      elim (eqb r.first at) as (λ b. length (cond b rs (beyond at rs)) ≤ suc (length rs)) [ true ↦ omega arith | false ↦ omega (arith, length-beyond at rs) ]

  length-split : (x : Range T) (rs front : List (Range T)) (here : Range T) (back through beyond : List (Range T)) → rs ≡ front ++ here ∷ back → through ≡ front ++ here ∷ [] → beyond ≡ back → length (through ++ x ∷ beyond) ≡ suc (length rs)
  length-split x rs front here back through beyond is through_is beyond_is =
      rw (is, through_is, beyond_is) (omega (arith, length-append (front ++ here ∷ []) (x ∷ back), length-append front (here ∷ []), length-append front (here ∷ back)))

  pub length-insert : (at : ℕ) (x : Range T) (rs : List (Range T)) → begins_at at rs ≡ true → length (through at rs ++ x ∷ beyond at rs) ≡ suc (length rs)
  length-insert at x rs begins =
      let s = split_at at rs begins in
      length-split x rs s.front s.here s.back _ _ s.is s.through_is s.beyond_is
