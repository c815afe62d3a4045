-- Links in the ring of places, and the lists of ranges that they lead through.
use Rattle.std.proofs.Common.{◌≡◌, ◌≢◌, ℕ, zero, suc, ◌+◌, ◌<◌, ◌≤◌, ◌%◌, List, [], ◌∷◌, ◌++◌, length, set, refl, sym, ap, ◌∙◌, arith, length-set, append_assoc, subst}
use Rattle.std.proofs.lemmas.List.{get_or-set_same, get_or-set_other}
use Rattle.std.proofs.Math.Nat.{mod-lt}
use Rattle.udt_ranges.specs.declared.range.Range.{Range}
use Rattle.udt_ranges.specs.declared.links.Place.{Place}
use Rattle.udt_ranges.specs.Ranges.{Rises}
use Rattle.udt_ranges.specs.Chains.{place_at, range_at, walk}
use Rattle.udt_ranges.proofs.RisingLemmas.{NotAt, NotAt-above, mod_apart, Rises-middle}

module _ {T : Type 0} where
  -- the ring once something was written to the place of an offset
  abbrev pub put_at : List (Place T) → ℕ → Place T → List (Place T)
  put_at places offset place = set places (offset % length places) place

  -- the range that a place holds, where it is that of this first offset
  abbrev pub held : ℕ → Place T → Range T
  held first place = record { first = first; last = place.last; tag = place.tag }

  -- the place leads to the first of these ranges
  unfoldable pub LeadsTo : Place T → List (Range T) → Type 0
  LeadsTo place [] = Unit {0}
  LeadsTo place (r ∷ rs) = place.next ≡ r.first

  LeadsTo-middle : (place : Place T) (front : List (Range T)) (p q : Range T) (old new : List (Range T)) → p.first ≡ q.first → LeadsTo place (front ++ p ∷ old) → LeadsTo place (front ++ q ∷ new)
  unfolding LeadsTo
  LeadsTo-middle place [] p q old new same h = h ∙ same
  LeadsTo-middle place (f ∷ front) p q old new same h = h

  -- the ranges begin with this one
  unfoldable pub StartsAt : ℕ → List (Range T) → Type 0
  StartsAt first [] = Unit {0}
  StartsAt first (r ∷ rs) = r.first ≡ first

  pub StartsAt-next : (place : Place T) (rs : List (Range T)) → LeadsTo place rs → StartsAt place.next rs
  unfolding LeadsTo StartsAt
  StartsAt-next place [] h = tt
  StartsAt-next place (r ∷ rs) h = sym h

  -- only the link of a place counts for where it leads
  pub LeadsTo-next : (p q : Place T) (rs : List (Range T)) → q.next ≡ p.next → LeadsTo p rs → LeadsTo q rs
  unfolding LeadsTo
  LeadsTo-next p q [] same h = tt
  LeadsTo-next p q (r ∷ rs) same h = same ∙ h

  -- the other ranges lie at other places than one in the middle
  pub NotAt-insert : (w low high : ℕ) (front : List (Range T)) (x : Range T) (back : List (Range T)) → high ≤ low + w → Rises low high (front ++ x ∷ back) → NotAt w (x.first % w) (front ++ back)
  unfolding NotAt Rises
  NotAt-insert w low high [] x back within h = NotAt-above w x.first (x.last + 1) high back h.3 (omega arith) (omega arith)
  NotAt-insert w low high (f ∷ front) x back within h =
      let m = Rises-middle (f.last + 1) high front x back h.3 in (
        λ same. mod_apart f.first x.first w (omega (arith, m.0)) (omega (arith, m.1, m.2)) same,
        NotAt-insert w (f.last + 1) high front x back (omega arith) h.3,
      )

module _ {T : Type 0} (blank : T) where
  -- each range lies at its place, which leads to the next one
  unfoldable pub IsLinked : List (Place T) → List (Range T) → Type 0
  IsLinked places [] = Unit {0}
  IsLinked places (r ∷ rs) = (range_at blank places r.first ≡ r) × LeadsTo (place_at blank places r.first) rs × IsLinked places rs

  pub place_at-same : (places : List (Place T)) (offset : ℕ) (place : Place T) → 0 < length places → place_at blank (put_at places offset place) offset ≡ place
  unfolding place_at
  place_at-same places offset place some =
      rw (length-set places (offset % length places) place) (get_or-set_same places (offset % length places) place _ (mod-lt offset some))

  pub place_at-other : (places : List (Place T)) (offset other : ℕ) (place : Place T) → other % length places ≢ offset % length places → place_at blank (put_at places offset place) other ≡ place_at blank places other
  unfolding place_at
  place_at-other places offset other place apart =
      rw (length-set places (offset % length places) place) (get_or-set_other places (offset % length places) (other % length places) place _ apart)

  -- what is written to another place leaves the links
  pub IsLinked-other : (places : List (Place T)) (offset : ℕ) (place : Place T) (rs : List (Range T)) → NotAt (length places) (offset % length places) rs → IsLinked places rs → IsLinked (put_at places offset place) rs
  unfolding IsLinked NotAt range_at
  IsLinked-other places offset place [] apart h = tt
  IsLinked-other places offset place (r ∷ rs) apart h =
      let e = place_at-other places offset r.first place apart.0 in
      (rw e h.0, rw e h.1, IsLinked-other places offset place rs apart.1 h.2)

  -- a range put before others
  pub IsLinked-cons : (places : List (Place T)) (first : ℕ) (place : Place T) (rs : List (Range T)) → 0 < length places → NotAt (length places) (first % length places) rs → LeadsTo place rs → IsLinked places rs → IsLinked (put_at places first place) (held first place ∷ rs)
  unfolding IsLinked range_at
  IsLinked-cons places first place rs some apart leads h =
      let e = place_at-same places first place some in
      (rw e refl, rw e leads, IsLinked-other places first place rs apart h)

  -- another range in place of one in the middle, with other ranges after it
  pub IsLinked-middle : (places : List (Place T)) (low high : ℕ) (front : List (Range T)) (p : Range T) (old new : List (Range T)) (place : Place T) → 0 < length places → high ≤ low + length places → Rises low high (front ++ held p.first place ∷ new) → LeadsTo place new → IsLinked places new → IsLinked places (front ++ p ∷ old) → IsLinked (put_at places p.first place) (front ++ held p.first place ∷ new)
  unfolding IsLinked Rises range_at
  IsLinked-middle places low high [] p old new place some within rises leads linked h =
      IsLinked-cons places p.first place new some (NotAt-above (length places) p.first (place.last + 1) high new rises.3 (omega arith) (omega arith)) leads linked
  IsLinked-middle places low high (f ∷ front) p old new place some within rises leads linked h =
      let m = Rises-middle (f.last + 1) high front (held p.first place) new rises.3 in
      let apart : f.first % length places ≢ p.first % length places = λ same. mod_apart f.first p.first (length places) (omega (arith, m.0)) (omega (arith, m.1, m.2)) same in
      let e = place_at-other places p.first f.first place apart in (
        rw e h.0,
        rw e (LeadsTo-middle (place_at blank places f.first) front p (held p.first place) old new refl h.1),
        IsLinked-middle places (f.last + 1) high front p old new place some (omega arith) rises.3 leads linked h.2,
      )

  -- the links after a range
  pub IsLinked-from : (places : List (Place T)) (front : List (Range T)) (r : Range T) (back : List (Range T)) → IsLinked places (front ++ r ∷ back) → (range_at blank places r.first ≡ r) × LeadsTo (place_at blank places r.first) back × IsLinked places back
  unfolding IsLinked
  IsLinked-from places [] r back h = h
  IsLinked-from places (f ∷ front) r back h = IsLinked-from places front r back h.2

  -- a walk goes along links
  pub LeadsTo-walk : (places : List (Place T)) (n : ℕ) (place : Place T) → LeadsTo place (walk blank places n place.next)
  unfolding LeadsTo walk range_at
  LeadsTo-walk places zero place = tt
  LeadsTo-walk places (suc n) place = refl

  pub IsLinked-walk : (places : List (Place T)) (n first : ℕ) → IsLinked places (walk blank places n first)
  unfolding IsLinked walk range_at
  IsLinked-walk places zero first = tt
  IsLinked-walk places (suc n) first =
      (refl, LeadsTo-walk places n (place_at blank places first), IsLinked-walk places n (place_at blank places first).next)

  -- and links are what a walk goes along
  pub walk-IsLinked : (places : List (Place T)) (first : ℕ) (rs : List (Range T)) → StartsAt first rs → IsLinked places rs → walk blank places (length rs) first ≡ rs
  unfolding IsLinked walk StartsAt
  walk-IsLinked places first [] starts h = refl
  walk-IsLinked places first (r ∷ rs) starts h =
      let rest = walk-IsLinked places (place_at blank places r.first).next rs (StartsAt-next (place_at blank places r.first) rs h.1) h.2 in
      rw (← starts) (rw (h.0, rest))

  pub length-walk : (places : List (Place T)) (n first : ℕ) → length (walk blank places n first) ≡ n
  unfolding walk
  length-walk places zero first = refl
  length-walk places (suc n) first = ap suc (length-walk places n (place_at blank places first).next)

  pub StartsAt-walk : (places : List (Place T)) (n first : ℕ) → StartsAt first (walk blank places n first)
  unfolding StartsAt walk range_at
  StartsAt-walk places zero first = tt
  StartsAt-walk places (suc n) first = refl

  module _ (places : List (Place T)) (head : ℕ) (some : 0 < length places) where
    -- a range put after another one
    pub linked_after : (front : List (Range T)) (here : Range T) (back : List (Range T)) (x : Range T) (px pp : Place T) → IsLinked places (front ++ here ∷ back) → Rises head (head + length places) (front ++ here ∷ x ∷ back) → held x.first px ≡ x → px.next ≡ (place_at blank places here.first).next → held here.first pp ≡ here → pp.next ≡ x.first → IsLinked (put_at (put_at places x.first px) here.first pp) (front ++ here ∷ x ∷ back)
    unfolding LeadsTo Rises
    linked_after front here back x px pp linked rises px_is px_next pp_is pp_next =
        let ps = put_at places x.first px in
        let long : length ps ≡ length places = length-set places (x.first % length places) px in
        let there = IsLinked-from places front here back linked in
        let far = Rises-middle head (head + length places) front here (x ∷ back) rises in
        let outer = IsLinked-other places x.first px (front ++ here ∷ back)
        (rw (append_assoc front (here ∷ []) back) at (NotAt-insert (length places) head (head + length places) (front ++ here ∷ []) x back (omega arith) (rw (append_assoc front (here ∷ []) (x ∷ back)) rises)))
        linked in
        let inner : IsLinked ps (x ∷ back) = subst (λ r. IsLinked ps (r ∷ back)) px_is
        (IsLinked-cons places x.first px back some (NotAt-above (length places) x.first (x.last + 1) (head + length places) back far.3.3 (omega (arith, far.3.1)) (omega (arith, far.0, far.1, far.3.0))) (LeadsTo-next (place_at blank places here.first) px back px_next there.1) there.2) in
        subst (λ r. IsLinked (put_at ps here.first pp) (front ++ r ∷ x ∷ back)) pp_is
        (IsLinked-middle ps head (head + length places) front here back (x ∷ back) pp (omega (arith, long)) (omega (arith, long)) (subst (λ r. Rises head (head + length places) (front ++ r ∷ x ∷ back)) (sym pp_is) rises) pp_next inner outer)

    -- a range in the middle taken out
    pub unlinked_after : (front : List (Range T)) (here x : Range T) (back : List (Range T)) (pp : Place T) → IsLinked places (front ++ here ∷ x ∷ back) → Rises head (head + length places) (front ++ here ∷ back) → held here.first pp ≡ here → pp.next ≡ (place_at blank places x.first).next → IsLinked (put_at places here.first pp) (front ++ here ∷ back)
    unlinked_after front here x back pp linked rises pp_is pp_next =
        let there = IsLinked-from places front here (x ∷ back) linked in
        let beyond = IsLinked-from places (front ++ here ∷ []) x back (rw (append_assoc front (here ∷ []) (x ∷ back)) linked) in
        subst (λ r. IsLinked (put_at places here.first pp) (front ++ r ∷ back)) pp_is
        (IsLinked-middle places head (head + length places) front here (x ∷ back) back pp some (omega arith) (subst (λ r. Rises head (head + length places) (front ++ r ∷ back)) (sym pp_is) rises) (LeadsTo-next (place_at blank places x.first) pp back pp_next beyond.1) beyond.2 linked)

    -- another range in the place of one
    pub relinked : (front : List (Range T)) (here x : Range T) (back : List (Range T)) (px : Place T) → IsLinked places (front ++ here ∷ back) → Rises head (head + length places) (front ++ x ∷ back) → here.first ≡ x.first → held x.first px ≡ x → px.next ≡ (place_at blank places x.first).next → IsLinked (put_at places x.first px) (front ++ x ∷ back)
    relinked front here x back px linked rises same px_is px_next =
        let there = IsLinked-from places front here back linked in
        let is_x : held here.first px ≡ x = ap (λ f. held f px) same ∙ px_is in
        let next : px.next ≡ (place_at blank places here.first).next = px_next ∙ ap (λ f. (place_at blank places f).next) (sym same) in
        let here_linked = IsLinked-middle places head (head + length places) front here back back px some (omega arith) (subst (λ r. Rises head (head + length places) (front ++ r ∷ back)) (sym is_x) rises) (LeadsTo-next (place_at blank places here.first) px back next there.1) there.2 linked in
        subst (λ f. IsLinked (put_at places f px) (front ++ x ∷ back)) same
        (subst (λ r. IsLinked (put_at places here.first px) (front ++ r ∷ back)) is_x here_linked)
