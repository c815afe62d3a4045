-- What a search along the links finds.
use Rattle.std.proofs.Common.{◌≡◌, ℕ, zero, suc, ◌+◌, ◌<◌, ◌≤◌, true, false, cond, eqb, List, [], ◌∷◌, ◌++◌, length, refl, sym, ap, subst, ◌∙◌, arith, append_assoc, ◌⊎◌, inl, inr}
use Rattle.std.proofs.lemmas.Bool.{eq-eqb}
use Rattle.udt_ranges.specs.declared.range.Range.{Range}
use Rattle.udt_ranges.specs.declared.links.Place.{Place}
use Rattle.udt_ranges.specs.Ranges.{Rises, IsBelow, IsFrom}
use Rattle.udt_ranges.specs.Cursors.{begins_at, through, beyond}
use Rattle.udt_ranges.specs.Chains.{place_at, range_at, walk, last_first, IsChain}
use Rattle.udt_ranges.proofs.RisingLemmas.{Rises-middle}
use Rattle.udt_ranges.proofs.CursorLemmas.{split_at}
use Rattle.udt_ranges.proofs.ChainLemmas.{LeadsTo, IsLinked-from, length-walk}
use Rattle.udt_ranges.proofs.StepLemmas.{links_are, rises_are, tail_was, last_first-least, begins_at-middle}

module _ {T : Type 0} where
  -- ranges up to one that begins before an offset begin before it
  pub IsBelow-through : (offset low high : ℕ) (front : List (Range T)) (here : Range T) (back : List (Range T)) → Rises low high (front ++ here ∷ back) → here.first < offset → IsBelow offset (front ++ here ∷ [])
  unfolding IsBelow Rises
  IsBelow-through offset low high [] here back h below = (below, tt)
  IsBelow-through offset low high (f ∷ front) here back h below =
      let m = Rises-middle (f.last + 1) high front here back h.3 in
      (omega (arith, m.0), IsBelow-through offset (f.last + 1) high front here back h.3 below)

  -- rising ranges begin no earlier than their bound
  pub IsFrom-Rises : (offset low high : ℕ) (rs : List (Range T)) → Rises low high rs → offset ≤ low → IsFrom offset rs
  unfolding IsFrom Rises
  IsFrom-Rises offset low high [] h le = tt
  IsFrom-Rises offset low high (r ∷ rs) h le = (omega arith, IsFrom-Rises offset (r.last + 1) high rs h.3 (omega arith))

module _ {T : Type 0} (blank : T) where
  module _ (places : List (Place T)) (head tail hint count : ℕ) (chain : IsChain blank places head tail hint count) where
    -- no range begins before the first one
    pub from_head : (offset : ℕ) → offset ≤ head → IsFrom offset (walk blank places count head)
    from_head offset le = IsFrom-Rises offset head (head + length places) (walk blank places count head) chain.rises le

    pub from_none : (offset : ℕ) → count ≡ 0 → IsFrom offset (walk blank places count head)
    unfolding walk IsFrom
    from_none offset none = rw none tt

    -- the first range begins at the head
    pub head_begins : (count ≡ 0 → ⊥) → begins_at head (walk blank places count head) ≡ true
    unfolding walk begins_at range_at
    head_begins some =
        (elim count as (λ n. (n ≡ 0 → ⊥) → begins_at head (walk blank places n head) ≡ true) [
          | zero ↦ λ some. absurd (some refl)
          | suc n ↦ λ some. rw (eq-eqb head head refl) refl
        ]) some

    -- the last one at the tail
    tail_split : (rs : List (Range T)) (first : ℕ) → 0 < length rs → begins_at (last_first first rs) rs ≡ true
    unfolding last_first begins_at
    tail_split [] first some = absurd (omega arith)
    tail_split (r ∷ []) first some = rw (eq-eqb r.first r.first refl) refl
    tail_split (r ∷ s ∷ rs) first some =
        elim (eqb r.first (last_first s.first rs)) as (λ b. cond b true (begins_at (last_first s.first rs) (s ∷ rs)) ≡ true) [
          | true ↦ refl
          | false ↦ tail_split (s ∷ rs) r.first (omega arith)
        ]

    pub tail_begins : (count ≡ 0 → ⊥) → begins_at tail (walk blank places count head) ≡ true
    tail_begins some =
        subst (λ t. begins_at t (walk blank places count head) ≡ true) (chain.tail_is (omega arith)) (tail_split (walk blank places count head) head (omega (arith, length-walk blank places count head)))

    module _ (at : ℕ) (begins : begins_at at (walk blank places count head) ≡ true) where
      next_split : (front : List (Range T)) (here : Range T) (back : List (Range T)) → walk blank places count head ≡ front ++ here ∷ back → here.first ≡ at → (at ≡ tail → ⊥) → (begins_at (place_at blank places at).next (walk blank places count head) ≡ true) × (at < (place_at blank places at).next)
      unfolding last_first LeadsTo Rises
      next_split front here [] is first more =
          absurd (more (sym first ∙ tail_was blank places head tail hint count chain front here [] is))
      next_split front here (r ∷ back) is first more =
          let links = links_are blank places head tail hint count chain front here (r ∷ back) is in
          let rises = rises_are blank places head tail hint count chain front here (r ∷ back) is in
          let middle = Rises-middle head (head + length places) front here (r ∷ back) rises in
          let next : (place_at blank places at).next ≡ r.first = ap (λ f. (place_at blank places f).next) (sym first) ∙ (IsLinked-from blank places front here (r ∷ back) links).1 in
          let there : begins_at r.first (walk blank places count head) ≡ true = rw is (rw (append_assoc front (here ∷ []) (r ∷ back)) at (begins_at-middle r.first (front ++ here ∷ []) r back refl)) in
          (rw next there, omega (arith, middle.1, middle.3.0))

      -- a place that is not the tail leads to a later range
      pub leads_on : (at ≡ tail → ⊥) → (begins_at (place_at blank places at).next (walk blank places count head) ≡ true) × (at < (place_at blank places at).next)
      leads_on more =
          let s = split_at at (walk blank places count head) begins in
          next_split s.front s.here s.back s.is s.first more

      below_split : (offset : ℕ) (front : List (Range T)) (here : Range T) (back through : List (Range T)) → walk blank places count head ≡ front ++ here ∷ back → here.first ≡ at → through ≡ front ++ here ∷ [] → at < offset → IsBelow offset through
      below_split offset front here back through is first through_is below =
          rw through_is (IsBelow-through offset head (head + length places) front here back (rises_are blank places head tail hint count chain front here back is) (omega arith))

      -- the ranges up to one that begins before the offset
      pub below_through : (offset : ℕ) → at < offset → IsBelow offset (through at (walk blank places count head))
      below_through offset below =
          let s = split_at at (walk blank places count head) begins in
          below_split offset s.front s.here s.back _ s.is s.first s.through_is below

      beyond_split : (offset : ℕ) (front : List (Range T)) (here : Range T) (back beyond : List (Range T)) → walk blank places count head ≡ front ++ here ∷ back → here.first ≡ at → beyond ≡ back → (at ≡ tail) ⊎ ((at ≡ tail → ⊥) × (offset ≤ (place_at blank places at).next)) → IsFrom offset beyond
      unfolding IsFrom last_first LeadsTo Rises
      beyond_split offset front here [] beyond is first beyond_is next = rw beyond_is tt
      beyond_split offset front here (r ∷ back) beyond is first beyond_is next =
          let links = links_are blank places head tail hint count chain front here (r ∷ back) is in
          let rises = rises_are blank places head tail hint count chain front here (r ∷ back) is in
          let middle = Rises-middle head (head + length places) front here (r ∷ back) rises in
          let leads : (place_at blank places at).next ≡ r.first = ap (λ f. (place_at blank places f).next) (sym first) ∙ (IsLinked-from blank places front here (r ∷ back) links).1 in
          let was = tail_was blank places head tail hint count chain front here (r ∷ back) is in
          let least = last_first-least r.first (r.last + 1) (head + length places) back middle.3.3 (omega (arith, middle.3.1)) in
          let later : offset ≤ r.first = elim next [ inl last ↦ absurd (omega (arith, middle.1, middle.3.0)) | inr h ↦ omega (arith, h.1) ] in
          subst (IsFrom offset) (sym beyond_is) (later, IsFrom-Rises offset (r.last + 1) (head + length places) back middle.3.3 (omega (arith, middle.3.1)))

      -- the ranges after one whose place leads no lower than the offset, or after the tail
      pub from_beyond : (offset : ℕ) → (at ≡ tail) ⊎ ((at ≡ tail → ⊥) × (offset ≤ (place_at blank places at).next)) → IsFrom offset (beyond at (walk blank places count head))
      from_beyond offset next =
          let s = split_at at (walk blank places count head) begins in
          beyond_split offset s.front s.here s.back _ s.is s.first s.beyond_is next
