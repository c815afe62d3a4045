-- Each step on the links keeps the chain, and does to the list of ranges what it says.
use Rattle.std.proofs.Common.{◌≡◌, ◌≢◌, ℕ, zero, suc, ◌+◌, ◌-◌, ◌<◌, ◌≤◌, ◌%◌, true, cond, eqb, List, [], ◌∷◌, ◌++◌, length, set, append_assoc, drop, refl, sym, ap, subst, ◌∙◌, arith, inl, inr, length-set, length-append, ◌⊎◌}
use Rattle.std.proofs.lemmas.Bool.{eq-eqb, ne_eqb, cases_eq, cond-true, cond-false}
use Rattle.udt_ranges.specs.declared.range.Range.{Range}
use Rattle.udt_ranges.specs.declared.links.Place.{Place}
use Rattle.udt_ranges.specs.Ranges.{Linked, Rises, IsWithin}
use Rattle.udt_ranges.specs.Cursors.{begins_at, ahead, through, beyond}
use Rattle.udt_ranges.specs.Chains.{place_at, range_at, walk, last_first, IsChain}
use Rattle.udt_ranges.proofs.RisingLemmas.{NotAt-above, Rises-middle, Rises-higher, Rises-without, length-Rises}
use Rattle.udt_ranges.proofs.CursorLemmas.{split_at, begins_at-insert, begins_at-cons}
use Rattle.udt_ranges.proofs.ChainLemmas.{put_at, LeadsTo, IsLinked, IsLinked-cons, IsLinked-from, IsLinked-walk, StartsAt, StartsAt-next, StartsAt-walk, LeadsTo-walk, walk-IsLinked, linked_after, unlinked_after, relinked, length-walk}

-- where the last of the ranges begins, once one was put before it
pub tail_is : (count first tail new : ℕ) → (new ≡ first) × (count ≡ 0) ⊎ (new ≡ tail) × (count ≢ 0) → new ≡ cond (eqb count 0) first tail
tail_is count first tail new (inl h) = rw (eq-eqb count 0 h.1) h.0
tail_is count first tail new (inr h) = rw (ne_eqb count 0 h.1) h.0

module _ {T : Type 0} where
  -- ranges within a window of the first rise from it
  pub Rises-IsWithin : (head w : ℕ) (rs : List (Range T)) → StartsAt head rs → IsWithin w rs → Rises head (head + w) rs
  unfolding IsWithin Rises StartsAt
  Rises-IsWithin head w [] starts h = tt
  Rises-IsWithin head w (r ∷ rs) starts h = rw (← starts) h

  pub IsWithin-Rises : (head w : ℕ) (rs : List (Range T)) → StartsAt head rs → Rises head (head + w) rs → IsWithin w rs
  unfolding IsWithin Rises StartsAt
  IsWithin-Rises head w [] starts h = tt
  IsWithin-Rises head w (r ∷ rs) starts h = (omega arith, h.1, omega arith, rw starts h.3)

  -- where the last range begins
  pub last_first-append : (d : ℕ) (front : List (Range T)) (p : Range T) (back : List (Range T)) → last_first d (front ++ p ∷ back) ≡ last_first p.first back
  unfolding last_first
  last_first-append d [] p back = refl
  last_first-append d (f ∷ front) p back = last_first-append f.first front p back

  pub last_first-least : (d low high : ℕ) (rs : List (Range T)) → Rises low high rs → d ≤ low → d ≤ last_first d rs
  unfolding last_first Rises
  last_first-least d low high [] h le = omega arith
  last_first-least d low high (r ∷ rs) h le =
      let rest = last_first-least r.first (r.last + 1) high rs h.3 (omega arith) in omega (arith, rest)

  pub last_first-moved : (a b low high : ℕ) (back : List (Range T)) → Rises low high back → a < low → last_first b back ≡ cond (eqb (last_first a back) a) b (last_first a back)
  unfolding last_first Rises
  last_first-moved a b low high [] h below = rw (eq-eqb a a refl)
  last_first-moved a b low high (r ∷ rs) h below =
      let least = last_first-least r.first (r.last + 1) high rs h.3 (omega arith) in
      rw (ne_eqb (last_first r.first rs) a (λ same. omega arith))

  pub last_first-any : (a b : ℕ) (rs : List (Range T)) → 0 < length rs → last_first a rs ≡ last_first b rs
  unfolding last_first
  last_first-any a b [] some = absurd (omega arith)
  last_first-any a b (r ∷ rs) some = refl

  -- ranges begin where those did that they were put after
  StartsAt-middle : (first : ℕ) (front : List (Range T)) (p q : Range T) (old new : List (Range T)) → p.first ≡ q.first → StartsAt first (front ++ p ∷ old) → StartsAt first (front ++ q ∷ new)
  unfolding StartsAt
  StartsAt-middle first [] p q old new same h = sym same ∙ h
  StartsAt-middle first (f ∷ front) p q old new same h = h

  -- a range begins where it begins
  pub begins_at-middle : (at : ℕ) (front : List (Range T)) (here : Range T) (back : List (Range T)) → here.first ≡ at → begins_at at (front ++ here ∷ back) ≡ true
  unfolding begins_at
  begins_at-middle at [] here back same = rw (eq-eqb here.first at same) refl
  begins_at-middle at (f ∷ front) here back same = begins_at-cons at f (front ++ here ∷ back) (begins_at-middle at front here back same)

  -- another end changes no beginning
  begins_at-rewrite : (at : ℕ) (front : List (Range T)) (p q : Range T) (back : List (Range T)) → p.first ≡ q.first → begins_at at (front ++ p ∷ back) ≡ begins_at at (front ++ q ∷ back)
  unfolding begins_at
  begins_at-rewrite at [] p q back same = rw same refl
  begins_at-rewrite at (f ∷ front) p q back same = ap (cond (eqb f.first at) true) (begins_at-rewrite at front p q back same)

  -- ranges that rise within a window lie within one of the first
  pub IsWithin-above : (low high w : ℕ) (rs : List (Range T)) → high ≤ low + w → Rises low high rs → IsWithin w rs
  unfolding IsWithin Rises
  IsWithin-above low high w [] le h = tt
  IsWithin-above low high w (r ∷ rs) le h = (omega arith, h.1, omega arith, Rises-higher (r.last + 1) high (r.first + w) rs (omega arith) h.3)

  -- a hint that led to the first range leads to the next
  front_hint : (hint head next : ℕ) (x : Range T) (back : List (Range T)) → x.first ≡ head → StartsAt next back → 0 < length back → begins_at hint (x ∷ back) ≡ true → begins_at (cond (eqb hint head) next hint) back ≡ true
  unfolding begins_at StartsAt
  front_hint hint head next x [] first starts some h = absurd (omega arith)
  front_hint hint head next x (r ∷ back) first starts some h =
      elim (cases_eq hint head) [
        | inl same ↦ subst (λ at. begins_at at (r ∷ back) ≡ true) (sym (cond-true (eqb hint head) next hint (eq-eqb hint head same))) (begins_at-middle next [] r back starts)
        | inr differs ↦ subst (λ at. begins_at at (r ∷ back) ≡ true) (sym (cond-false (eqb hint head) next hint (ne_eqb hint head differs))) (rw (ne_eqb x.first hint (λ same. differs (sym same ∙ first))) at h)
      ]

  -- ranges within a window are no more than the offsets of the window
  pub length-IsWithin : (w : ℕ) (rs : List (Range T)) → IsWithin w rs → length rs ≤ w
  unfolding IsWithin
  length-IsWithin w [] h = omega arith
  length-IsWithin w (r ∷ rs) h = omega (arith, length-Rises r.first (r.first + w) (r ∷ rs) h)

  -- a window that has ranges has places
  pub window-some : (w : ℕ) (front : List (Range T)) (r : Range T) (back : List (Range T)) → IsWithin w (front ++ r ∷ back) → 0 < w
  unfolding IsWithin Rises
  window-some w [] r back h = omega arith
  window-some w (f ∷ front) r back h = omega arith

  -- what is seen of places and links
  pub seen_as : (w v : ℕ) (rs ss : List (Range T)) → w ≡ v → rs ≡ ss → ◌≡◌ {A = Linked T} (record { window = w; ranges = rs }) (record { window = v; ranges = ss })
  seen_as w v rs ss same equal = rw (same, equal) refl

module _ {T : Type 0} (blank : T) where
  -- the chain holds, and its ranges are these
  pub record Chained (places : List (Place T)) (head tail hint count : ℕ) (rs : List (Range T)) : Type 0 where
    pub walks : walk blank places count head ≡ rs
    pub chain : IsChain blank places head tail hint count

  -- a list that is linked is a chain
  pub chained : (places : List (Place T)) (head tail hint count : ℕ) (rs : List (Range T)) → IsLinked blank places rs → StartsAt head rs → length rs ≡ count → IsWithin (length places) rs → (0 < count → last_first head rs ≡ tail) → (0 < count → begins_at hint rs ≡ true) → Chained places head tail hint count rs
  chained places head tail hint count rs linked starts long within tail_is hint_is =
      let walks : walk blank places count head ≡ rs = rw (← long) (walk-IsLinked blank places head rs starts linked) in
      record {
        walks = walks;
        chain = record {
          rises = rw walks (Rises-IsWithin head (length places) rs starts within);
          tail_is = λ some. rw walks (tail_is some);
          hint_is = λ some. rw walks (hint_is some);
        };
      }

  -- a range before all others is the last where there is no other
  front_tail : (places : List (Place T)) (head tail x n : ℕ) → (0 < n → last_first head (walk blank places n head) ≡ tail) → last_first x (walk blank places n head) ≡ cond (eqb n 0) x tail
  unfolding last_first walk
  front_tail places head tail x zero tail_is = refl
  front_tail places head tail x (suc n) tail_is = rw (ne_eqb (suc n) 0 (λ same. omega arith)) (tail_is (omega arith))

  module _ (places : List (Place T)) (head tail hint count : ℕ) (chain : IsChain blank places head tail hint count) where
    -- a range before all others
    pub front_linked : (x : Range T) → 0 < length places → IsWithin (length places) (x ∷ walk blank places count head) → Chained (put_at places x.first (record { last = x.last; next = head; tag = x.tag })) x.first (cond (eqb count 0) x.first tail) x.first (count + 1) (x ∷ walk blank places count head)
    unfolding LeadsTo StartsAt IsWithin Rises begins_at last_first
    front_linked x some within =
        let rs = walk blank places count head in
        let place : Place T = record { last = x.last; next = head; tag = x.tag } in
        chained _ _ _ _ _ _
        (IsLinked-cons blank places x.first place rs some (NotAt-above (length places) x.first (x.last + 1) (x.first + length places) rs within.3 (omega arith) (omega arith)) (LeadsTo-walk blank places count place) (IsLinked-walk blank places count head))
        refl
        (omega (arith, length-walk blank places count head))
        (rw (length-set places (x.first % length places) place) within)
        (λ _. front_tail places head tail x.first count chain.tail_is)
        (λ _. rw (eq-eqb x.first x.first refl) refl)

    module _ (front : List (Range T)) (here : Range T) (back : List (Range T)) (is : walk blank places count head ≡ front ++ here ∷ back) where
      pub links_are : IsLinked blank places (front ++ here ∷ back)
      links_are = rw (← is) (IsLinked-walk blank places count head)

      pub starts_are : StartsAt head (front ++ here ∷ back)
      starts_are = rw (← is) (StartsAt-walk blank places count head)

      pub rises_are : Rises head (head + length places) (front ++ here ∷ back)
      rises_are = rw (← is) chain.rises

      pub count_is : length (front ++ here ∷ back) ≡ count
      count_is = sym (ap length is) ∙ length-walk blank places count head

      pub tail_was : last_first here.first back ≡ tail
      tail_was =
          sym (last_first-append head front here back) ∙ ap (last_first head) (sym is) ∙ chain.tail_is (omega (arith, count_is, length-append front (here ∷ back)))

      pub hint_was : begins_at hint (front ++ here ∷ back) ≡ true
      hint_was = rw (← is) (chain.hint_is (omega (arith, count_is, length-append front (here ∷ back))))

      -- a range after another one
      linked_step : (x : Range T) → 0 < length places → IsWithin (length places) (front ++ here ∷ x ∷ back) → Chained (set (put_at places x.first (record { last = x.last; next = (place_at blank places here.first).next; tag = x.tag })) (here.first % length places) (record (place_at blank places here.first) { next = x.first })) head (cond (eqb tail here.first) x.first tail) hint (count + 1) (front ++ here ∷ x ∷ back)
      unfolding range_at last_first
      linked_step x some within =
          let px : Place T = record { last = x.last; next = (place_at blank places here.first).next; tag = x.tag } in
          let pp : Place T = record (place_at blank places here.first) { next = x.first } in
          let k = x.first % length places in
          let starts = StartsAt-middle head front here here back (x ∷ back) refl starts_are in
          let rises = Rises-IsWithin head (length places) (front ++ here ∷ x ∷ back) starts within in
          let there = IsLinked-from blank places front here back links_are in
          let middle = Rises-middle head (head + length places) front here back rises_are in
          let long : length (set (set places k px) (here.first % length places) pp) ≡ length places = length-set (set places k px) (here.first % length places) pp ∙ length-set places k px in
          chained _ _ _ _ _ _
          (rw (length-set places k px) at (linked_after blank places head some front here back x px pp links_are rises refl refl there.0 refl))
          starts
          (omega (arith, count_is, length-append front (here ∷ back), length-append front (here ∷ x ∷ back)))
          (rw long within)
          (λ _. last_first-append head front here (x ∷ back) ∙ last_first-moved here.first x.first (here.last + 1) (head + length places) back middle.3 (omega (arith, middle.1)) ∙ ap (λ t. cond (eqb t here.first) x.first t) tail_was)
          (λ _. rw (append_assoc front (here ∷ []) (x ∷ back)) at (begins_at-insert hint (front ++ here ∷ []) x back (rw (append_assoc front (here ∷ []) back) hint_was)))

      -- another range in the place of one
      rewrite_step : (x : Range T) → 0 < length places → here.first ≡ x.first → IsWithin (length places) (front ++ x ∷ back) → Chained (put_at places x.first (record { last = x.last; next = (place_at blank places x.first).next; tag = x.tag })) head tail hint count (front ++ x ∷ back)
      unfolding range_at
      rewrite_step x some same within =
          let px : Place T = record { last = x.last; next = (place_at blank places x.first).next; tag = x.tag } in
          let starts = StartsAt-middle head front here x back back same starts_are in
          let rises = Rises-IsWithin head (length places) (front ++ x ∷ back) starts within in
          chained _ _ _ _ _ _
          (relinked blank places head some front here x back px links_are rises same refl refl)
          starts
          (omega (arith, count_is, length-append front (here ∷ back), length-append front (x ∷ back)))
          (rw (length-set places (x.first % length places) px) within)
          (λ _. last_first-append head front x back ∙ ap (λ f. last_first f back) (sym same) ∙ tail_was)
          (λ _. sym (begins_at-rewrite hint front here x back same) ∙ hint_was)

    -- a range taken out after another one
    unlink_step : (front : List (Range T)) (here x : Range T) (back : List (Range T)) → walk blank places count head ≡ front ++ here ∷ x ∷ back → 0 < length places → Chained (put_at places here.first (record (place_at blank places here.first) { next = (place_at blank places x.first).next })) head (cond (eqb tail x.first) here.first tail) here.first (count - 1) (front ++ here ∷ back)
    unfolding range_at last_first Rises
    unlink_step front here x back is some =
        let pp : Place T = record (place_at blank places here.first) { next = (place_at blank places x.first).next } in
        let links = links_are front here (x ∷ back) is in
        let rises_old = rises_are front here (x ∷ back) is in
        let starts = StartsAt-middle head front here here (x ∷ back) back refl (starts_are front here (x ∷ back) is) in
        let rises = rw (append_assoc front (here ∷ []) back) at (Rises-without head (head + length places) (front ++ here ∷ []) x back (rw (append_assoc front (here ∷ []) (x ∷ back)) rises_old)) in
        let there = IsLinked-from blank places front here (x ∷ back) links in
        let middle = Rises-middle head (head + length places) front here (x ∷ back) rises_old in
        let long = length-set places (here.first % length places) pp in
        let was = tail_was front here (x ∷ back) is in
        chained _ _ _ _ _ _
        (unlinked_after blank places head some front here x back pp links rises there.0 refl)
        starts
        (omega (arith, count_is front here (x ∷ back) is, length-append front (here ∷ x ∷ back), length-append front (here ∷ back)))
        (rw long (IsWithin-Rises head (length places) (front ++ here ∷ back) starts rises))
        (λ _. last_first-append head front here back ∙ last_first-moved x.first here.first (x.last + 1) (head + length places) back middle.3.3 (omega (arith, middle.3.1)) ∙ ap (λ t. cond (eqb t x.first) here.first t) was)
        (λ _. begins_at-middle here.first front here back refl)

    -- the first range taken out
    pub front_step : (x : Range T) (back : List (Range T)) → walk blank places count head ≡ x ∷ back → Chained places (place_at blank places head).next tail (cond (eqb hint head) (place_at blank places head).next hint) (count - 1) back
    unfolding range_at last_first Rises IsLinked StartsAt LeadsTo
    front_step x back is =
        let links : IsLinked blank places (x ∷ back) = subst (IsLinked blank places) is (IsLinked-walk blank places count head) in
        let starts : x.first ≡ head = subst (StartsAt head) is (StartsAt-walk blank places count head) in
        let rises : Rises head (head + length places) (x ∷ back) = subst (Rises head (head + length places)) is chain.rises in
        let long : suc (length back) ≡ count = sym (ap length is) ∙ length-walk blank places count head in
        let next = (place_at blank places head).next in
        let leads = subst (λ at. LeadsTo (place_at blank places at) back) starts links.1 in
        let begins = StartsAt-next (place_at blank places head) back leads in
        chained _ _ _ _ _ _
        links.2
        begins
        (omega arith)
        (IsWithin-above (x.last + 1) (head + length places) (length places) back (omega arith) rises.3)
        (λ more. last_first-any next x.first back (omega arith) ∙ sym (ap (last_first head) is) ∙ chain.tail_is (omega arith))
        (λ more. front_hint hint head next x back starts begins (omega arith) (rw (← is) (chain.hint_is (omega arith))))

    pub front_unlinked : 0 < count → Chained places (place_at blank places head).next tail (cond (eqb hint head) (place_at blank places head).next hint) (count - 1) (drop 1 (walk blank places count head))
    front_unlinked some =
        (elim (walk blank places count head) as (λ rs. walk blank places count head ≡ rs → Chained places (place_at blank places head).next tail (cond (eqb hint head) (place_at blank places head).next hint) (count - 1) (drop 1 rs)) [
          | [] ↦ λ is. absurd (omega (arith, length-walk blank places count head, ap length is))
          | x ∷ back ↦ λ is. front_step x back is
        ]) refl

    module _ (at : ℕ) (some : 0 < length places) (begins : begins_at at (walk blank places count head) ≡ true) where
      linked_split : (x : Range T) (front : List (Range T)) (here : Range T) (back through beyond : List (Range T)) → walk blank places count head ≡ front ++ here ∷ back → here.first ≡ at → through ≡ front ++ here ∷ [] → beyond ≡ back → IsWithin (length places) (through ++ x ∷ beyond) → Chained (set (put_at places x.first (record { last = x.last; next = (place_at blank places at).next; tag = x.tag })) (at % length places) (record (place_at blank places at) { next = x.first })) head (cond (eqb tail at) x.first tail) hint (count + 1) (through ++ x ∷ beyond)
      linked_split x front here back through beyond is first through_is beyond_is within =
          let is_new : through ++ x ∷ beyond ≡ front ++ here ∷ x ∷ back = rw (through_is, beyond_is) (append_assoc front (here ∷ []) (x ∷ back)) in
          rw (is_new, ← first) (linked_step front here back is x some (rw is_new at within))

      -- a range put after the one that begins with an offset
      pub linked_at : (x : Range T) → IsWithin (length places) (through at (walk blank places count head) ++ x ∷ beyond at (walk blank places count head)) → Chained (set (put_at places x.first (record { last = x.last; next = (place_at blank places at).next; tag = x.tag })) (at % length places) (record (place_at blank places at) { next = x.first })) head (cond (eqb tail at) x.first tail) hint (count + 1) (through at (walk blank places count head) ++ x ∷ beyond at (walk blank places count head))
      linked_at x within =
          let s = split_at at (walk blank places count head) begins in
          linked_split x s.front s.here s.back _ _ s.is s.first s.through_is s.beyond_is within

      rewrite_split : (x : Range T) (front : List (Range T)) (here : Range T) (back ahead beyond : List (Range T)) → walk blank places count head ≡ front ++ here ∷ back → here.first ≡ at → x.first ≡ at → ahead ≡ front → beyond ≡ back → IsWithin (length places) (ahead ++ x ∷ beyond) → Chained (put_at places x.first (record { last = x.last; next = (place_at blank places x.first).next; tag = x.tag })) head tail hint count (ahead ++ x ∷ beyond)
      rewrite_split x front here back ahead beyond is first x_first ahead_is beyond_is within =
          rw (ahead_is, beyond_is) (rewrite_step front here back is x some (first ∙ sym x_first) (rw (ahead_is, beyond_is) at within))

      -- another range in place of the one that begins with an offset
      pub rewritten : (x : Range T) → x.first ≡ at → IsWithin (length places) (ahead at (walk blank places count head) ++ x ∷ beyond at (walk blank places count head)) → Chained (put_at places x.first (record { last = x.last; next = (place_at blank places x.first).next; tag = x.tag })) head tail hint count (ahead at (walk blank places count head) ++ x ∷ beyond at (walk blank places count head))
      rewritten x first within =
          let s = split_at at (walk blank places count head) begins in
          rewrite_split x s.front s.here s.back _ _ s.is s.first first s.ahead_is s.beyond_is within

      unlink_split : (front : List (Range T)) (here x : Range T) (back through beyond : List (Range T)) → walk blank places count head ≡ front ++ here ∷ beyond → here.first ≡ at → through ≡ front ++ here ∷ [] → beyond ≡ x ∷ back → Chained (put_at places at (record (place_at blank places at) { next = (place_at blank places (place_at blank places at).next).next })) head (cond (eqb tail (place_at blank places at).next) at tail) at (count - 1) (through ++ drop 1 beyond)
      unfolding LeadsTo
      unlink_split front here x back through beyond is first through_is beyond_is =
          let is' : walk blank places count head ≡ front ++ here ∷ x ∷ back = rw (← beyond_is) is in
          let next : (place_at blank places here.first).next ≡ x.first = (IsLinked-from blank places front here (x ∷ back) (links_are front here (x ∷ back) is')).1 in
          let is_new : through ++ drop 1 beyond ≡ front ++ here ∷ back = rw (through_is, beyond_is) (append_assoc front (here ∷ []) back) in
          rw (is_new, ← first, next) (unlink_step front here x back is' some)

      -- the range after the one that begins with an offset taken out
      pub unlinked_at : 0 < length (beyond at (walk blank places count head)) → Chained (put_at places at (record (place_at blank places at) { next = (place_at blank places (place_at blank places at).next).next })) head (cond (eqb tail (place_at blank places at).next) at tail) at (count - 1) (through at (walk blank places count head) ++ drop 1 (beyond at (walk blank places count head)))
      unlinked_at more =
          let s = split_at at (walk blank places count head) begins in
          (elim (beyond at (walk blank places count head)) as (λ bs. beyond at (walk blank places count head) ≡ bs → Chained (put_at places at (record (place_at blank places at) { next = (place_at blank places (place_at blank places at).next).next })) head (cond (eqb tail (place_at blank places at).next) at tail) at (count - 1) (through at (walk blank places count head) ++ drop 1 (beyond at (walk blank places count head)))) [
            | [] ↦ λ is. absurd (omega (arith, ap length is))
            | x ∷ back ↦ λ is. unlink_split s.front s.here x back _ _ (rw s.beyond_is s.is) s.first s.through_is is
          ]) refl

  pub walk-IsWithin : (places : List (Place T)) (head tail hint count : ℕ) → IsChain blank places head tail hint count → IsWithin (length places) (walk blank places count head)
  walk-IsWithin places head tail hint count chain = IsWithin-Rises head (length places) (walk blank places count head) (StartsAt-walk blank places count head) chain.rises
