-- The slots of places.
use Rattle.std.proofs.Common.{◌≡◌, ◌≢◌, ℕ, zero, suc, ◌+◌, ◌<◌, ◌≤◌, List, [], ◌∷◌, ◌++◌, map, length, get_or, set, replicate, eqb, Some, refl, ap, ◌∙◌, sym, arith, inl, inr, swap}
use Rattle.std.specs.Prelude.{slice_get, All}
use Rattle.std.proofs.Math.Seq.{map-set_same}
use Rattle.std.proofs.lemmas.Bool.{cases_lt, cases_eq, ne_eqb}
use Rattle.std.proofs.lemmas.Bool.Decides.{Decides-eqb}
use Rattle.std.proofs.lemmas.List.{length-map, length-append, length-set, map-append, map-set, get_or-map, get_or_default, replicate-append-replicate}
use Rattle.std.proofs.lemmas.List.Edits.{length-swap, swap_is}
use Rattle.std.proofs.lemmas.List.Elements.{All-nil, All-get_or, All-set, All-push}
use Rattle.std.proofs.lemmas.List.Quantifiers.{all_pairs_push}
use Rattle.std.proofs.lemmas.List.Sorted.{IsPermutation-swap, All-permutation}
use Rattle.std.proofs.lemmas.Map.Keys.{IsDistinct-IsPermutation}
use Rattle.std.proofs.lemmas.Map.Made.{AllPairs-from_IsDistinct, IsDistinct-from_AllPairs}
use Rattle.std.proofs.lemmas.Option.{slice_get_within, slice_get-map, get_or_from_slice_get}
use Rattle.udt_ring.specs.declared.ring.Place.{Place}
use Rattle.udt_ring.specs.Parts.{Part, empty_part}
use Rattle.udt_ring.specs.Rings.{AreSlots, slots_of, part_in, parts_in, AreShort, KeepsParts}

-- a test of two numbers, the other way round
eqb-flip : (a b : ℕ) → eqb a b ≡ eqb b a
eqb-flip a b = elim (cases_eq a b) [
  | inl same ↦ rw same refl
  | inr differs ↦ rw (ne_eqb a b differs, ne_eqb b a (λ e. differs (sym e))) refl
]

-- two slots in each other's place are slots as before
AreSlots-swap : (slots : List ℕ) (i j : ℕ) → i < length slots → j < length slots → AreSlots slots → AreSlots (swap slots i j)
AreSlots-swap slots i j lt lt' are =
    let moved = IsPermutation-swap slots (swap slots i j) i j lt lt' refl in
    let all : All (λ slot. slot < length slots) (swap slots i j) = All-permutation (λ slot. slot < length slots) slots (swap slots i j) moved are.below in
    let len = length-swap slots i j in
    record {
      below = λ k d within. let below : get_or (swap slots i j) k d < length slots = all k d (omega (arith, len, within)) in omega (arith, below, len);
      apart = AllPairs-from_IsDistinct {eq = eqb} Decides-eqb (swap slots i j) (IsDistinct-IsPermutation eqb eqb-flip slots (swap slots i j) moved (IsDistinct-from_AllPairs {eq = eqb} Decides-eqb slots are.apart));
    }

-- one slot more than there are
AreSlots-push : (slots : List ℕ) → AreSlots slots → AreSlots (slots ++ length slots ∷ [])
AreSlots-push slots are =
    let len : length (slots ++ length slots ∷ []) ≡ length slots + 1 = length-append slots (length slots ∷ []) in
    let wider : All (λ slot. slot < length slots + 1) slots = λ k d lt. let below : get_or slots k d < length slots = are.below k d lt in omega (arith, below) in
    let all : All (λ slot. slot < length slots + 1) (slots ++ length slots ∷ []) = All-push (λ slot. slot < length slots + 1) slots (length slots) wider (omega arith) in
    record {
      below = λ k d within. let below : get_or (slots ++ length slots ∷ []) k d < length slots + 1 = all k d within in omega (arith, below, len);
      apart = all_pairs_push (λ slot other. slot ≢ other) slots (length slots) are.apart (λ k d lt same. let below : get_or slots k d < length slots = are.below k d lt in omega (arith, below, same));
    }

module _ {H : Type 0} where
  -- the slot of a place
  slot_at : (places : List (Place H)) (i : ℕ) (place : Place H) → slice_get places i ≡ Some place → (i < length (slots_of places)) × (get_or (slots_of places) i 0 ≡ place.slot)
  slot_at places i place found =
      let there : slice_get (slots_of places) i ≡ Some place.slot = rw (slice_get-map (λ (p : Place H). p.slot) places i, found) refl in
      (slice_get_within (slots_of places) i place.slot there, get_or_from_slice_get (slots_of places) i place.slot 0 there)

  -- it is below the count of places
  pub slot_below : (places : List (Place H)) (i : ℕ) (place : Place H) → AreSlots (slots_of places) → slice_get places i ≡ Some place → place.slot < length places
  slot_below places i place slots found =
      let at = slot_at places i place found in
      let below : get_or (slots_of places) i 0 < length (slots_of places) = All-get_or (λ slot. slot < length (slots_of places)) (slots_of places) i 0 at.0 slots.below in
      omega (arith, below, at.1, length-map places (λ (p : Place H). p.slot))

  -- and no other place has it
  pub slots_apart : (places : List (Place H)) (i j : ℕ) (one other : Place H) → AreSlots (slots_of places) → slice_get places i ≡ Some one → slice_get places j ≡ Some other → i ≢ j → one.slot ≢ other.slot
  slots_apart places i j one other slots found there differs = λ same.
      let first = slot_at places i one found in
      let second = slot_at places j other there in
      elim (cases_lt i j) [
        | inl before ↦ slots.apart i j 0 before second.0 (first.1 ∙ same ∙ sym second.1)
        | inr from ↦ slots.apart j i 0 (omega (arith, from, differs)) first.0 (second.1 ∙ sym same ∙ sym first.1)
      ]

  -- ---- two slots are exchanged

  -- where a place has no bytes, its slot makes no difference
  other_slot : (room : ℕ) (memory : List ℕ) (place : Place H) (slot : ℕ) → place.len ≡ 0 → part_in room memory (record { head = place.head; len = place.len; slot = slot }) ≡ part_in room memory place
  other_slot room memory place slot none = rw none refl

  -- two places without bytes have each other's slot
  pub exchanged : (places : List (Place H)) (one other : ℕ) (p q d e : Place H) → one < length places → other < length places
      → p ≡ get_or places one p → q ≡ get_or places other q → p.len ≡ 0 → q.len ≡ 0
      → let first : Place H = record { head = (get_or places one d).head; len = (get_or places one d).len; slot = q.slot } in
      let second : Place H = record { head = (get_or (set places one first) other e).head; len = (get_or (set places one first) other e).len; slot = p.slot } in
      KeepsParts places (set (set places one first) other second)
  exchanged places one other p q d e lt lt' p_is q_is none none' =
      let first : Place H = record { head = (get_or places one d).head; len = (get_or places one d).len; slot = q.slot } in
      let with = set places one first in
      let second : Place H = record { head = (get_or with other e).head; len = (get_or with other e).len; slot = p.slot } in
      let len = length-set places one first in
      let lens : map (λ (x : Place H). x.len) with ≡ map (λ (x : Place H). x.len) places = map-set_same (λ (x : Place H). x.len) places one first d refl in
      let first_none : (get_or places one d).len ≡ 0 = ap (λ (x : Place H). x.len) (get_or_default places one d p lt ∙ sym p_is) ∙ none in
      let there : get_or (map (λ (x : Place H). x.len) places) other e.len ≡ q.len = get_or-map (λ (x : Place H). x.len) places other q e.len lt' ∙ ap (λ (x : Place H). x.len) (sym q_is) in
      let second_none : (get_or with other e).len ≡ 0 =
      sym (get_or-map (λ (x : Place H). x.len) with other e e.len (omega (arith, len, lt'))) ∙ ap (λ (xs : List ℕ). get_or xs other e.len) lens ∙ there ∙ none' in
      record {
        parts = λ room memory.
            map-set_same (part_in room memory) with other second e (other_slot room memory (get_or with other e) p.slot second_none)
            ∙ map-set_same (part_in room memory) places one first d (other_slot room memory (get_or places one d) q.slot first_none);
        short = λ room short.
            All-set (λ (x : Place H). x.len ≤ room) with other second (omega (arith, second_none))
            (All-set (λ (x : Place H). x.len ≤ room) places one first (omega (arith, first_none)) short);
        slots = λ are.
            let slots = slots_of places in
            let count = length-map places (λ (x : Place H). x.slot) in
            let p_slot : p.slot ≡ get_or slots one 0 = sym (get_or-map (λ (x : Place H). x.slot) places one p 0 lt ∙ ap (λ (x : Place H). x.slot) (sym p_is)) in
            let q_slot : q.slot ≡ get_or slots other 0 = sym (get_or-map (λ (x : Place H). x.slot) places other q 0 lt' ∙ ap (λ (x : Place H). x.slot) (sym q_is)) in
            let is : slots_of (set with other second) ≡ swap slots one other =
            map-set (λ (x : Place H). x.slot) with other second
            ∙ ap (λ (xs : List ℕ). set xs other p.slot) (map-set (λ (x : Place H). x.slot) places one first)
            ∙ rw (p_slot, q_slot) (swap_is slots one other 0 (omega (arith, count, lt)) (omega (arith, count, lt'))) in
            rw is (AreSlots-swap slots one other (omega (arith, count, lt)) (omega (arith, count, lt')) are);
      }

  -- where none are, all stays
  pub kept : (places : List (Place H)) → KeepsParts places places
  kept places = record { parts = λ room memory. refl; short = λ room short. short; slots = λ are. are }

  -- a place has other bytes in its slot
  pub slots_of-set : (places : List (Place H)) (i : ℕ) (place : Place H) (head : H) (len : ℕ) → slice_get places i ≡ Some place
      → slots_of (set places i (record { head = head; len = len; slot = place.slot })) ≡ slots_of places
  slots_of-set places i place head len found =
      map-set_same (λ (x : Place H). x.slot) places i (record { head = head; len = len; slot = place.slot }) place (sym (ap (λ (x : Place H). x.slot) (get_or_from_slice_get places i place place found)))

  -- ---- new places

  -- this many places with a head and no bytes, each with the slot of its number
  pub fresh : H → ℕ → List (Place H)
  fresh head zero = []
  fresh head (suc n) = fresh head n ++ record { head = head; len = 0; slot = n } ∷ []

  pub fresh_none : (head : H) → fresh head 0 ≡ []
  unfolding fresh
  fresh_none head = refl

  pub fresh_more : (head : H) (n : ℕ) → fresh head n ++ record { head = head; len = 0; slot = n } ∷ [] ≡ fresh head (n + 1)
  unfolding fresh
  fresh_more head n = let e : n + 1 ≡ suc n = omega arith in rw e refl

  pub fresh_len : (head : H) (n : ℕ) → length (fresh head n) ≡ n
  unfolding fresh
  fresh_len head zero = refl
  fresh_len head (suc n) = omega (arith, length-append (fresh head n) (record { head = head; len = 0; slot = n } ∷ []), fresh_len head n)

  pub fresh_short : (head : H) (room n : ℕ) → AreShort room (fresh head n)
  unfolding fresh
  fresh_short head room zero = All-nil (λ (place : Place H). place.len ≤ room)
  fresh_short head room (suc n) = All-push (λ (place : Place H). place.len ≤ room) (fresh head n) (record { head = head; len = 0; slot = n }) (fresh_short head room n) (omega arith)

  pub fresh_slots : (head : H) (n : ℕ) → AreSlots (slots_of (fresh head n))
  unfolding fresh
  fresh_slots head zero = record { below = All-nil (λ slot. slot < 0); apart = λ i j d lt past. absurd (omega (arith, past)) }
  fresh_slots head (suc n) =
      let count : length (slots_of (fresh head n)) ≡ n = length-map (fresh head n) (λ (place : Place H). place.slot) ∙ fresh_len head n in
      let more = AreSlots-push (slots_of (fresh head n)) (fresh_slots head n) in
      rw (map-append (λ (place : Place H). place.slot) (fresh head n) (record { head = head; len = 0; slot = n } ∷ [])) (rw count at more)

  -- their parts have no bytes
  pub fresh_parts : (head : H) (room n : ℕ) (memory : List ℕ) → parts_in room memory (fresh head n) ≡ replicate n (empty_part head)
  unfolding fresh
  fresh_parts head room zero memory = refl
  fresh_parts head room (suc n) memory =
      let one : n + 1 ≡ suc n = omega arith in
      map-append (part_in room memory) (fresh head n) (record { head = head; len = 0; slot = n } ∷ [])
      ∙ ap (λ (ps : List (Part H)). ps ++ empty_part head ∷ []) (fresh_parts head room n memory)
      ∙ rw one at (replicate-append-replicate n 1 (empty_part head))
