-- What a ring's parts are, by where they lie.
use Rattle.std.proofs.Common.{◌≡◌, ℕ, ◌+◌, ◌*◌, ◌^◌, ◌<◌, ◌≤◌, List, ◌++◌, ◌∷◌, length, take, drop, set, [], Some, refl, ap, ◌∙◌, sym, arith, inl, inr}
use Rattle.std.specs.Prelude.{slice_get, All, option_map}
use Rattle.std.proofs.lemmas.Bool.{cases_lt, lt-ltb, le-ltb}
use Rattle.std.proofs.lemmas.List.{append-nil, length-take, length-drop, length-append, length-map, length-set, map-set}
use Rattle.std.proofs.lemmas.List.Elements.{All-set, All-append, All-take, All-drop, All-get_or}
use Rattle.std.proofs.lemmas.Option.{slice_get-map, get_or_from_slice_get, slice_get_within}
use Rattle.udt_ring.specs.declared.ring.Place.{Place}
use Rattle.udt_ring.specs.declared.ring.Ring.TheInside.{Inside}
use Rattle.udt_ring.specs.Parts.{Part, turned, joined, empty_part}
use Rattle.udt_ring.specs.Rings.{following, part_in, parts_in, parts_of, slots_of, AreShort, AreSlots, Empties, IsRing}
use Rattle.udt_ring.proofs.TurnLemmas.{get-turned-before, get-turned-following, set-turned-before, set-turned-following, turned-before, turned-following, turned_first, passed_more}
use Rattle.udt_ring.proofs.PartLemmas.{slot_before, written-parts_in, parts_in-short}
use Rattle.udt_ring.proofs.SlotLemmas.{slot_below, slots_apart, slots_of-set}
use Rattle.udt_ring.proofs.JoinedLemmas.{joined_fits}

-- a list that begins later is as long
pub length-turned : {X : Type 0} (at : ℕ) (xs : List X) → at ≤ length xs → length (turned at xs) ≡ length xs
length-turned at xs le = omega (arith, length-append (drop at xs) (take at xs), length-drop at xs, length-take at xs)

-- a look-up by the place
get-turned : {X : Type 0} (at i : ℕ) (xs : List X) → at ≤ length xs → i < length xs → slice_get (turned at xs) i ≡ slice_get xs (following at i (length xs))
get-turned at i xs within lt = elim (cases_lt (at + i) (length xs)) [
  | inl before ↦ rw (lt-ltb (at + i) (length xs) before) (get-turned-before at i xs before)
  | inr past ↦ rw (le-ltb (at + i) (length xs) past) (get-turned-following at i xs within past lt)
]

-- a change by the place
set-turned : {X : Type 0} (at i : ℕ) (xs : List X) (x : X) → at ≤ length xs → i < length xs → turned at (set xs (following at i (length xs)) x) ≡ set (turned at xs) i x
set-turned at i xs x within lt = elim (cases_lt (at + i) (length xs)) [
  | inl before ↦ rw (lt-ltb (at + i) (length xs) before) (set-turned-before at i xs x before)
  | inr past ↦ rw (le-ltb (at + i) (length xs) past) (set-turned-following at i xs x within past lt)
]

-- a beginning that comes later still
turned-following-by : {X : Type 0} (at by : ℕ) (xs : List X) → at ≤ length xs → by ≤ length xs → turned (following at by (length xs)) xs ≡ turned by (turned at xs)
turned-following-by at by xs within le = elim (cases_lt (at + by) (length xs)) [
  | inl before ↦ rw (lt-ltb (at + by) (length xs) before) (turned-before at by xs (omega arith))
  | inr past ↦ rw (le-ltb (at + by) (length xs) past) (turned-following at by xs within past le)
]

module _ {H : Type 0} where
  -- no more of a place is in use than there is room for
  pub place_short : (room : ℕ) (places : List (Place H)) (i : ℕ) (place : Place H) → AreShort room places → slice_get places i ≡ Some place → place.len ≤ room
  place_short room places i place short found =
      rw (get_or_from_slice_get places i place place found) at (All-get_or (λ (p : Place H). p.len ≤ room) places i place (slice_get_within places i place found) short)

-- writing the part of a place
pub put_is : {H : Type 0} (room : ℕ) (memory : List ℕ) (places : List (Place H)) (first i : ℕ) (head : H) (bytes : List ℕ) (place : Place H)
    → length memory ≡ length places * room → AreShort room places → AreSlots (slots_of places) → first < length places → i < length places
    → slice_get places (following first i (length places)) ≡ Some place → length bytes ≤ room
    → turned first (parts_in room (take (place.slot * room) memory ++ bytes ++ drop (place.slot * room + length bytes) memory)
    (set places (following first i (length places)) (record { head = head; len = length bytes; slot = place.slot })))
    ≡ set (turned first (parts_in room memory places)) i (record { head = head; bytes = bytes })
put_is {H = H} room memory places first i head bytes place is short slots begin lt found few =
    let at = following first i (length places) in
    let len = length-map places (part_in room memory) in
    let all = parts_in room memory places in
    let part : Part H = record { head = head; bytes = bytes } in
    let written = written-parts_in room (length places) places memory at head place.slot bytes is (slot_below places at place slots found) few
    (λ j other there differs. (place_short room places j other short there, slot_below places j other slots there, slots_apart places j at other place slots there found differs)) in
    let changed = set-turned first i all part (omega (arith, begin, len)) (omega (arith, len, lt)) in
    ap (turned first) written ∙ rw len at changed

-- emptying the first part, and turning past it
pass_is : {H : Type 0} (room : ℕ) (memory : List ℕ) (places : List (Place H)) (first : ℕ) (head : H) (slot : ℕ) → first < length places
    → turned (following first 1 (length places)) (parts_in room memory (set places first (record { head = head; len = 0; slot = slot })))
    ≡ drop 1 (turned first (parts_in room memory places)) ++ empty_part head ∷ []
pass_is {H = H} room memory places first head slot lt =
    let all = parts_in room memory places in
    let with : List (Part H) = set all first (empty_part head) in
    let len = length-map places (part_in room memory) in
    let len' = length-set all first (empty_part head) in
    let emptied : parts_in room memory (set places first (record { head = head; len = 0; slot = slot })) ≡ with = map-set (part_in room memory) places first (record { head = head; len = 0; slot = slot }) in
    let next : turned (following first 1 (length with)) with ≡ turned 1 (turned first with) = turned-following-by first 1 with (omega (arith, lt, len, len')) (omega (arith, lt, len, len')) in
    let here : following first 0 (length all) ≡ first = following_none first (length all) (omega (arith, lt, len)) in
    let front : turned first with ≡ set (turned first all) 0 (empty_part head) = rw here at (set-turned first 0 all (empty_part head) (omega (arith, lt, len)) (omega (arith, lt, len))) in
    let count : length with ≡ length places = omega (arith, len, len') in
    ap (turned (following first 1 (length places))) emptied ∙ rw count at next ∙ ap (turned 1) front
    ∙ turned_first (turned first all) (empty_part head) (omega (arith, length-turned first all (omega (arith, lt, len)), len, lt))
  where
    following_none : (at count : ℕ) → at < count → following at 0 count ≡ at
    following_none at count below = let e : at + 0 ≡ at = omega arith in rw (e, lt-ltb at count below) refl

-- no part is emptied yet
pub empties_none : {H : Type 0} (head : H) (first : ℕ) (places : List (Place H)) → first < length places → Empties 0 head first first places places
empties_none {H = H} head first places lt = record {
  parts = λ room memory. let all : List (Part H) = turned first (parts_in room memory places) in sym (append-nil all);
  short = λ room short. short;
  slots = λ slots. slots;
  within = lt;
}

-- the part of the next place is emptied too
pub empties_more : {H : Type 0} (i : ℕ) (head : H) (first next : ℕ) (old new : List (Place H)) (place : Place H) → i < length old → first < length old
    → slice_get new next ≡ Some place → Empties i head first next old new
    → Empties (i + 1) head first (following next 1 (length new)) old (set new next (record { head = head; len = 0; slot = place.slot }))
empties_more {H = H} i head first next old new place lt begin found emptied =
    let with : Place H = record { head = head; len = 0; slot = place.slot } in
    let len = length-set new next with in
    record {
      parts = λ room memory.
          let all = parts_in room memory old in
          let within : i < length (turned first all) = omega (arith, lt, begin, length-turned first all (omega (arith, begin, length-map old (part_in room memory))), length-map old (part_in room memory)) in
          pass_is room memory new next head place.slot emptied.within
          ∙ ap (λ (ps : List (Part H)). drop 1 ps ++ empty_part head ∷ []) (emptied.parts room memory)
          ∙ passed_more i (turned first all) (empty_part head) within;
      short = λ room short. All-set (λ (p : Place H). p.len ≤ room) new next with (omega arith) (emptied.short room short);
      slots = λ are. rw (slots_of-set new next place head 0 found) (emptied.slots are);
      within = omega (arith, len, following_within next (length new) emptied.within);
    }
  where
    following_within : (at count : ℕ) → at < count → following at 1 count < count
    following_within at count below = elim (cases_lt (at + 1) count) [
      | inl before ↦ rw (lt-ltb (at + 1) count before) before
      | inr past ↦ rw (le-ltb (at + 1) count past) (omega (arith, past, below))
    ]

module _ {H : Type 0} (r : Inside H) (ring : IsRing r) where
  -- there are as many parts as places
  pub count_is : length (parts_of r).list ≡ length r.places.items
  count_is =
      let len = length-map r.places.items (part_in r.room r.memory.items) in
      length-turned r.first (parts_in r.room r.memory.items r.places.items) (omega (arith, ring.first, len)) ∙ len

  -- the part at a place
  pub part_is : (i : ℕ) (place : Place H) → i < length r.places.items → slice_get r.places.items (following r.first i (length r.places.items)) ≡ Some place
      → slice_get (parts_of r).list i ≡ Some (part_in r.room r.memory.items place)
  part_is i place lt there =
      let all = parts_in r.room r.memory.items r.places.items in
      let len = length-map r.places.items (part_in r.room r.memory.items) in
      let found = get-turned r.first i all (omega (arith, ring.first, len)) (omega (arith, len, lt)) in
      rw len at found ∙ slice_get-map (part_in r.room r.memory.items) r.places.items (following r.first i (length r.places.items)) ∙ ap (option_map (part_in r.room r.memory.items)) there

  -- the memory of a slot
  pub slot_fits : (at : ℕ) (place : Place H) → slice_get r.places.items at ≡ Some place → place.slot * r.room + r.room ≤ length r.memory.items
  slot_fits at place found = omega (arith, slot_before place.slot (length r.places.items) r.room (slot_below r.places.items at place ring.slots found), ring.memory)

  -- all bytes can be counted
  pub all_fit : length (joined (parts_of r).list) < 2 ^ 64
  all_fit =
      let all = parts_in r.room r.memory.items r.places.items in
      let short : All (λ (part : Part H). length part.bytes ≤ r.room) all = parts_in-short r.room r.memory.items r.places.items ring.short in
      let parts = All-append (λ (part : Part H). length part.bytes ≤ r.room) (drop r.first all) (take r.first all) (All-drop (λ (part : Part H). length part.bytes ≤ r.room) r.first all short) (All-take (λ (part : Part H). length part.bytes ≤ r.room) r.first all short) in
      joined_fits r.room (parts_of r).list parts (omega (arith, count_is, ring.few)) ring.small
