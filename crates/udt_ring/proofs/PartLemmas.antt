-- Where a part lies in memory, and what writing one changes.
use Rattle.std.proofs.Common.{◌≡◌, ◌≢◌, ℕ, zero, suc, ◌+◌, ◌*◌, ◌<◌, ◌≤◌, List, [], ◌∷◌, ◌++◌, map, length, take, drop, set, Some, refl, ap, ◌∙◌, sym, arith, inl, inr}
use Rattle.std.specs.Prelude.{slice_get, All}
use Rattle.std.proofs.Math.Nat.{mul-le-mul_right}
use Rattle.std.proofs.lemmas.Bool.{cases_lt}
use Rattle.std.proofs.lemmas.List.{length-take, length-append, take_at, drop_at, drop-take, take-take, take-append-le, drop-append-le, map-set}
use Rattle.std.proofs.lemmas.List.Elements.{All-nil, All-cons, All-head, All-tail}
use Rattle.std.proofs.lemmas.Slice.{drop-append-drop}
use Rattle.udt_ring.specs.declared.ring.Place.{Place}
use Rattle.udt_ring.specs.Parts.{Part}
use Rattle.udt_ring.specs.Rings.{part_in, parts_in, AreShort}

-- a slot ends where the next one begins, or before
pub slot_before : (slot other room : ℕ) → slot < other → slot * room + room ≤ other * room
slot_before slot other room lt =
    let one : suc slot * room ≡ room + slot * room = omega arith in
    let le : suc slot * room ≤ other * room = mul-le-mul_right room (omega (arith, lt)) in
    omega (arith, one, le)

-- ---- other bytes in memory

-- the memory with other bytes from here on
over : ℕ → List ℕ → List ℕ → List ℕ
over at bytes memory = take at memory ++ bytes ++ drop (at + length bytes) memory

-- the first this many bytes, where they end before the others begin
take-over : (n at : ℕ) (bytes memory : List ℕ) → n ≤ at → at ≤ length memory → take n (over at bytes memory) ≡ take n memory
unfolding over
take-over n at bytes memory le within =
    let short : n ≤ length (take at memory) = omega (arith, le, within, length-take at memory) in
    let long : n ≤ length (take at memory ++ bytes) = omega (arith, short, length-append (take at memory) bytes) in
    rw (take-append-le n (take at memory ++ bytes) (drop (at + length bytes) memory) long, take-append-le n (take at memory) bytes short) (take-take n at memory le)

-- so bytes that end there stay as they are ..
over-before : (from len at : ℕ) (bytes memory : List ℕ) → from + len ≤ at → at ≤ length memory → take len (drop from (over at bytes memory)) ≡ take len (drop from memory)
over-before from len at bytes memory le within =
    sym (drop-take from len (over at bytes memory)) ∙ ap (drop from) (take-over (from + len) at bytes memory le within) ∙ drop-take from len memory

-- .. and so do those that begin after them
over-after : (from at : ℕ) (bytes memory : List ℕ) → at + length bytes ≤ from → at ≤ length memory → drop from (over at bytes memory) ≡ drop from memory
unfolding over
over-after from at bytes memory le within =
    drop-append-drop (at + length bytes) memory (take at memory ++ bytes) from le (omega (arith, length-append (take at memory) bytes, length-take at memory, within))

-- the others themselves stand there
over-at : (at : ℕ) (bytes memory : List ℕ) → at ≤ length memory → take (length bytes) (drop at (over at bytes memory)) ≡ bytes
unfolding over
over-at at bytes memory within =
    let len : length (take at memory) ≡ at = omega (arith, length-take at memory, within) in
    let long : at ≤ length (take at memory ++ bytes) = omega (arith, len, length-append (take at memory) bytes) in
    rw (drop-append-le at (take at memory ++ bytes) (drop (at + length bytes) memory) long, drop_at (take at memory) bytes at len)
    (take_at bytes (drop (at + length bytes) memory) (length bytes) refl)

-- ---- one part is written

-- where two functions agree on all elements but one, so do their results with something else for that one
set-map_agree : {A B : Type 0} (f g : A → B) (xs : List A) (k : ℕ) (y : B) → ((j : ℕ) (x : A) → slice_get xs j ≡ Some x → j ≢ k → f x ≡ g x) → set (map f xs) k y ≡ set (map g xs) k y
set-map_agree f g [] k y agree = refl
set-map_agree {A = A} f g (x ∷ xs) zero y agree = ap (λ ys. y ∷ ys) (map_agree xs (λ j z found. agree (suc j) z found (λ e. absurd (omega (arith, e)))))
  where
    map_agree : (zs : List A) → ((j : ℕ) (z : A) → slice_get zs j ≡ Some z → f z ≡ g z) → map f zs ≡ map g zs
    map_agree [] all = refl
    map_agree (z ∷ zs) all = rw (all zero z refl, map_agree zs (λ j w found. all (suc j) w found)) refl
set-map_agree f g (x ∷ xs) (suc k) y agree =
    rw (agree zero x refl (λ e. absurd (omega (arith, e))), set-map_agree f g xs k y (λ j z found differs. agree (suc j) z found (λ e. differs (omega (arith, e))))) refl

module _ {H : Type 0} where
  -- a part keeps its bytes, where others are written into another slot
  part_in-kept : (room slots slot : ℕ) (bytes memory : List ℕ) (place : Place H) → length memory ≡ slots * room → slot < slots → length bytes ≤ room
      → place.len ≤ room → place.slot < slots → place.slot ≢ slot → part_in room (over (slot * room) bytes memory) place ≡ part_in room memory place
  part_in-kept room slots slot bytes memory place len lt short here below differs =
      let end = slot_before slot slots room lt in
      let within : slot * room ≤ length memory = omega (arith, end, len) in
      let kept : take place.len (drop (place.slot * room) (over (slot * room) bytes memory)) ≡ take place.len (drop (place.slot * room) memory) =
      elim (cases_lt place.slot slot) [
        | inl before ↦ over-before (place.slot * room) place.len (slot * room) bytes memory (omega (arith, slot_before place.slot slot room before, here)) within
        | inr from ↦
            let after : slot < place.slot = omega (arith, from, differs) in
            ap (take place.len) (over-after (place.slot * room) (slot * room) bytes memory (omega (arith, slot_before slot place.slot room after, short)) within)
      ] in
      ap (λ (bs : List ℕ). let part : Part H = record { head = place.head; bytes = bs } in part) kept

  -- writing the part of one place changes that part alone
  pub written-parts_in : (room slots : ℕ) (places : List (Place H)) (memory : List ℕ) (k : ℕ) (head : H) (slot : ℕ) (bytes : List ℕ)
      → length memory ≡ slots * room → slot < slots → length bytes ≤ room
      → ((j : ℕ) (place : Place H) → slice_get places j ≡ Some place → j ≢ k → (place.len ≤ room) × (place.slot < slots) × (place.slot ≢ slot))
      → parts_in room (take (slot * room) memory ++ bytes ++ drop (slot * room + length bytes) memory) (set places k (record { head = head; len = length bytes; slot = slot }))
      ≡ set (parts_in room memory places) k (record { head = head; bytes = bytes })
  unfolding over
  written-parts_in room slots places memory k head slot bytes len lt short others =
      let with : Place H = record { head = head; len = length bytes; slot = slot } in
      let part : Part H = record { head = head; bytes = bytes } in
      let end = slot_before slot slots room lt in
      let own : part_in room (over (slot * room) bytes memory) with ≡ part =
      ap (λ (bs : List ℕ). let p : Part H = record { head = head; bytes = bs } in p) (over-at (slot * room) bytes memory (omega (arith, end, len))) in
      map-set (part_in room (over (slot * room) bytes memory)) places k with
      ∙ ap (set (map (part_in room (over (slot * room) bytes memory)) places) k) own
      ∙ set-map_agree (part_in room (over (slot * room) bytes memory)) (part_in room memory) places k part
      (λ j place found differs. let o = others j place found differs in part_in-kept room slots slot bytes memory place len lt short o.0 o.1 o.2)

  -- no part has more bytes than there is room for
  pub parts_in-short : (room : ℕ) (memory : List ℕ) (places : List (Place H)) → AreShort room places → All (λ part. length part.bytes ≤ room) (parts_in room memory places)
  parts_in-short room memory [] short = All-nil (λ (part : Part H). length part.bytes ≤ room)
  parts_in-short room memory (place ∷ places) short =
      let here : place.len ≤ room = All-head (λ (place : Place H). place.len ≤ room) place places short in
      All-cons (λ (part : Part H). length part.bytes ≤ room) _ (parts_in room memory places) (omega (arith, here, length-take place.len (drop (place.slot * room) memory)))
      (parts_in-short room memory places (All-tail (λ (place : Place H). place.len ≤ room) place places short))
