-- Bytes that are copied piece by piece.
use Rattle.std.proofs.Common.{◌≡◌, ℕ, zero, suc, ◌+◌, ◌-◌, ◌<◌, ◌≤◌, min, List, [], ◌∷◌, ◌++◌, length, take, drop, Some, refl, ap, ◌∙◌, sym, arith, append_assoc, inl, inr}
use Rattle.std.specs.Prelude.{slice_get}
use Rattle.std.proofs.lemmas.Bool.{cases_lt}
use Rattle.std.proofs.lemmas.List.{take_at, drop_at, drop-drop, length-append, length-take, drop_all}
use Rattle.udt_rcv_buffer.specs.declared.head.Head.{Head}
use Rattle.udt_ring.specs.Parts.{Part, joined}

-- what is left of two lists after this many elements
drop_parts : (n : ℕ) (xs ys : List ℕ) → drop n (xs ++ ys) ≡ drop (min n (length xs)) xs ++ drop (n - min n (length xs)) ys
drop_parts zero xs ys = let e : min zero (length xs) ≡ 0 = omega arith in rw e refl
drop_parts (suc n) [] ys = let e : min (suc n) 0 ≡ 0 = omega arith in let f : suc n - 0 ≡ suc n = omega arith in rw (e, f) refl
drop_parts (suc n) (x ∷ xs) ys =
    let e : min (suc n) (suc (length xs)) ≡ suc (min n (length xs)) = omega arith in
    let f : suc n - suc (min n (length xs)) ≡ n - min n (length xs) = omega arith in
    rw (e, f) (drop_parts n xs ys)

-- and the first this many of two lists
take_parts : (n : ℕ) (xs ys : List ℕ) → take n (xs ++ ys) ≡ take (min (length xs) n) xs ++ take (n - min (length xs) n) ys
take_parts zero xs ys = let e : min (length xs) 0 ≡ 0 = omega arith in rw e refl
take_parts (suc n) [] ys = let e : min 0 (suc n) ≡ 0 = omega arith in let f : suc n - 0 ≡ suc n = omega arith in rw (e, f) refl
take_parts (suc n) (x ∷ xs) ys =
    let e : min (suc (length xs)) (suc n) ≡ suc (min (length xs) n) = omega arith in
    let f : suc n - suc (min (length xs) n) ≡ n - min (length xs) n = omega arith in
    rw (e, f, take_parts n xs ys) refl

-- the parts from this one on
pub drop_at_part : (parts : List (Part Head)) (i : ℕ) (part : Part Head) → slice_get parts i ≡ Some part → drop i parts ≡ part ∷ drop (i + 1) parts
drop_at_part [] i part found = absurd cc
drop_at_part (first ∷ parts) zero part found = let same : first ≡ part = cc in ap (λ (p : Part Head). p ∷ parts) same
drop_at_part (first ∷ parts) (suc i) part found = let e : suc i + 1 ≡ suc (i + 1) = omega arith in rw e (drop_at_part parts i part found)

-- where bytes are to come, there is a part that has them
pub part_there : (parts : List (Part Head)) (i : ℕ) → 0 < length (joined (drop i parts)) → i < length parts
part_there parts i more = elim (cases_lt i (length parts)) [
  | inl lt ↦ lt
  | inr past ↦
      let none : length (joined (drop i parts)) ≡ 0 = rw (drop_all i parts past) refl in
      absurd (omega (arith, more, none))
]

-- the bytes from a part on are those of this part and of the others
joined_at : (parts : List (Part Head)) (i : ℕ) (part : Part Head) → slice_get parts i ≡ Some part → joined (drop i parts) ≡ part.bytes ++ joined (drop (i + 1) parts)
joined_at parts i part found = ap joined (drop_at_part parts i part found)

pub joined_at_len : (parts : List (Part Head)) (i : ℕ) (part : Part Head) → slice_get parts i ≡ Some part → length (joined (drop i parts)) ≡ length part.bytes + length (joined (drop (i + 1) parts))
joined_at_len parts i part found =
    ap (λ (bs : List ℕ). length bs) (joined_at parts i part found) ∙ length-append part.bytes (joined (drop (i + 1) parts))

-- so are those that are still to come ..
pub coming : (parts : List (Part Head)) (i left : ℕ) (part : Part Head) → slice_get parts i ≡ Some part
    → take left (joined (drop i parts)) ≡ take (min (length part.bytes) left) part.bytes ++ take (left - min (length part.bytes) left) (joined (drop (i + 1) parts))
coming parts i left part found =
    ap (take left) (joined_at parts i part found) ∙ take_parts left part.bytes (joined (drop (i + 1) parts))

-- .. also where some are skipped
pub coming_skipped : (parts : List (Part Head)) (i skip left : ℕ) (part : Part Head) (unread : List ℕ) → slice_get parts i ≡ Some part → unread ≡ drop (min skip (length part.bytes)) part.bytes
    → take left (drop skip (joined (drop i parts)))
    ≡ take (min (length unread) left) unread ++ take (left - min (length unread) left) (drop (skip - min skip (length part.bytes)) (joined (drop (i + 1) parts)))
coming_skipped parts i skip left part unread found is =
    let others = joined (drop (i + 1) parts) in
    let later = drop (skip - min skip (length part.bytes)) others in
    let rest : drop skip (joined (drop i parts)) ≡ unread ++ later =
    rw (joined_at parts i part found) (drop_parts skip part.bytes others ∙ ap (λ (bs : List ℕ). bs ++ later) (sym is)) in
    ap (take left) rest ∙ take_parts left unread later

-- the room after one more piece
pub filled_take : (into new piece : List ℕ) (filled n : ℕ) → filled ≤ length into → length piece ≡ n → new ≡ take filled into ++ piece ++ drop (filled + n) into
    → take (filled + n) new ≡ take filled into ++ piece
filled_take into new piece filled n within len is =
    rw is (take_at (take filled into ++ piece) (drop (filled + n) into) (filled + n) (omega (arith, length-append (take filled into) piece, length-take filled into, within, len)))

pub filled_drop : (into new piece before : List ℕ) (filled n : ℕ) → filled ≤ length into → length piece ≡ n → new ≡ take filled into ++ piece ++ drop (filled + n) into
    → drop filled into ≡ drop filled before → drop (filled + n) new ≡ drop (filled + n) before
filled_drop into new piece before filled n within len is same =
    let new_rest : drop (filled + n) new ≡ drop (filled + n) into =
    rw is (drop_at (take filled into ++ piece) (drop (filled + n) into) (filled + n) (omega (arith, length-append (take filled into) piece, length-take filled into, within, len))) in
    new_rest ∙ (sym (drop-drop n filled into) ∙ (ap (λ (bs : List ℕ). drop n bs) same ∙ drop-drop n filled before))

-- one more piece fills the room with what was to come
pub filled_more : (into new piece coming_now later goal : List ℕ) (filled n : ℕ) → take (filled + n) new ≡ take filled into ++ piece → coming_now ≡ piece ++ later
    → take filled into ++ coming_now ≡ goal → take (filled + n) new ++ later ≡ goal
filled_more into new piece coming_now later goal filled n front now is =
    rw front (append_assoc (take filled into) piece later ∙ ap (λ (bs : List ℕ). take filled into ++ bs) (sym now) ∙ is)

-- what isn't filled yet stays as it was
pub later_same : (into before : List ℕ) (filled count : ℕ) → filled ≤ count → drop filled into ≡ drop filled before → drop count into ≡ drop count before
later_same into before filled count le same =
    let more : filled + (count - filled) ≡ count = omega (arith, le) in
    ap (λ (n : ℕ). drop n into) (sym more) ∙ (sym (drop-drop (count - filled) filled into) ∙ (ap (drop (count - filled)) same ∙ (drop-drop (count - filled) filled before ∙ ap (λ (n : ℕ). drop n before) more)))
