-- The bytes of parts, joined.
use Rattle.std.proofs.Common.{◌≡◌, ℕ, zero, suc, ◌+◌, ◌-◌, ◌*◌, ◌^◌, ◌<◌, ◌≤◌, List, [], ◌∷◌, ◌++◌, length, take, drop, set, Some, refl, ap, ◌∙◌, arith}
use Rattle.std.specs.Prelude.{All, slice_get}
use Rattle.std.proofs.Math.Nat.{mul-le-mul}
use Rattle.std.proofs.lemmas.List.{append-nil, length-append, take_more, take-append-drop}
use Rattle.std.proofs.lemmas.List.Concat.{flat_map-append}
use Rattle.std.proofs.lemmas.List.Elements.{All-head, All-tail}
use Rattle.std.proofs.lemmas.Option.{slice_get_within, get_or_from_slice_get}
use Rattle.udt_ring.specs.Parts.{Part, joined}

module _ {H : Type 0} where
  pub joined-append : (xs ys : List (Part H)) → joined (xs ++ ys) ≡ joined xs ++ joined ys
  joined-append xs ys = flat_map-append (λ (part : Part H). part.bytes) xs ys

  -- the bytes of the first parts, with one more
  pub joined_more : (parts : List (Part H)) (i : ℕ) (part : Part H) → slice_get parts i ≡ Some part → joined (take (i + 1) parts) ≡ joined (take i parts) ++ part.bytes
  joined_more parts i part found =
      let within = slice_get_within parts i part found in
      let more : take (i + 1) parts ≡ take i parts ++ part ∷ [] = take_more parts i part within ∙ rw (get_or_from_slice_get parts i part part found) refl in
      ap joined more ∙ joined-append (take i parts) (part ∷ []) ∙ ap (λ (bs : List ℕ). joined (take i parts) ++ bs) (append-nil part.bytes)

  -- all parts have no more bytes than there is room for
  pub joined_within : (room : ℕ) (parts : List (Part H)) → All (λ part. length part.bytes ≤ room) parts → length (joined parts) ≤ length parts * room
  joined_within room [] short = omega arith
  joined_within room (part ∷ parts) short =
      let here : length part.bytes ≤ room = All-head (λ (part : Part H). length part.bytes ≤ room) part parts short in
      let rest = joined_within room parts (All-tail (λ (part : Part H). length part.bytes ≤ room) part parts short) in
      let all : suc (length parts) * room ≡ room + length parts * room = omega arith in
      omega (arith, here, rest, all, length-append part.bytes (joined parts))

  -- so all their bytes can be counted
  pub joined_fits : (room : ℕ) (parts : List (Part H)) → All (λ part. length part.bytes ≤ room) parts → length parts ≤ 2 ^ 32 → room < 2 ^ 32 → length (joined parts) < 2 ^ 64
  joined_fits room parts short few small =
      let all = joined_within room parts short in
      let most : length parts * room ≤ 2 ^ 32 * (2 ^ 32 - 1) = mul-le-mul {m₂ = 2 ^ 32 - 1} few (omega (arith, small)) in
      omega (arith, all, most)

  -- and those of the first parts are among them
  pub joined-take_le : (n : ℕ) (parts : List (Part H)) → length (joined (take n parts)) ≤ length (joined parts)
  joined-take_le n parts =
      let split = ap (λ (ps : List (Part H)). length (joined ps)) (take-append-drop n parts) in
      let both = ap (λ (bs : List ℕ). length bs) (joined-append (take n parts) (drop n parts)) in
      omega (arith, split, both, length-append (joined (take n parts)) (joined (drop n parts)))

  -- a part with no bytes takes its bytes away
  pub joined-set : (parts : List (Part H)) (i : ℕ) (part new : Part H) → slice_get parts i ≡ Some part → length (joined (set parts i new)) + length part.bytes ≡ length (joined parts) + length new.bytes
  joined-set [] i part new found = absurd cc
  joined-set (first ∷ parts) zero part new found =
      let same : first ≡ part = cc in
      let len = ap (λ (p : Part H). length p.bytes) same in
      omega (arith, len, length-append new.bytes (joined parts), length-append first.bytes (joined parts))
  joined-set (first ∷ parts) (suc i) part new found =
      let rest = joined-set parts i part new found in
      omega (arith, rest, length-append first.bytes (joined (set parts i new)), length-append first.bytes (joined parts))

  pub joined_more_len : (parts : List (Part H)) (i : ℕ) (part : Part H) → slice_get parts i ≡ Some part → length (joined (take (i + 1) parts)) ≡ length (joined (take i parts)) + length part.bytes
  joined_more_len parts i part found = rw (joined_more parts i part found) (length-append (joined (take i parts)) part.bytes)
