-- How blocks are kept and released, by the parts that hold them.
use Rattle.std.proofs.Common.{◌≡◌, ℕ, zero, suc, ◌+◌, ◌-◌, ◌*◌, ◌/◌, ◌<◌, ◌≤◌, List, [], ◌∷◌, ◌++◌, map, length, take, drop, set, replicate, Some, refl, ap, ◌∙◌, arith, append_assoc, inl, inr}
use Rattle.std.specs.Prelude.{slice_get, flat_map, All}
use Rattle.std.specs.Int.{div_ceil}
use Rattle.std.proofs.Math.Nat.{div-lt_iff_lt-mul, mul-le-mul_right}
use Rattle.std.proofs.lemmas.Grind.{div_ceil_times}
use Rattle.std.proofs.lemmas.Bool.{le-ltb, cases_lt}
use Rattle.std.proofs.lemmas.List.{take_more_set, map_push, drop-map, drop-take, take-append-le, length-take, length-drop, take-append-drop}
use Rattle.std.proofs.lemmas.List.Elements.{All-nil, All-cons, All-get_or}
use Rattle.std.proofs.lemmas.List.Concat.{flat_map-append}
use Rattle.std.proofs.lemmas.Option.{slice_get-map, slice_get_within, get_or_from_slice_get}
use Rattle.udt_model.specs.SendBlocks.{Message, KeptBlock, SendBlocks, flags_at, blocks_of, count_for, kept_at}
use Rattle.udt_snd_buffer.specs.declared.head.Head.{Head}
use Rattle.udt_ring.specs.Parts.{Part}
use Rattle.udt_snd_buffer.specs.KeptParts.{kept_block_of, IsCut}
use Rattle.udt_ring.proofs.TurnLemmas.{slice_get-take}

-- ---- keeping

-- one more part is kept
kept_more : (parts : List (Part Head)) (kept : ℕ) (part : Part Head) → kept < length parts
    → map kept_block_of (take (kept + 1) (set parts kept part)) ≡ map kept_block_of (take kept parts) ++ kept_block_of part ∷ []
kept_more parts kept part lt =
    ap (map kept_block_of) (take_more_set parts kept part lt) ∙ map_push kept_block_of (take kept parts) part

-- the first block of some, and the others
blocks_more : (m : Message) (payload offset count more : ℕ) (bytes : List ℕ) → count ≡ suc more
    → blocks_of m payload offset count bytes
    ≡ record { message = m; flags = flags_at m offset; bytes = take payload bytes } ∷ blocks_of m payload (offset + 1) more (drop payload bytes)
unfolding blocks_of
blocks_more m payload offset count more bytes is = rw is refl

-- one block is kept, and the others are left to keep
pub keeps_one : (m : Message) (payload offset count more kept : ℕ) (parts : List (Part Head)) (part : Part Head) (bytes : List ℕ)
    → kept < length parts → count ≡ suc more → kept_block_of part ≡ record { message = m; flags = flags_at m offset; bytes = take payload bytes }
    → map kept_block_of (take (kept + 1) (set parts kept part)) ++ blocks_of m payload (offset + 1) more (drop payload bytes)
    ≡ map kept_block_of (take kept parts) ++ blocks_of m payload offset count bytes
keeps_one m payload offset count more kept parts part bytes lt is block =
    let blocks = blocks_of m payload (offset + 1) more (drop payload bytes) in
    ap (λ (bs : List KeptBlock). bs ++ blocks) (kept_more parts kept part lt) ∙ append_assoc (map kept_block_of (take kept parts)) (kept_block_of part ∷ []) blocks
    ∙ rw (block, blocks_more m payload offset count more bytes is) refl

-- none is left
pub keeps_none : (m : Message) (payload offset : ℕ) (bytes : List ℕ) → blocks_of m payload offset 0 bytes ≡ []
unfolding blocks_of
keeps_none m payload offset bytes = refl

-- ---- what is taken

-- this many bytes fill no more blocks than they fit into
pub count_within : (len payload blocks : ℕ) → 0 < payload → len ≤ blocks * payload → count_for len payload ≤ blocks
count_within len payload blocks some le =
    let all : suc blocks * payload ≡ payload + blocks * payload = omega arith in
    let lt : len + payload - 1 < suc blocks * payload = omega (arith, le, all, some) in
    let few : (len + payload - 1) / payload < suc blocks = (div-lt_iff_lt-mul some).1 lt in
    omega (arith, few)

-- and they do fit into as many
pub count_fits : (len payload : ℕ) → 0 < payload → len ≤ count_for len payload * payload
count_fits len payload some =
    let all : suc (count_for len payload) * payload ≡ payload + count_for len payload * payload = omega arith in
    let lt : len + payload - 1 < suc (count_for len payload) * payload = (div-lt_iff_lt-mul some).0 (omega arith) in
    omega (arith, lt, all, some)

-- the blocks of bytes that fit, joined, are the bytes
pub joined_blocks : (m : Message) (payload offset count : ℕ) (bytes : List ℕ) → length bytes ≤ count * payload
    → flat_map (λ (block : KeptBlock). block.bytes) (blocks_of m payload offset count bytes) ≡ bytes
unfolding blocks_of
joined_blocks m payload offset zero [] fits = refl
joined_blocks m payload offset zero (byte ∷ bytes) fits = absurd (omega (arith, fits))
joined_blocks m payload offset (suc more) bytes fits =
    let all : suc more * payload ≡ payload + more * payload = omega arith in
    let rest = joined_blocks m payload (offset + 1) more (drop payload bytes) (omega (arith, fits, all, length-drop payload bytes)) in
    rw rest (take-append-drop payload bytes)

-- what is kept with some blocks more, joined
pub joined_more : (kept : List KeptBlock) (m : Message) (payload offset count : ℕ) (bytes : List ℕ) → length bytes ≤ count * payload
    → flat_map (λ (block : KeptBlock). block.bytes) (kept ++ blocks_of m payload offset count bytes) ≡ flat_map (λ (block : KeptBlock). block.bytes) kept ++ bytes
joined_more kept m payload offset count bytes fits =
    flat_map-append (λ (block : KeptBlock). block.bytes) kept (blocks_of m payload offset count bytes)
    ∙ ap (λ (bs : List ℕ). flat_map (λ (block : KeptBlock). block.bytes) kept ++ bs) (joined_blocks m payload offset count bytes fits)

-- ---- how blocks are cut

-- blocks that are all full but the last one, which has some bytes
pub blocks_of-cut : (m : Message) (payload offset count : ℕ) (bytes : List ℕ) → 0 < payload → count * payload < length bytes + payload
    → All (IsCut payload) (blocks_of m payload offset count bytes)
unfolding blocks_of
blocks_of-cut m payload offset zero bytes some few = All-nil (IsCut payload)
blocks_of-cut m payload offset (suc more) bytes some few =
    let all : suc more * payload ≡ payload + more * payload = omega arith in
    let first : KeptBlock = record { message = m; flags = flags_at m offset; bytes = take payload bytes } in
    All-cons (IsCut payload) first (blocks_of m payload (offset + 1) more (drop payload bytes))
    (record { some = omega (arith, few, all, some, length-take payload bytes); short = omega (arith, length-take payload bytes) })
    (blocks_of-cut m payload (offset + 1) more (drop payload bytes) some (omega (arith, few, all, length-drop payload bytes)))

-- a kept part is cut so
pub kept_cut : (payload kept i : ℕ) (parts : List (Part Head)) (part : Part Head) → All (IsCut payload) (map kept_block_of (take kept parts))
    → i < kept → slice_get parts i ≡ Some part → IsCut payload (kept_block_of part)
kept_cut payload kept i parts part cut lt found =
    let there : slice_get (take kept parts) i ≡ Some part = slice_get-take kept i parts lt ∙ found in
    let block : slice_get (map kept_block_of (take kept parts)) i ≡ Some (kept_block_of part) = rw (slice_get-map kept_block_of (take kept parts) i, there) refl in
    rw (get_or_from_slice_get (map kept_block_of (take kept parts)) i (kept_block_of part) (kept_block_of part) block)
    at (All-get_or (IsCut payload) (map kept_block_of (take kept parts)) i (kept_block_of part) (slice_get_within (map kept_block_of (take kept parts)) i (kept_block_of part) block) cut)

-- ---- looking up, releasing

-- a kept part is found by its offset
pub kept_found : (s : SendBlocks) (parts : List (Part Head)) (kept offset : ℕ) (part : Part Head) → s.kept ≡ map kept_block_of (take kept parts)
    → s.first ≤ offset → offset - s.first < kept → slice_get parts (offset - s.first) ≡ Some part → kept_at s offset ≡ Some (kept_block_of part)
kept_found s parts kept offset part is from lt found =
    let there : slice_get (take kept parts) (offset - s.first) ≡ Some part = slice_get-take kept (offset - s.first) parts lt ∙ found in
    rw (le-ltb offset s.first from, is, slice_get-map kept_block_of (take kept parts) (offset - s.first), there) refl

-- the parts after those that are released are kept
pub released : (parts : List (Part Head)) (kept count : ℕ) (empty : Part Head) → count ≤ kept → kept ≤ length parts
    → map kept_block_of (take (kept - count) (drop count parts ++ replicate count empty)) ≡ drop count (map kept_block_of (take kept parts))
released parts kept count empty few within =
    let long : kept - count ≤ length (drop count parts) = omega (arith, within, length-drop count parts) in
    let front = take-append-le (kept - count) (drop count parts) (replicate count empty) long in
    let again : count + (kept - count) ≡ kept = omega (arith, few) in
    let back = rw again at (drop-take count (kept - count) parts) in
    rw (front, drop-map kept_block_of count (take kept parts), back) refl

-- the least count of blocks, as division with the rest rounded up
pub count_is : (len payload : ℕ) → 0 < payload → div_ceil len payload ≡ count_for len payload
count_is len payload some =
    let times = div_ceil_times len payload some in
    let above = count_within len payload (div_ceil len payload) some times.0 in
    let fits = count_fits len payload some in
    elim (cases_lt (count_for len payload) (div_ceil len payload)) [
      | inl less ↦
          let all : suc (count_for len payload) * payload ≡ payload + count_for len payload * payload = omega arith in
          let le : suc (count_for len payload) * payload ≤ div_ceil len payload * payload = mul-le-mul_right payload (omega (arith, less)) in
          absurd (omega (arith, times.1, fits, all, le))
      | inr no_less ↦ omega (arith, above, no_less)
    ]
