-- Kept blocks: where one is found, and that each can be sent.
use Rattle.std.proofs.Common.{◌≡◌, ℕ, zero, suc, ◌+◌, ◌-◌, ◌*◌, ◌<◌, ◌≤◌, ◌^◌, Bool, List, [], ◌∷◌, ◌++◌, length, take, drop, min, Option, Some, None, refl, ap, subst, ◌∙◌, arith}
use Rattle.std.specs.Prelude.{slice_get, option_map, All}
use Rattle.std.proofs.Math.Nat.{div-mul-le_self}
use Rattle.std.proofs.lemmas.Bool.{le-ltb}
use Rattle.std.proofs.lemmas.List.{length-take, length-drop, length-append}
use Rattle.std.proofs.lemmas.List.Elements.{All-nil, All-cons, All-append}
use Rattle.std.proofs.lemmas.Option.{slice_get_within, get_or_from_slice_get}
use Rattle.udt_model.specs.declared.packets.Flags.{Flags}
use Rattle.udt_model.specs.SendBlocks.{Message, KeptBlock, SendBlocks, end_of, free_of, accepted_of, count_for, blocks_of, flags_at, following_message, after_accept, kept_at}
use Rattle.udt_model.specs.Wire.{Block, DropAsk, spelling}
use Rattle.udt_snd_buffer.specs.Shown.{Shown, shown_of}
use Rattle.udt_snd_buffer.proofs.KeptLemmas.{count_within}
use Rattle.udt_sender.specs.Packets.{IsSound}

-- a data packet has four words in front of its bytes
pub length-spelling : (seq : ℕ) (flags : Flags) (stamp dest : ℕ) (bytes : List ℕ) → length (spelling (Block seq flags stamp dest bytes)) ≡ 16 + length bytes
unfolding spelling
length-spelling seq flags stamp dest bytes = omega arith

-- one that asks to drop a message has two words after them
pub length-drop_spelling : (message stamp dest first last : ℕ) → length (spelling (DropAsk message stamp dest first last)) ≡ 24
unfolding spelling
length-drop_spelling message stamp dest first last = omega arith

-- ---- looking up

-- a block is kept under each offset from the first on and before the end
pub kept_is : (s : SendBlocks) (offset : ℕ) → s.first ≤ offset → offset < end_of s → (block : KeptBlock) × (kept_at s offset ≡ Some block)
kept_is s offset from to = let there = found s.kept (offset - s.first) (omega (arith, from, to)) in (there.0, rw (le-ltb offset s.first from) there.1)
  where
    found : (kept : List KeptBlock) (place : ℕ) → place < length kept → (block : KeptBlock) × (slice_get kept place ≡ Some block)
    found [] place within = absurd (omega (arith, within))
    found (block ∷ blocks) zero within = (block, refl)
    found (block ∷ blocks) (suc place) within = found blocks place (omega (arith, within))

-- what is found under an offset is one of the kept blocks
at_place : (s : SendBlocks) (offset : ℕ) (block : KeptBlock) → kept_at s offset ≡ Some block → slice_get s.kept (offset - s.first) ≡ Some block
at_place s offset block found = grind arith

-- and it can be sent, as each of them can
pub found_sound : (payload : ℕ) (s : SendBlocks) (offset : ℕ) (block : KeptBlock) → All (IsSound payload) s.kept → kept_at s offset ≡ Some block → IsSound payload block
found_sound payload s offset block sound found =
    let there = at_place s offset block found in
    subst (IsSound payload) (get_or_from_slice_get s.kept (offset - s.first) block block there) (sound (offset - s.first) block (slice_get_within s.kept (offset - s.first) block there))

-- what is shown is shown of a block that is found
pub shown_found : (x : Shown) (found : Option KeptBlock) → Some x ≡ option_map shown_of found → (block : KeptBlock) × (found ≡ Some block) × (x ≡ shown_of block)
shown_found x None is = cc
shown_found x (Some block) is = (block, refl, cc)

-- nothing is shown where nothing is found
pub none_found : (found : Option KeptBlock) → None ≡ option_map shown_of found → found ≡ None
none_found None is = refl
none_found (Some block) is = absurd (cc)

-- ---- accepting

-- blocks that are cut from enough bytes can all be sent
cut_sound : (m : Message) (payload offset count : ℕ) (bytes : List ℕ) → m.number < 2 ^ 29 → 0 < payload → count * payload < length bytes + payload
    → All (IsSound payload) (blocks_of m payload offset count bytes)
unfolding blocks_of
cut_sound m payload offset zero bytes number some enough = All-nil (IsSound payload)
cut_sound m payload offset (suc more) bytes number some enough =
    let all : suc more * payload ≡ payload + more * payload = omega arith in
    let block : KeptBlock = record { message = m; flags = flags_at m offset; bytes = take payload bytes } in
    let head : IsSound payload block = record {
      number = refl;
      message = number;
      some = omega (arith, enough, all, length-take payload bytes);
      fits = omega (arith, length-take payload bytes);
    } in
    let rest : more * payload < length (drop payload bytes) + payload = omega (arith, enough, all, length-drop payload bytes) in
    All-cons (IsSound payload) block _ head (cut_sound m payload (offset + 1) more (drop payload bytes) number some rest)

pub length-blocks_of : (m : Message) (payload offset count : ℕ) (bytes : List ℕ) → length (blocks_of m payload offset count bytes) ≡ count
unfolding blocks_of
length-blocks_of m payload offset zero bytes = refl
length-blocks_of m payload offset (suc more) bytes = ap suc (length-blocks_of m payload (offset + 1) more (drop payload bytes))

-- bytes are enough for as many blocks as they fill
enough : (len payload : ℕ) → 0 < payload → count_for len payload * payload < len + payload
enough len payload some = omega (arith, div-mul-le_self (len + payload - 1) payload)

-- what is kept can still be sent once more was accepted
pub accept_sound : (s : SendBlocks) (bytes : List ℕ) (most number : ℕ) (order : Bool) (expires : Option ℕ) → number < 2 ^ 29 → 0 < s.payload → All (IsSound s.payload) s.kept
    → All (IsSound s.payload) (after_accept s bytes most number order expires).kept
accept_sound s bytes most number order expires fits some sound =
    let taken = take (accepted_of s (length bytes) most) bytes in
    let count = count_for (length taken) s.payload in
    let message = following_message s count number order expires in
    All-append (IsSound s.payload) s.kept _ sound (cut_sound message s.payload (end_of s) count taken fits some (enough (length taken) s.payload some))

-- no more is kept than there is room for, and no more is added than is allowed
pub accept_kept : (s : SendBlocks) (bytes : List ℕ) (most number : ℕ) (order : Bool) (expires : Option ℕ) → 0 < s.payload
    → (length s.kept ≤ length (after_accept s bytes most number order expires).kept)
    × (length (after_accept s bytes most number order expires).kept ≤ length s.kept + min (free_of s) most)
accept_kept s bytes most number order expires some =
    let taken = take (accepted_of s (length bytes) most) bytes in
    let count = count_for (length taken) s.payload in
    let blocks = blocks_of (following_message s count number order expires) s.payload (end_of s) count taken in
    let within : length taken ≤ min (free_of s) most * s.payload = omega (arith, length-take (accepted_of s (length bytes) most) bytes) in
    let few : count ≤ min (free_of s) most = count_within (length taken) s.payload (min (free_of s) most) some within in
    let total : length (s.kept ++ blocks) ≡ length s.kept + count =
    length-append s.kept blocks ∙ ap (λ (n : ℕ). length s.kept + n) (length-blocks_of (following_message s count number order expires) s.payload (end_of s) count taken) in
    (omega (arith, total), omega (arith, total, few))
