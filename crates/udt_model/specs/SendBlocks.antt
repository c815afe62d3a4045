-- What a sender keeps: the blocks that were accepted and not released, in order of their offsets.
use Rattle.std.specs.Prelude.{ℕ, zero, suc, ◌+◌, ◌-◌, ◌*◌, ◌/◌, ◌==◌, min, Bool, List, [], ◌∷◌, ◌++◌, length, take, drop, flat_map, Option, None, option_map, slice_get, nat_lt, if◌then◌else◌}
use Rattle.udt_model.specs.declared.packets.Flags.{Flags}

-- a message, of which no more is said than its blocks carry
pub record Message : Type 0 where
  pub number : ℕ
  -- it must be delivered in order
  pub order : Bool
  -- the moment after which it isn't retransmitted, where there is one, in microseconds
  pub expires : Option ℕ
  -- the offsets of its first and its last block
  pub first : ℕ
  pub last : ℕ

-- a block that was accepted and not released
pub record KeptBlock : Type 0 where
  pub message : Message
  pub flags : Flags
  pub bytes : List ℕ

-- what is kept
pub record SendBlocks : Type 0 where
  -- how many blocks there is room for, and the most bytes that a block may ever have
  pub blocks : ℕ
  pub room : ℕ
  -- the bytes of a full block
  pub payload : ℕ
  -- the offset of the first kept block, or of the next one where none is kept
  pub first : ℕ
  pub kept : List KeptBlock

-- the first offset that no block has yet
abbrev pub end_of : SendBlocks → ℕ
end_of s = s.first + length s.kept

-- how many more blocks may be kept now
abbrev pub free_of : SendBlocks → ℕ
free_of s = s.blocks - length s.kept

-- the kept bytes, joined
abbrev pub kept_bytes : SendBlocks → List ℕ
kept_bytes s = flat_map (λ block. block.bytes) s.kept

-- ---- accepting

-- how many of this many bytes are taken, in no more than this many blocks
abbrev pub accepted_of : SendBlocks → ℕ → ℕ → ℕ
accepted_of s len most = min len (min (free_of s) most * s.payload)

-- how many blocks of this payload this many bytes fill
abbrev pub count_for : ℕ → ℕ → ℕ
count_for len payload = (len + payload - 1) / payload

-- the second word of a message's block at this offset
abbrev pub flags_at : Message → ℕ → Flags
flags_at m offset = record {
  first = offset == m.first;
  last = offset == m.last;
  order = m.order;
  message = m.number;
}

-- this many blocks of a message from this offset on: each has the next bytes, as many as there are up to the payload
unfoldable pub blocks_of : Message → ℕ → ℕ → ℕ → List ℕ → List KeptBlock
blocks_of m payload offset zero bytes = []
blocks_of m payload offset (suc more) bytes =
    record { message = m; flags = flags_at m offset; bytes = take payload bytes }
    ∷ blocks_of m payload (offset + 1) more (drop payload bytes)

-- the message that this many blocks make after those that are kept
abbrev pub following_message : SendBlocks → ℕ → ℕ → Bool → Option ℕ → Message
following_message s count number order expires =
    record { number = number; order = order; expires = expires; first = end_of s; last = end_of s + count - 1 }

-- what is kept with these bytes too, as one message
abbrev pub with_bytes : SendBlocks → ℕ → Bool → Option ℕ → List ℕ → SendBlocks
with_bytes s number order expires bytes =
    let count = count_for (length bytes) s.payload in
    record s { kept = s.kept ++ blocks_of (following_message s count number order expires) s.payload (end_of s) count bytes }

-- what is kept after as many of these bytes were taken as fit
abbrev pub after_accept : SendBlocks → List ℕ → ℕ → ℕ → Bool → Option ℕ → SendBlocks
after_accept s bytes most number order expires =
    with_bytes s number order expires (take (accepted_of s (length bytes) most) bytes)

-- ---- looking up, releasing

-- the kept block of this offset, where it is kept
abbrev pub kept_at : SendBlocks → ℕ → Option KeptBlock
kept_at s offset = if nat_lt offset s.first then None else slice_get s.kept (offset - s.first)

-- the offsets of the first and the last block of a block's message
abbrev pub ends_of : KeptBlock → ℕ × ℕ
ends_of block = (block.message.first, block.message.last)

-- the first and the last offset of the message to which the kept block of this offset belongs
abbrev pub message_at : SendBlocks → ℕ → Option (ℕ × ℕ)
message_at s offset = option_map ends_of (kept_at s offset)

-- what is kept once all blocks below this offset were released
abbrev pub after_release : SendBlocks → ℕ → SendBlocks
after_release s offset = record s { first = offset; kept = drop (offset - s.first) s.kept }
