-- What a receiver has: the blocks that arrived, in order of their offsets, until they are read.
use Rattle.std.specs.Prelude.{ℕ, zero, suc, ◌+◌, ◌-◌, ◌==◌, max, Bool, true, false, not, ◌&&◌, ◌||◌, List, [], ◌∷◌, ◌++◌, length, drop, Option, Some, None, option_map, nat_lt, nat_le, if◌then◌else◌}
use Rattle.std.specs.List.{list_any}
use Rattle.std.specs.Option.{option_or}
use Rattle.udt_model.specs.declared.answers.Placed.{Placed}
use Rattle.udt_model.specs.declared.answers.Placed.TheVariants as placing
use Rattle.udt_model.specs.declared.packets.Flags.{Flags}

-- a block that arrived, at its offset. One that is consumed has no bytes any more
pub record PlacedBlock : Type 0 where
  pub offset : ℕ
  pub flags : Flags
  pub bytes : List ℕ
  pub consumed : Bool

-- what was received
pub record ReceiveBlocks : Type 0 where
  -- the most bytes of a block, and how many offsets from the base on there is room for
  pub payload : ℕ
  pub capacity : ℕ
  -- the first offset that isn't consumed
  pub base : ℕ
  -- how many bytes of the block at the base were given
  pub given : ℕ
  -- the blocks from the base on, in rising order of their offsets
  pub placed : List PlacedBlock

-- ---- placing

-- a block was placed at this offset, or the offset was consumed
abbrev pub is_taken : ℕ → List PlacedBlock → Bool
is_taken offset placed = list_any (λ block. block.offset == offset) placed

-- what becomes of a block of this offset
unfoldable pub placing_of : ReceiveBlocks → ℕ → Placed
placing_of r offset =
    if nat_lt offset r.base
    then placing.Below
    else (if nat_le (r.base + r.capacity) offset then placing.Above else (if is_taken offset r.placed then placing.Double else placing.New))

-- the blocks with this one at its offset
unfoldable pub put_block : PlacedBlock → List PlacedBlock → List PlacedBlock
put_block block [] = block ∷ []
put_block block (first ∷ others) =
    if nat_lt block.offset first.offset
    then block ∷ first ∷ others
    else (if block.offset == first.offset then block ∷ others else first ∷ put_block block others)

-- a block that arrived just now
abbrev pub arrived_at : ℕ → Flags → List ℕ → PlacedBlock
arrived_at offset flags bytes = record { offset = offset; flags = flags; bytes = bytes; consumed = false }

abbrev pub after_placing_of : ReceiveBlocks → PlacedBlock → Placed → ReceiveBlocks
after_placing_of r block placing.New = record r { placed = put_block block r.placed }
after_placing_of r block placing.Below = r
after_placing_of r block placing.Above = r
after_placing_of r block placing.Double = r

-- what was received with a block of this offset, where it is new
unfoldable pub after_place : ReceiveBlocks → ℕ → Flags → List ℕ → ReceiveBlocks
after_place r offset flags bytes = after_placing_of r (arrived_at offset flags bytes) (placing_of r offset)

-- ---- reading bytes

-- the bytes of the blocks that follow one another from this offset on
unfoldable pub bytes_from : ℕ → List PlacedBlock → List ℕ
bytes_from offset [] = []
bytes_from offset (block ∷ others) = if block.offset == offset then block.bytes ++ bytes_from (offset + 1) others else []

-- the bytes that wait to be read
abbrev pub waiting_of : ReceiveBlocks → List ℕ
waiting_of r = drop r.given (bytes_from r.base r.placed)

-- where what was received begins: the base, the bytes given there, and the blocks from it on
pub record Beginning : Type 0 where
  pub base : ℕ
  pub given : ℕ
  pub placed : List PlacedBlock

-- where it begins once this many bytes from an offset on were given: no block that has none left stands at the base
unfoldable pub beginning : ℕ → ℕ → List PlacedBlock → Beginning
beginning base given [] = record { base = base; given = given; placed = [] }
beginning base given (block ∷ others) =
    if block.offset == base && nat_le (length block.bytes) given
    then beginning (base + 1) (given - length block.bytes) others
    else record { base = base; given = given; placed = block ∷ others }

abbrev pub begins_at : ReceiveBlocks → Beginning → ReceiveBlocks
begins_at r b = record r { base = b.base; given = b.given; placed = b.placed }

-- what is left once this many of the waiting bytes were read
abbrev pub after_bytes : ReceiveBlocks → ℕ → ReceiveBlocks
after_bytes r count = begins_at r (beginning r.base (r.given + count) r.placed)

-- ---- consuming offsets

-- what is left of a block once it is consumed, and what stands for a block that needn't come any more
abbrev pub consumed_at : ℕ → PlacedBlock
consumed_at offset = record {
  offset = offset;
  flags = record { first = false; last = false; order = false; message = 0 };
  bytes = [];
  consumed = true;
}

-- the blocks with this many offsets from this one on consumed
unfoldable pub with_consumed : ℕ → ℕ → List PlacedBlock → List PlacedBlock
with_consumed from zero placed = placed
with_consumed from (suc count) placed = put_block (consumed_at (from + count)) (with_consumed from count placed)

-- of a block that is consumed no byte was given
abbrev pub given_after : ReceiveBlocks → ℕ → ℕ → ℕ
given_after r from count = if nat_le from r.base && nat_lt r.base (from + count) then 0 else r.given

-- what is left once this many offsets from this one on, which isn't below the base, are consumed
abbrev pub after_consuming : ReceiveBlocks → ℕ → ℕ → ReceiveBlocks
after_consuming r from count =
    begins_at r (beginning r.base (given_after r from count) (with_consumed from count r.placed))

-- the offsets of a range are consumed, those below the base already
abbrev pub after_skip : ReceiveBlocks → ℕ → ℕ → ReceiveBlocks
after_skip r first last = after_consuming r (max first r.base) (last + 1 - max first r.base)

-- ---- reading messages

-- a message that was received whole: its first offset, its blocks, and its bytes
pub record WholeMessage : Type 0 where
  pub first : ℕ
  pub count : ℕ
  pub bytes : List ℕ

-- a message with one block more at its beginning
abbrev pub with_first : PlacedBlock → WholeMessage → WholeMessage
with_first block m = record { first = block.offset; count = m.count + 1; bytes = block.bytes ++ m.bytes }

-- the block stands at this offset, has this message's number, and isn't consumed
abbrev pub goes_on : ℕ → ℕ → PlacedBlock → Bool
goes_on offset number block = block.offset == offset && (not block.consumed && block.flags.message == number)

-- what is there of a message from this offset on, where its blocks follow one another up to a last one
unfoldable pub up_to_last : ℕ → ℕ → List PlacedBlock → Option WholeMessage
up_to_last offset number [] = None
up_to_last offset number (block ∷ others) =
    if goes_on offset number block
    then (if block.flags.last
    then Some (record { first = offset; count = 1; bytes = block.bytes })
    else option_map (with_first block) (up_to_last (offset + 1) number others))
    else None

-- a message that may be shown begins with this block: one that must be delivered in order waits for all before it
abbrev pub may_begin : Bool → PlacedBlock → Bool
may_begin gapless block = block.flags.first && (not block.flags.order || gapless)

-- the first message that is whole and may be shown, of these blocks. No offset is missing before this one, or one is
unfoldable pub message_from : ℕ → Bool → List PlacedBlock → Option WholeMessage
message_from offset gapless [] = None
message_from offset gapless (block ∷ others) =
    let still = gapless && block.offset == offset in
    option_or
    (if may_begin still block then up_to_last block.offset block.flags.message (block ∷ others) else None)
    (message_from (block.offset + 1) still others)

-- the message that is read next
abbrev pub next_message : ReceiveBlocks → Option WholeMessage
next_message r = message_from r.base true r.placed

-- what is left once this message was read
abbrev pub after_message : ReceiveBlocks → WholeMessage → ReceiveBlocks
after_message r m = after_consuming r m.first m.count

-- what is left once the next message was read into so much room: one that doesn't fit stays
abbrev pub after_found : ReceiveBlocks → ℕ → Option WholeMessage → ReceiveBlocks
after_found r room None = r
after_found r room (Some m) = if nat_le (length m.bytes) room then after_message r m else r

abbrev pub after_read_message : ReceiveBlocks → ℕ → ReceiveBlocks
after_read_message r room = after_found r room (next_message r)
