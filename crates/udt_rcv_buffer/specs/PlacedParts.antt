-- The blocks that parts of the memory hold, from the offset of the first part on.
use Rattle.std.specs.Prelude.{◌≡◌, ℕ, zero, suc, ◌+◌, ◌<◌, ◌≤◌, true, false, List, [], ◌∷◌, length, take, slice_get, slice_set, Some, if◌then◌else◌}
use Rattle.udt_model.specs.ReceiveBlocks.{PlacedBlock}
use Rattle.udt_rcv_buffer.specs.declared.head.TheConstants.{CONSUMED}
use Rattle.udt_rcv_buffer.specs.declared.head.Head.{Head}
use Rattle.udt_ring.specs.Parts.{Part, joined}

-- a block was placed in the part, or its offset was consumed
abbrev pub IsUsed : Part Head → Type 0
IsUsed part = part.head.used ≡ true

abbrev pub IsUnused : Part Head → Type 0
IsUnused part = part.head.used ≡ false

-- the block in the part of this offset
abbrev pub block_in : ℕ → Part Head → PlacedBlock
block_in offset part =
    record { offset = offset; flags = part.head.flags; bytes = part.bytes; consumed = part.head.consumed }

-- the blocks in the parts from this offset on
unfoldable pub placed_from : ℕ → List (Part Head) → List PlacedBlock
placed_from offset [] = []
placed_from offset (part ∷ parts) =
    if part.head.used then block_in offset part ∷ placed_from (offset + 1) parts else placed_from (offset + 1) parts

-- a part that is consumed
abbrev pub consumed_part : Part Head
consumed_part = record { head = CONSUMED; bytes = [] }

-- the parts with this many from this place on consumed
unfoldable pub consume_parts : ℕ → ℕ → List (Part Head) → List (Part Head)
consume_parts at zero parts = parts
consume_parts at (suc count) parts = slice_set (consume_parts at count parts) (at + count) consumed_part

-- some bytes of the block in a part were given, and not all; or no block is there, and none were
pub record IsGiven (given : ℕ) (part : Part Head) : Type 0 where
  pub block : part.head.used ≡ true → given < length part.bytes
  pub none : part.head.used ≡ false → given ≡ 0

-- this many bytes of the first part were given
abbrev pub IsSettled : ℕ → List (Part Head) → Type 0
IsSettled given [] = given ≡ 0
IsSettled given (part ∷ parts) = IsGiven given part

-- what was given is all bytes of this many first parts, which are in the run, and as many more as are left, fewer than
-- the run's next part has
pub record ArePassed (run given count left : ℕ) (parts : List (Part Head)) : Type 0 where
  pub within : count ≤ run
  pub bytes : length (joined (take count parts)) + left ≡ given
  pub next : count < run → (part : Part Head) → slice_get parts count ≡ Some part → left < length part.bytes
