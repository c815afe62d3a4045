-- What a whole message is, said without how it is found.
use Rattle.std.specs.Prelude.{◌≡◌, ℕ, ◌+◌, ◌<◌, ◌≤◌, true, false, List, [], ◌∷◌, ◌++◌, length, flat_map, Some}
use Rattle.udt_model.specs.ReceiveBlocks.{PlacedBlock, ReceiveBlocks, WholeMessage, is_taken, next_message}

-- the blocks follow one another from this offset on, are unconsumed and of one message, and the last of them, alone,
-- has the last flag
pub data IsRun (number : ℕ) : ℕ → List PlacedBlock → Type 0 where
  Ends : (block : PlacedBlock) → block.consumed ≡ false → block.flags.message ≡ number → block.flags.last ≡ true
      → IsRun number block.offset (block ∷ [])
  Goes : (block : PlacedBlock) (others : List PlacedBlock) → block.consumed ≡ false → block.flags.message ≡ number
      → block.flags.last ≡ false
      → IsRun number (block.offset + 1) others → IsRun number block.offset (block ∷ others)

-- the message's bytes are those of blocks that stand among the placed ones
pub record IsWhole (r : ReceiveBlocks) (m : WholeMessage) : Type 0 where
  pub before : List PlacedBlock
  pub first : PlacedBlock
  pub others : List PlacedBlock
  pub after : List PlacedBlock
  pub placed : r.placed ≡ before ++ (first ∷ others ++ after)
  pub begins : first.flags.first ≡ true
  pub run : IsRun first.flags.message m.first (first ∷ others)
  pub count : m.count ≡ length (first ∷ others)
  pub bytes : m.bytes ≡ flat_map (λ block. block.bytes) (first ∷ others)
  -- and where it must be delivered in order, nothing before it is missing
  pub in_order : first.flags.order ≡ true → (offset : ℕ) → r.base ≤ offset → offset < m.first → is_taken offset r.placed ≡ true

-- a message that is shown is whole
abbrev pub ShownIsWhole : Type 0
ShownIsWhole = (r : ReceiveBlocks) (m : WholeMessage) → next_message r ≡ Some m → IsWhole r m
