-- Which message a receiving half gives next, by what it is and not by a search.
use Rattle.std.specs.Prelude.{◌≡◌, ℕ, ◌+◌, ◌<◌, ◌≤◌, true, false, List, [], ◌∷◌, length, map, Option, Some, None}
use Rattle.std.specs.List.{Contains, concat}
use Rattle.udt_model.specs.ReceiveBlocks.{PlacedBlock, ReceiveBlocks, WholeMessage, is_taken}

-- the block is placed at this offset, isn't consumed, and is of the message with this number
pub record IsPartOf (b : ReceiveBlocks) (offset number : ℕ) (block : PlacedBlock) : Type 0 where
  pub among : Contains b.placed block
  pub at : block.offset ≡ offset
  pub unread : block.consumed ≡ false
  pub numbered : block.flags.message ≡ number

-- these blocks are parts of one message, the first at this offset and each at the next one. The last of them ends the
-- message, and no other does
abbrev pub AreParts : ReceiveBlocks → ℕ → ℕ → List PlacedBlock → Type 0
AreParts b offset number [] = ⊥
AreParts b offset number (block ∷ []) = IsPartOf b offset number block × (block.flags.last ≡ true)
AreParts b offset number (block ∷ next ∷ others) =
    IsPartOf b offset number block × (block.flags.last ≡ false) × AreParts b (offset + 1) number (next ∷ others)

-- a message is readable: all its blocks are placed, the first one begins it, and where that one must be delivered in order
-- each offset before it is placed or consumed
pub record IsReadable (b : ReceiveBlocks) (m : WholeMessage) : Type 0 where
  pub first : PlacedBlock
  pub others : List PlacedBlock
  pub parts : AreParts b m.first first.flags.message (first ∷ others)
  pub begins : first.flags.first ≡ true
  pub in_order : first.flags.order ≡ true → (n : ℕ) → b.base ≤ n → n < m.first → is_taken n b.placed ≡ true
  pub count : m.count ≡ length (first ∷ others)
  pub joined : m.bytes ≡ concat (map (λ (block : PlacedBlock). block.bytes) (first ∷ others))

-- the next message is the readable one with the least offset, and there is none only where none is readable
abbrev pub IsNextMessage : ReceiveBlocks → Option WholeMessage → Type 0
IsNextMessage b None = (m : WholeMessage) → IsReadable b m → ⊥
IsNextMessage b (Some m) = IsReadable b m × ((other : WholeMessage) → IsReadable b other → m.first ≤ other.first)
