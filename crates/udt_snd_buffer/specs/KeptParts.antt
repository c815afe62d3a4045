-- The blocks that parts of the memory hold.
use Rattle.std.specs.Prelude.{ℕ, ◌<◌, ◌≤◌, length}
use Rattle.udt_model.specs.SendBlocks.{Message, KeptBlock}
use Rattle.udt_ring.specs.Parts.{Part}
use Rattle.udt_snd_buffer.specs.declared.head.Head.{Head}

-- the message of a block
abbrev pub message_of_head : Head → Message
message_of_head head = record {
  number = head.flags.message;
  order = head.flags.order;
  expires = head.expires;
  first = head.first;
  last = head.last;
}

-- the block
abbrev pub kept_block_of : Part Head → KeptBlock
kept_block_of part = record { message = message_of_head part.head; flags = part.head.flags; bytes = part.bytes }

-- a block has a byte at least, and no more than a full one
pub record IsCut (payload : ℕ) (block : KeptBlock) : Type 0 where
  pub some : 0 < length block.bytes
  pub short : length block.bytes ≤ payload
