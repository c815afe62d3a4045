-- What is kept, as it lies in memory.
use Rattle.std.specs.Prelude.{◌+◌, ◌^◌, ◌<◌, ◌≤◌, take, map, length, All}
use Rattle.udt_model.specs.SendBlocks.{SendBlocks}
use Rattle.udt_snd_buffer.specs.declared.buffer.SndBuffer.TheInside.{Inside}
use Rattle.udt_snd_buffer.specs.KeptParts.{kept_block_of, IsCut}

-- the first parts of the ring are kept
abbrev pub send_blocks_of : Inside → SendBlocks
send_blocks_of b = record {
  blocks = length b.ring.list;
  room = b.ring.room;
  payload = b.payload;
  first = b.first;
  kept = map kept_block_of (take b.kept b.ring.list);
}

-- no more is kept than there is room for, each block is cut to the payload, which is a byte at least, and offsets
-- don't wrap
pub record IsBuffer (b : Inside) : Type 0 where
  pub kept : b.kept ≤ length b.ring.list
  pub cut : All (IsCut b.payload) (map kept_block_of (take b.kept b.ring.list))
  pub few : length b.ring.list ≤ 2 ^ 32
  pub some : 0 < b.payload
  pub room : b.payload ≤ b.ring.room
  pub small : b.ring.room < 2 ^ 32
  pub within : b.first + b.kept < 2 ^ 64
