use Rattle.std.proofs.Common.{◌≡◌, ◌+◌, ◌-◌, ◌++◌, map, length, take}
use Rattle.udt_model.specs.SendBlocks.{blocks_of}
use Rattle.udt_snd_buffer.specs.KeptParts.{kept_block_of, message_of_head}
use Rattle.udt_snd_buffer.proofs.buffer.keep.Given as goal

abbrev pub invariant-loop-i : goal.invariant-loop-i
invariant-loop-i l = record {
  kept : map kept_block_of (take (l.kept + l.i) l.ring.list) ++ blocks_of (message_of_head l.head) l.payload (l.offset + l.i) (l.count - l.i) l.rest
      ≡ map kept_block_of (take l.kept l.fn.ring.list) ++ blocks_of (message_of_head l.head) l.payload l.offset l.count l.bytes;
  len : length l.ring.list ≡ length l.fn.ring.list;
  room : l.ring.room ≡ l.fn.ring.room;
}
