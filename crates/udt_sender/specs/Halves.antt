-- The sending half, as it lies in memory.
use Rattle.std.specs.Prelude.{◌≡◌, ◌+◌, ◌*◌, ◌^◌, ◌<◌, ◌≤◌, length, All}
use Rattle.udt_model.specs.declared.limits.TheConstants.{PACKET_LIMIT, LAST_MESSAGE, LAST_MOMENT, MOST_PAYLOAD, FEWEST_BLOCKS, MOST_BLOCKS, GREATEST_PERIOD}
use Rattle.udt_model.specs.SendBlocks.{end_of}
use Rattle.udt_model.specs.SendHalf.{Sending}
use Rattle.udt_ranges.specs.Offsets.{Rising}
use Rattle.udt_sender.specs.Messages.{LieInMessages}
use Rattle.udt_sender.specs.Packets.{IsSound}
use Rattle.udt_sender.specs.declared.sender.Sender.TheInside.{Inside}

abbrev pub sending_of : {C : Type 0} → Inside C → Sending C
sending_of s = record {
  isn = s.isn;
  blocks = s.buffer;
  next = s.next;
  lost = s.loss.lost;
  message = s.message;
  flow = s.flow;
  due = s.due;
  rate = s.rate;
  capacity = s.capacity;
  control = s.control;
}

-- each kept block can be sent and lies in its message, which is kept to its end; offsets stand in order, and what is lost was
-- sent and isn't acknowledged
pub record IsSender {C : Type 0} (s : Inside C) : Type 0 where
  pub isn : s.isn < 2 ^ 31
  pub payload : 0 < s.buffer.payload
  pub room : s.buffer.payload ≤ s.buffer.room
  pub small : s.buffer.room ≤ MOST_PAYLOAD
  pub blocks : s.buffer.blocks ≤ MOST_BLOCKS
  pub kept : length s.buffer.kept ≤ s.buffer.blocks
  pub sound : All (IsSound s.buffer.payload) s.buffer.kept
  pub messages : LieInMessages (end_of s.buffer) s.buffer.first s.buffer.kept
  pub sent : s.buffer.first ≤ s.next
  pub unsent : s.next ≤ end_of s.buffer
  pub within : end_of s.buffer ≤ PACKET_LIMIT
  pub floor : s.loss.floor ≡ s.buffer.first
  pub window : s.loss.window ≡ s.buffer.blocks
  pub lost : Rising s.buffer.first s.next s.loss.lost
  pub least_message : 1 ≤ s.message
  pub message : s.message ≤ LAST_MESSAGE
  pub least_flow : FEWEST_BLOCKS ≤ s.flow
  pub flow : s.flow ≤ MOST_BLOCKS
  pub due : s.due ≤ 1000 * LAST_MOMENT + GREATEST_PERIOD
