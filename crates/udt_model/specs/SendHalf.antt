-- The sending half of a socket: what a send takes, and which packet leaves next (draft-gg-udt-03, sections 4 and 5).
use Rattle.std.specs.Prelude.{ℕ, zero, suc, ◌+◌, ◌-◌, ◌*◌, ◌/◌, ◌%◌, ◌^◌, ◌==◌, min, max, Bool, false, List, [], ◌∷◌, length, take, drop, Option, Some, None, Result, Ok, Err, option_map, nat_lt, if◌then◌else◌}
use Rattle.udt_model.specs.declared.limits.TheConstants.{PACKET_LIMIT, LAST_MESSAGE, FEWEST_BLOCKS, MOST_BLOCKS, FIRST_WINDOW, PROBE_INTERVAL}
use Rattle.udt_model.specs.declared.handshakes.TheConstants.{SIZE_OVER_PAYLOAD}
use Rattle.udt_model.specs.declared.answers.Packed.{Packed}
use Rattle.udt_model.specs.declared.answers.Packed.TheVariants as packed
use Rattle.udt_model.specs.declared.answers.SendNo.{SendNo}
use Rattle.udt_model.specs.declared.answers.SendNo.TheVariants as no
use Rattle.udt_model.specs.declared.packets.Config.{Config}
use Rattle.udt_model.specs.Losses.{without_range}
use Rattle.udt_model.specs.Numbers.{sequence_number}
use Rattle.udt_model.specs.Rate.{Ways}
use Rattle.udt_model.specs.SendBlocks.{Message, KeptBlock, SendBlocks, end_of, free_of, accepted_of, count_for, with_bytes, kept_at}
use Rattle.udt_model.specs.Wire.{Packet, Block, DropAsk}

-- the sending half, with a rate control of this type
pub record Sending (C : Type 0) : Type 0 where
  -- the initial sequence number of this direction
  pub isn : ℕ
  -- the blocks from the first that isn't acknowledged on
  pub blocks : SendBlocks
  -- the first offset that was never sent
  pub next : ℕ
  -- the offsets that are to be retransmitted, in rising order
  pub lost : List ℕ
  -- the number of the next message
  pub message : ℕ
  -- the flow window: how many packets the peer has room for
  pub flow : ℕ
  -- the moment before which nothing is sent, in nanoseconds
  pub due : ℕ
  -- the peer's receiving rate and the link capacity, averaged, in packets a second: 0 while none was measured
  pub rate : ℕ
  pub capacity : ℕ
  -- the rate control, once there is a connection
  pub control : Option C

-- what packing does: it waits until a moment, retransmits a lost block, asks the peer to drop a message of which a lost block
-- has expired, sends the next block, or has nothing to send
pub data Packing : Type 0 where
  Waits : (until : ℕ) → Packing
  Retransmits : (offset : ℕ) → (block : KeptBlock) → Packing
  Drops : (message : Message) → Packing
  Sends : (block : KeptBlock) → Packing
  Idles : Packing

-- what packing answers: the bytes of the datagram, of which four words stand before the block's or the ends of the dropped
-- message, or the moment
abbrev pub packed_as : Packing → Packed
packed_as (Waits until) = packed.NotYet until
packed_as (Retransmits offset block) = packed.Block (16 + length block.bytes)
packed_as (Drops message) = packed.DropAsk 24
packed_as (Sends block) = packed.Block (16 + length block.bytes)
packed_as Idles = packed.Nothing

-- ---- numbers

-- the number of the message after this one
abbrev pub message_after : ℕ → ℕ
message_after message = if message == LAST_MESSAGE then 1 else message + 1

-- how many blocks of the peer a socket counts on: 2 at least, and no more than any socket has
abbrev pub clamped : ℕ → ℕ
clamped flow = max FEWEST_BLOCKS (min flow MOST_BLOCKS)

-- ---- messages

-- the moment after which a message isn't retransmitted, where it has a time to live. One past the last 64-bit number counts
-- as that
abbrev pub expiry_of : ℕ → Option ℕ → Option ℕ
expiry_of now ttl = option_map (λ time. min (now + time) (2 ^ 64 - 1)) ttl

-- the moment has passed, where there is one
abbrev pub has_passed : ℕ → Option ℕ → Bool
has_passed now None = false
has_passed now (Some moment) = nat_lt moment now

module _ {C : Type 0} where
  -- ---- calls

  -- the first offset that isn't acknowledged
  abbrev pub acked_of : Sending C → ℕ
  acked_of s = s.blocks.first

  -- how many more blocks the direction may ever carry
  abbrev pub room_of : Sending C → ℕ
  room_of s = PACKET_LIMIT - end_of s.blocks

  -- what a stream's send answers: how many bytes it takes, or why it takes none
  unfoldable pub send_answer : Sending C → ℕ → Result ℕ SendNo
  send_answer s len =
      if len == 0
      then Ok 0
      else (if room_of s == 0
      then Err no.Spent
      else (if free_of s.blocks == 0 then Err no.Again else Ok (accepted_of s.blocks len (room_of s))))

  -- how many blocks a message of this many bytes fills
  abbrev pub blocks_for : Sending C → ℕ → ℕ
  blocks_for s len = count_for len s.blocks.payload

  -- what a send of a message of this many bytes answers: it is taken whole, or this is why none of it is
  unfoldable pub message_answer : Sending C → ℕ → Result ℕ SendNo
  message_answer s len =
      if nat_lt s.blocks.blocks (blocks_for s len)
      then Err no.TooLarge
      else (if nat_lt (room_of s) (blocks_for s len)
      then Err no.Spent
      else (if nat_lt (free_of s.blocks) (blocks_for s len) then Err no.Again else Ok len))

  -- the half with one more message, of these bytes
  abbrev pub with_message : Sending C → Bool → Option ℕ → List ℕ → Sending C
  with_message s order expires bytes =
      record s { blocks = with_bytes s.blocks s.message order expires bytes; message = message_after s.message }

  -- the half after a send of these bytes was so answered. Bytes that are taken are a message
  abbrev pub after_answer : Sending C → Bool → Option ℕ → List ℕ → Result ℕ SendNo → Sending C
  after_answer s order expires bytes (Ok zero) = s
  after_answer s order expires bytes (Ok (suc n)) = with_message s order expires (take (suc n) bytes)
  after_answer s order expires bytes (Err why) = s

  unfoldable pub after_send : Sending C → List ℕ → Sending C
  after_send s bytes = after_answer s false None bytes (send_answer s (length bytes))

  -- the half after a send of a message at this moment
  unfoldable pub after_send_message : Sending C → ℕ → Option ℕ → Bool → List ℕ → Sending C
  after_send_message s now ttl order bytes =
      after_answer s order (expiry_of now ttl) bytes (message_answer s (length bytes))

  -- ---- packets

  -- the packet that carries the block of an offset, with this time stamp and destination
  abbrev pub block_packet : Sending C → ℕ → ℕ → ℕ → KeptBlock → Packet
  block_packet s stamp dest offset block =
      Block (sequence_number s.isn offset) block.flags stamp dest block.bytes

  -- the packet that asks to drop a message
  abbrev pub drop_packet : Sending C → ℕ → ℕ → Message → Packet
  drop_packet s stamp dest message =
      DropAsk message.number stamp dest (sequence_number s.isn message.first) (sequence_number s.isn message.last)

  -- the packet that leaves, where one does
  abbrev pub packet_of : Sending C → ℕ → ℕ → Packing → Option Packet
  packet_of s stamp dest (Waits until) = None
  packet_of s stamp dest (Retransmits offset block) = Some (block_packet s stamp dest offset block)
  packet_of s stamp dest (Drops message) = Some (drop_packet s stamp dest message)
  packet_of s stamp dest (Sends block) = Some (block_packet s stamp dest s.next block)
  packet_of s stamp dest Idles = None

module _ {C : Type 0} (w : Ways C) where
  -- ---- opening

  -- before there is a connection: nothing was accepted, and the first block will have this offset
  abbrev pub idle_sending : Config → ℕ → Sending C
  idle_sending config start = record {
    isn = 0;
    blocks = record {
      blocks = config.snd_blocks;
      room = config.payload;
      payload = config.payload;
      first = start;
      kept = [];
    };
    next = start;
    lost = [];
    message = 1;
    flow = FEWEST_BLOCKS;
    due = 0;
    rate = 0;
    capacity = 0;
    control = None;
  }

  -- with a connection that agreed on this payload, to a peer with so many blocks
  abbrev pub linked_sending : Sending C → ℕ → ℕ → ℕ → Sending C
  linked_sending s isn payload flow = record s {
    isn = isn;
    blocks = record (s.blocks) { payload = payload };
    flow = clamped flow;
    due = 0;
    control = Some (w.started (payload + SIZE_OVER_PAYLOAD) (clamped flow));
  }

  -- ---- packing

  -- the congestion window in packets: the first one before there is a connection
  abbrev pub window_in : Option C → ℕ
  window_in None = FIRST_WINDOW
  window_in (Some control) = w.window_of control

  -- the packet sending period in nanoseconds: none before there is a connection
  abbrev pub period_in : Option C → ℕ
  period_in None = 0
  period_in (Some control) = w.period_of control

  -- the next block is sent where fewer are in flight than both windows allow
  abbrev pub sends : Sending C → Option KeptBlock → Packing
  sends s None = Idles
  sends s (Some block) =
      if nat_lt (s.next - acked_of s) (min s.flow (window_in s.control)) then Sends block else Idles

  -- a lost block goes before all that were never sent, whatever the windows allow. Once its message has expired, that is
  -- dropped
  abbrev pub retransmits : ℕ → ℕ → Option KeptBlock → Packing
  retransmits now offset None = Idles
  retransmits now offset (Some block) =
      if has_passed now block.message.expires then Drops block.message else Retransmits offset block

  -- what leaves next at this moment, once it is due: the least lost block, or the first that was never sent
  abbrev pub leaves_next : Sending C → ℕ → List ℕ → Packing
  leaves_next s now [] = sends s (kept_at s.blocks s.next)
  leaves_next s now (offset ∷ others) = retransmits now offset (kept_at s.blocks offset)

  -- the first moment, in microseconds, at which it is due
  abbrev pub due_moment : Sending C → ℕ
  due_moment s = (s.due + 999) / 1000

  -- what packing does at this moment, in microseconds
  unfoldable pub packing : Sending C → ℕ → Packing
  packing s now = if nat_lt (1000 * now) s.due then Waits (due_moment s) else leaves_next s now s.lost

  -- the moment before which nothing is sent after the block of this offset, in nanoseconds. The next block follows at
  -- once where the two are a packet pair
  abbrev pub due_after : Sending C → ℕ → ℕ → ℕ
  due_after s offset now =
      if sequence_number s.isn offset % PROBE_INTERVAL == 0 then 1000 * now else 1000 * now + period_in s.control

  abbrev pub after_packing : Sending C → ℕ → Packing → Sending C
  after_packing s now (Waits until) = s
  after_packing s now (Retransmits offset block) = record s { lost = drop 1 s.lost; due = due_after s offset now }
  after_packing s now (Drops message) =
      record s { lost = without_range message.first message.last s.lost; next = max s.next (message.last + 1) }
  after_packing s now (Sends block) = record s { next = s.next + 1; due = due_after s s.next now }
  after_packing s now Idles = s

  unfoldable pub after_pack : Sending C → ℕ → Sending C
  after_pack s now = after_packing s now (packing s now)

  -- the first moment, in microseconds, at which packing emits a packet, where there is one to emit
  abbrev pub moment_of : Packing → ℕ → Option ℕ
  moment_of (Waits until) moment = None
  moment_of (Retransmits offset block) moment = Some moment
  moment_of (Drops message) moment = Some moment
  moment_of (Sends block) moment = Some moment
  moment_of Idles moment = None

  unfoldable pub pack_moment : Sending C → Option ℕ
  pack_moment s = moment_of (leaves_next s (due_moment s) s.lost) (due_moment s)
