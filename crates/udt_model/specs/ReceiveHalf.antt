-- The receiving half of a socket: where a data packet is placed, which offsets a message drop request takes, and what is
-- missing then (draft-gg-udt-03, sections 4 and 5).
use Rattle.std.specs.Prelude.{ℕ, ◌+◌, ◌-◌, ◌%◌, ◌==◌, ◌&&◌, max, Bool, false, List, [], Option, Some, None, nat_lt, nat_le, if◌then◌else◌}
use Rattle.udt_model.specs.declared.limits.TheConstants.{PACKET_LIMIT, LIGHT_ACK_COUNT, PROBE_INTERVAL, SYN}
use Rattle.udt_model.specs.declared.answers.Arrived.{Arrived}
use Rattle.udt_model.specs.declared.answers.Dropped.{Dropped}
use Rattle.udt_model.specs.declared.answers.Dropped.TheVariants as dropped
use Rattle.udt_model.specs.declared.answers.Placed.{Placed}
use Rattle.udt_model.specs.declared.answers.Placed.TheVariants as placing
use Rattle.udt_model.specs.declared.packets.Config.{Config}
use Rattle.udt_model.specs.declared.packets.Flags.{Flags}
use Rattle.udt_model.specs.declared.sockets.SentAck.{SentAck}
use Rattle.udt_model.specs.Losses.{LostRange, Missing, with_missing, without_missing}
use Rattle.udt_model.specs.Numbers.{near}
use Rattle.udt_model.specs.ReceiveBlocks.{ReceiveBlocks, placing_of, after_place, after_bytes, after_skip, after_read_message}
use Rattle.udt_model.specs.Timing.{RoundTrip, period_of, with_sample}

-- the receiving half
pub record Receiving : Type 0 where
  -- the initial sequence number of this direction, and the bytes of a full block
  pub isn : ℕ
  pub payload : ℕ
  -- the blocks from the first that isn't consumed on
  pub blocks : ReceiveBlocks
  -- the greatest offset that arrived plus one, and the packets below it that have not arrived
  pub top : ℕ
  pub missing : List Missing
  -- the moment of the last data packet, in microseconds; the times between data packets, and between those of packet pairs
  pub last_data : Option ℕ
  pub arrivals : List ℕ
  pub pairs : List ℕ
  -- the full ACKs that no ACK2 has answered yet, the last full ACK, and the greatest ACK offset that an ACK2 answered
  pub history : List SentAck
  pub last_ack : Option SentAck
  pub confirmed : ℕ
  -- how many blocks were placed since the last ACK
  pub fresh : ℕ
  -- the moments from which on an ACK and a NAK may be due, in microseconds
  pub ack_due : ℕ
  pub nak_due : ℕ

-- ---- opening

-- before there is a connection: the first block has this offset
abbrev pub idle_receiving : Config → ℕ → Receiving
idle_receiving config start = record {
  isn = 0;
  payload = config.payload;
  blocks = record { payload = config.payload; capacity = config.rcv_blocks; base = start; given = 0; placed = [] };
  top = start;
  missing = [];
  last_data = None;
  arrivals = [];
  pairs = [];
  history = [];
  last_ack = None;
  confirmed = start;
  fresh = 0;
  ack_due = 0;
  nak_due = 0;
}

-- with a connection that agreed on this payload at this moment
abbrev pub linked_receiving : Receiving → ℕ → ℕ → ℕ → RoundTrip → Receiving
linked_receiving r now isn payload known = record r {
  isn = isn;
  payload = payload;
  ack_due = now + SYN;
  nak_due = now + period_of known;
}

-- ---- data packets

-- the time since the last data packet is a sample, where there was one
abbrev pub since_last : ℕ → Option ℕ → List ℕ → List ℕ
since_last now None samples = samples
since_last now (Some last) samples = with_sample samples (now - last)

-- the packet with this sequence number is the second one of a packet pair
abbrev pub ends_pair : ℕ → Bool
ends_pair number = number % PROBE_INTERVAL == 1

-- the half once the arrival of a data packet was measured, before it is asked where it belongs
abbrev pub measured : Receiving → ℕ → ℕ → Receiving
measured r now number = record r {
  last_data = Some now;
  arrivals = since_last now r.last_data r.arrivals;
  pairs = if ends_pair number then since_last now r.last_data r.pairs else r.pairs;
}

-- the offset that a data packet has, unless it is past the limit of packets
abbrev pub within_limit : Option ℕ → Option ℕ
within_limit None = None
within_limit (Some offset) = if nat_lt offset PACKET_LIMIT then Some offset else None

unfoldable pub offset_of : Receiving → ℕ → Option ℕ
offset_of r number = within_limit (near r.isn r.top number)

-- what becomes of a block of this offset. One that is near no offset counts as above
abbrev pub placing_at : Receiving → Option ℕ → Placed
placing_at r None = placing.Above
placing_at r (Some offset) = placing_of r.blocks offset

-- the offsets that a new block shows to be missing: those from the top on and before it
abbrev pub gap_before : ℕ → ℕ → Option (ℕ × ℕ)
gap_before top offset = if nat_lt top offset then Some (top, offset - 1) else None

-- what is missing once a block of this offset was placed
abbrev pub missing_after : Receiving → ℕ → ℕ → List Missing
missing_after r now offset =
    if nat_lt r.top offset
    then with_missing r.top (offset - 1) now r.missing
    else (if nat_lt offset r.top then without_missing offset offset r.missing else r.missing)

-- one more block was placed since the last ACK, and now a light ACK is due
abbrev pub fills_light_ack : Receiving → Bool
fills_light_ack r = r.fresh + 1 == LIGHT_ACK_COUNT

-- the half with a new block at this offset
abbrev pub with_new : Receiving → ℕ → Flags → List ℕ → ℕ → Receiving
with_new r now flags bytes offset = record r {
  blocks = after_place r.blocks offset flags bytes;
  missing = missing_after r now offset;
  top = max r.top (offset + 1);
  fresh = if fills_light_ack r then 0 else r.fresh + 1;
}

abbrev pub after_placing : Receiving → ℕ → Flags → List ℕ → Option ℕ → Placed → Receiving
after_placing r now flags bytes (Some offset) placing.New = with_new r now flags bytes offset
after_placing r now flags bytes offset other = r

-- the half after a data packet arrived that has bytes, and no more than a block
unfoldable pub after_block : Receiving → ℕ → ℕ → Flags → List ℕ → Receiving
after_block r now number flags bytes =
    after_placing (measured r now number) now flags bytes (offset_of r number) (placing_at r (offset_of r number))

abbrev pub arrived_as : Receiving → Option ℕ → Placed → Arrived
arrived_as r (Some offset) placing.New = record {
  placed = placing.New;
  gap = gap_before r.top offset;
  light = fills_light_ack r;
}
arrived_as r offset other = record { placed = other; gap = None; light = false }

-- what is answered: what became of the block, the gap that is to be reported now, and whether a light ACK is due
unfoldable pub block_answer : Receiving → ℕ → Arrived
block_answer r number = arrived_as r (offset_of r number) (placing_at r (offset_of r number))

-- ---- message drop requests

-- a range of offsets is taken where it ends at one for which there is room, below the limit of packets
abbrev pub takes : ReceiveBlocks → ℕ → ℕ → Bool
takes b first last =
    nat_le first last && nat_le b.base last && nat_lt last (b.base + b.capacity) && nat_lt last PACKET_LIMIT

abbrev pub range_taken : ReceiveBlocks → Option ℕ → Option ℕ → Option LostRange
range_taken b (Some first) (Some last) = if takes b first last then Some (record { first = first; last = last }) else None
range_taken b first last = None

-- the offsets that a message drop request takes, by its sequence numbers. Where it takes none it is stale
unfoldable pub drop_range : Receiving → ℕ → ℕ → Option LostRange
drop_range r first last = range_taken r.blocks (near r.isn r.top first) (near r.isn r.top last)

-- what is missing once a range was taken: it shows the offsets from the top on and before it to be missing
abbrev pub missing_with : Receiving → ℕ → LostRange → List Missing
missing_with r now range =
    if nat_lt r.top range.first
    then with_missing r.top (range.first - 1) now r.missing
    else without_missing range.first range.last r.missing

-- the half with the offsets of a range taken: those that aren't consumed are consumed now
abbrev pub with_taken : Receiving → ℕ → LostRange → Receiving
with_taken r now range = record r {
  blocks = after_skip r.blocks range.first range.last;
  missing = missing_with r now range;
  top = max r.top (range.last + 1);
}

abbrev pub after_taking : Receiving → ℕ → Option LostRange → Receiving
after_taking r now None = r
after_taking r now (Some range) = with_taken r now range

-- the half after a message drop request arrived
unfoldable pub after_drop : Receiving → ℕ → ℕ → ℕ → Receiving
after_drop r now first last = after_taking r now (drop_range r first last)

abbrev pub taken_as : Receiving → Option LostRange → Dropped
taken_as r None = dropped.Stale
taken_as r (Some range) = dropped.Taken (gap_before r.top range.first)

-- what is answered: the gap that is to be reported now, or that it is stale
unfoldable pub drop_answer : Receiving → ℕ → ℕ → Dropped
drop_answer r first last = taken_as r (drop_range r first last)

-- ---- receiving

-- the half after this many bytes were received
abbrev pub after_receive : Receiving → ℕ → Receiving
after_receive r count = record r { blocks = after_bytes r.blocks count }

-- the half after a message was received into so much room. Without room it takes none
abbrev pub after_receive_message : Receiving → ℕ → Receiving
after_receive_message r room =
    if room == 0 then r else record r { blocks = after_read_message r.blocks room }
