-- What a datagram that arrives at a socket answers, leaves and emits.
use Rattle.std.specs.Prelude.{ℕ, ◌==◌, Bool, ◌&&◌, ◌||◌, List, [], ◌∷◌, ◌++◌, length, true, false, Option, Some, None, Result, Ok, Err, nat_lt, if◌then◌else◌}
use Rattle.udt_model.specs.declared.addresses.Addr.{Addr}
use Rattle.udt_model.specs.declared.answers.Arrived.{Arrived}
use Rattle.udt_model.specs.declared.answers.Dropped.{Dropped}
use Rattle.udt_model.specs.declared.answers.Heard.{Heard}
use Rattle.udt_model.specs.declared.answers.Placed.{Placed}
use Rattle.udt_model.specs.declared.packets.AckBody.{AckBody}
use Rattle.udt_model.specs.declared.packets.AckBody.TheVariants.{Light, Buffer, Full}
use Rattle.udt_model.specs.declared.packets.Flags.{Flags}
use Rattle.udt_model.specs.declared.packets.Kind.{Kind}
use Rattle.udt_model.specs.declared.packets.Malformed.{Malformed}
use Rattle.udt_model.specs.declared.answers.Cause.TheVariants as cause
use Rattle.udt_model.specs.declared.answers.Dropped.TheVariants as dropped
use Rattle.udt_model.specs.declared.answers.Heard.TheVariants as heard
use Rattle.udt_model.specs.declared.answers.Placed.TheVariants as placing
use Rattle.udt_model.specs.declared.packets.Kind.TheVariants as kind
use Rattle.udt_model.specs.declared.sockets.Counters.{Counters}
use Rattle.udt_model.specs.declared.sockets.SentAck.{SentAck}
use Rattle.udt_model.specs.Addresses.{same_addr}
use Rattle.udt_model.specs.Calls.{stamp_of, emission}
use Rattle.udt_model.specs.Counted.{count_stale, count_foreign, count_malformed, on_stale, on_control}
use Rattle.udt_model.specs.Events.{DidHear, Outcome, answered, risen}
use Rattle.udt_model.specs.Losses.{LostRange}
use Rattle.udt_model.specs.Phases.{Phase}
use Rattle.udt_model.specs.Phases as phase
use Rattle.udt_model.specs.Rate.{Ways}
use Rattle.udt_model.specs.Shaking.{on_listening, on_connecting, on_meeting, on_shake_again}
use Rattle.udt_model.specs.ReceiveHalf.{Receiving, block_answer, after_block, drop_answer, after_drop}
use Rattle.udt_model.specs.ReceiveReports.{ack_offset, light_ack, after_ack2, round_trip_to}
use Rattle.udt_model.specs.SendReports.{Acking, Acks, IsStale, acking, acked_number, after_ack, round_trip_after, entering, after_nak}
use Rattle.udt_model.specs.State.{State, Emission}
use Rattle.udt_model.specs.Ticks.{nak_of}
use Rattle.udt_model.specs.Timing.{last_under}
use Rattle.udt_model.specs.Wire.{Packet, WireRange, Block, Handshake, KeepAlive, Ack, Nak, Shutdown, Ack2, DropAsk, is_handshake, destination}

-- ---- what is answered and counted

abbrev pub heard_of : Placed → Heard
heard_of placing.New = heard.Placed
heard_of placing.Double = heard.Double
heard_of placing.Below = heard.Below
heard_of placing.Above = heard.Above

abbrev pub count_placing : Counters → Placed → Counters
count_placing counters placing.New = record counters { placed = risen counters.placed }
count_placing counters placing.Double = record counters { double = risen counters.double }
count_placing counters placing.Below = record counters { below = risen counters.below }
count_placing counters placing.Above = record counters { above = risen counters.above }

-- a block that has no bytes, or more than was agreed, isn't looked at
abbrev pub has_bad_length : Receiving → List ℕ → Bool
has_bad_length r bytes = length bytes == 0 || nat_lt r.payload (length bytes)

module _ {C : Type 0} where
  -- ---- data packets

  -- the gap that a block shows is reported at once
  abbrev pub emitted_by_gap : State C → Option (ℕ × ℕ) → List Emission
  emitted_by_gap s None = []
  emitted_by_gap s (Some ends) = nak_of s (record { first = ends.0; last = ends.1 } ∷ [])

  -- a light ACK names the ACK offset
  abbrev pub emitted_by_light : State C → Bool → List Emission
  emitted_by_light s false = []
  emitted_by_light s true =
      emission s (Ack 0 (stamp_of s) s.peer.id (light_ack s.receiving)) (ack_offset s.receiving ∷ []) ∷ []

  -- the block has become of this, and this is the socket after it: a NAK goes before a light ACK
  abbrev pub arrived_so : State C → Arrived → Outcome C
  arrived_so s arrived = record {
    after = record s { counters = count_placing s.counters arrived.placed };
    reply = DidHear (heard_of arrived.placed);
    emissions = emitted_by_gap s arrived.gap ++ emitted_by_light s arrived.light;
  }

  abbrev pub on_block : State C → ℕ → Flags → List ℕ → Outcome C
  on_block s number flags bytes =
      if has_bad_length s.receiving bytes
      then answered (record s { counters = count_stale s.counters }) (DidHear heard.BadLength)
      else arrived_so
      (record s { receiving = after_block s.receiving s.last number flags bytes })
      (block_answer s.receiving number)

  -- ---- message drop requests

  -- the request has done this, and this is the receiving half after it: the gap that it shows is reported at once
  abbrev pub dropped_so : State C → Receiving → Dropped → Outcome C
  dropped_so s receiving (dropped.Taken gap) =
      on_control (record s { receiving = receiving }) heard.Dropped (emitted_by_gap s gap)
  dropped_so s receiving dropped.Stale = on_stale s

  -- a stream has no messages to drop
  abbrev pub drop_as : State C → ℕ → ℕ → Kind → Outcome C
  drop_as s first last kind.Stream = on_stale s
  drop_as s first last kind.Message =
      dropped_so s (after_drop s.receiving s.last first last) (drop_answer s.receiving first last)

  abbrev pub on_drop : State C → ℕ → ℕ → Outcome C
  on_drop s first last = drop_as s first last s.kind

  -- ---- control packets

  -- an ACK is answered by an ACK2 with its number, unless it is light
  abbrev pub emitted_by_ack2 : State C → ℕ → AckBody → List Emission
  emitted_by_ack2 s number (Light ack) = []
  emitted_by_ack2 s number (Buffer ack rtt var buffer) = emission s (Ack2 number (stamp_of s) s.peer.id) [] ∷ []
  emitted_by_ack2 s number (Full ack rtt var buffer rate capacity) = emission s (Ack2 number (stamp_of s) s.peer.id) [] ∷ []

  -- an ACK2 counts where it answers an ACK that no other has answered
  abbrev pub confirmed_so : State C → ℕ → Option SentAck → Outcome C
  confirmed_so s number None = on_stale s
  confirmed_so s number (Some ack) =
      on_control
      (record s { receiving = after_ack2 s.receiving number; rtt = round_trip_to s.last s.rtt (Some ack) })
      heard.Ack2
      []

  abbrev pub on_ack2 : State C → ℕ → Outcome C
  on_ack2 s number = confirmed_so s number (last_under number s.receiving.history)

  -- the packet comes from the peer and is for this socket. A handshake may name another destination
  abbrev pub is_own : State C → Addr → Packet → Bool
  is_own s from packet = same_addr from s.peer.addr && (is_handshake packet || (destination packet == s.own))

  -- the socket has heard of its peer now
  abbrev pub heard_now : State C → State C
  heard_now s = record s { heard = s.last; exp_from = s.last; exp_count = 1 }

module _ {C : Type 0} (w : Ways C) where
  abbrev pub acked_so : State C → ℕ → AckBody → Acking → Outcome C
  acked_so s number body (Acks offset) =
      on_control
      (record s {
        sending = after_ack w s.sending s.rtt body;
        rtt = round_trip_after s.rtt body (Acks offset);
      })
      heard.Ack
      (emitted_by_ack2 s number body)
  acked_so s number body IsStale = on_stale s

  abbrev pub on_ack : State C → ℕ → AckBody → Outcome C
  on_ack s number body = acked_so s number body (acking s.sending (acked_number body))

  -- a NAK counts where one of its ranges does
  abbrev pub reported_so : State C → List WireRange → List LostRange → Outcome C
  reported_so s ranges [] = on_stale s
  reported_so s ranges (entered ∷ others) = on_control (record s { sending = after_nak w s.sending s.rtt ranges }) heard.Nak []

  abbrev pub on_nak : State C → List WireRange → Outcome C
  on_nak s ranges = reported_so s ranges (entering s.sending ranges)

  -- a packet from the peer
  abbrev pub on_own : State C → Packet → Outcome C
  on_own s (Block number flags stamp dest bytes) = on_block s number flags bytes
  on_own s (Handshake stamp dest shake) = on_shake_again s shake
  on_own s (KeepAlive stamp dest) = on_control s heard.Alive []
  on_own s (Ack number stamp dest body) = on_ack s number body
  on_own s (Nak stamp dest ranges) = on_nak s ranges
  on_own s (Shutdown stamp dest) = on_control (record s { phase = phase.Broken cause.PeerShutdown }) heard.Shutdown []
  on_own s (Ack2 number stamp dest) = on_ack2 s number
  on_own s (DropAsk message stamp dest first last) = on_drop s first last

  abbrev pub on_connected : State C → Addr → Packet → Outcome C
  on_connected s from packet =
      if is_own s from packet
      then on_own (heard_now s) packet
      else answered (record s { counters = count_foreign s.counters }) (DidHear heard.Foreign)

  -- a socket that isn't connected, and waits for no handshake, takes nothing in
  abbrev pub packet_in : State C → Addr → Packet → Phase → Outcome C
  packet_in s from packet phase.Connected = on_connected s from packet
  packet_in s from packet (phase.Listening b) = on_listening s b from packet
  packet_in s from packet (phase.Connecting c again) = on_connecting w s c from packet
  packet_in s from packet (phase.Meeting m again) = on_meeting w s m again from packet
  packet_in s from packet other = on_stale s

  abbrev pub on_read : State C → Addr → Result Packet Malformed → Outcome C
  on_read s from (Err why) = answered (record s { counters = count_malformed s.counters }) (DidHear (heard.Malformed why))
  on_read s from (Ok packet) = packet_in s from packet s.phase
