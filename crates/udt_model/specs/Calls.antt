-- What the calls of a socket answer, leave and emit: send and receive of bytes and of messages, close, pack and perf.
use Rattle.std.specs.Prelude.{ℕ, ◌-◌, ◌==◌, ◌%◌, ◌^◌, Bool, List, [], ◌∷◌, length, take, Option, Some, None, Result, Ok, Err, nat_le, if◌then◌else◌}
use Rattle.udt_model.specs.declared.answers.Perf.{Perf}
use Rattle.udt_model.specs.declared.answers.Refusal.{Refusal}
use Rattle.udt_model.specs.declared.answers.SendNo.{SendNo}
use Rattle.udt_model.specs.declared.answers.Packed.TheVariants as packed
use Rattle.udt_model.specs.declared.answers.Refusal.TheVariants as refusal
use Rattle.udt_model.specs.declared.answers.SendNo.TheVariants as no
use Rattle.udt_model.specs.declared.packets.Kind.{Kind}
use Rattle.udt_model.specs.declared.packets.Kind.TheVariants as kind
use Rattle.udt_model.specs.declared.sockets.Counters.{Counters}
use Rattle.udt_model.specs.Phases.{Phase, Link, Stands, Lost, Absent, link_of}
use Rattle.udt_model.specs.Phases as phase
use Rattle.udt_model.specs.Rate.{Ways}
use Rattle.udt_model.specs.ReceiveBlocks.{WholeMessage, waiting_of, next_message}
use Rattle.udt_model.specs.ReceiveHalf.{Receiving, after_receive, after_receive_message}
use Rattle.udt_model.specs.SendBlocks.{Message, KeptBlock}
use Rattle.udt_model.specs.SendHalf.{acked_of, send_answer, after_send, message_answer, after_send_message, window_in, period_in, Packing, Waits, Retransmits, Drops, Sends, Idles, packing, packed_as, block_packet, drop_packet, after_packing}
use Rattle.udt_model.specs.State.{State, Emission}
use Rattle.udt_model.specs.Events.{Sent, Received, SentMessage, ReceivedMessage, DidPack, DidClose, DidMeasure, Outcome, answered, risen}
use Rattle.udt_model.specs.Wire.{Packet, spelling}

-- why a socket takes no bytes
abbrev pub refusal_of : SendNo → Refusal
refusal_of no.Again = refusal.AgainSend
refusal_of no.Spent = refusal.Spent
refusal_of no.TooLarge = refusal.TooLarge

abbrev pub taken_as : Result ℕ SendNo → Result ℕ Refusal
taken_as (Ok count) = Ok count
taken_as (Err why) = Err (refusal_of why)

-- what a receive with room for this many bytes gives
abbrev pub received_by : Receiving → ℕ → List ℕ
received_by r room = take room (waiting_of r.blocks)

-- what it answers: with room there is a byte, or a refusal
abbrev pub answer_with : Refusal → ℕ → List ℕ → Result (List ℕ) Refusal
answer_with why room bytes = if room == 0 then Ok [] else (if length bytes == 0 then Err why else Ok bytes)

-- the bytes of a message that fits into so much room
abbrev pub fitted : ℕ → WholeMessage → Result (List ℕ) Refusal
fitted room m = if nat_le (length m.bytes) room then Ok m.bytes else Err refusal.TooLarge

-- what a receive of a message answers: the next one whole, or a refusal. Without room it takes none
abbrev pub answer_message : Refusal → ℕ → Option WholeMessage → Result (List ℕ) Refusal
answer_message why room None = if room == 0 then Ok [] else Err why
answer_message why room (Some m) = if room == 0 then Ok [] else fitted room m

-- a connected socket has yet to send its peer a shutdown
abbrev pub closed_from : Phase → Phase
closed_from phase.Connected = phase.Closing
closed_from phase.Closing = phase.Closing
closed_from other = phase.Closed

-- a block is sent for the first time, or retransmitted
abbrev pub count_packing : Packing → Counters → Counters
count_packing (Waits until) counters = counters
count_packing (Retransmits offset block) counters = record counters { resent = risen counters.resent }
count_packing (Drops message) counters = counters
count_packing (Sends block) counters = record counters { sent = risen counters.sent }
count_packing Idles counters = counters

module _ {C : Type 0} where
  -- ---- datagrams

  -- microseconds since the socket was opened, modulo 2^32
  abbrev pub stamp_of : State C → ℕ
  stamp_of s = (s.last - s.opened) % 2 ^ 32

  -- a packet that is emitted to the peer, and names these offsets
  abbrev pub emission : State C → Packet → List ℕ → Emission
  emission s packet offsets = record {
    datagram = record { addr = s.peer.addr; bytes = spelling packet };
    offsets = offsets;
  }

  -- the data packet of an offset, which it names
  abbrev pub block_emission : State C → ℕ → KeptBlock → Emission
  block_emission s offset block = emission s (block_packet s.sending (stamp_of s) s.peer.id offset block) (offset ∷ [])

  -- the message drop request of a message, which names its first and its last offset
  abbrev pub drop_emission : State C → Message → Emission
  drop_emission s message =
      emission s (drop_packet s.sending (stamp_of s) s.peer.id message) (message.first ∷ message.last ∷ [])

  -- ---- sending and receiving bytes

  -- a socket takes bytes while it is connected
  abbrev pub send_in : State C → List ℕ → Link → Outcome C
  send_in s bytes Stands =
      answered (record s { sending = after_send s.sending bytes }) (Sent (taken_as (send_answer s.sending (length bytes))))
  send_in s bytes (Lost why) = answered s (Sent (Err (refusal.ConnLost why)))
  send_in s bytes Absent = answered s (Sent (Err refusal.NotConnected))

  -- where it carries a stream
  abbrev pub send_as : State C → List ℕ → Kind → Outcome C
  send_as s bytes kind.Stream = send_in s bytes (link_of s.phase)
  send_as s bytes kind.Message = answered s (Sent (Err refusal.MessageOnly))

  abbrev pub on_send : State C → List ℕ → Outcome C
  on_send s bytes = send_as s bytes s.kind

  -- what waits is given, as far as there is room, and where nothing waits this is answered
  abbrev pub gives : State C → ℕ → Refusal → Outcome C
  gives s room why =
      let bytes = received_by s.receiving room in
      answered (record s { receiving = after_receive s.receiving (length bytes) }) (Received (answer_with why room bytes))

  -- bytes are also given once the connection was lost: where none waits, none will come
  abbrev pub recv_in : State C → ℕ → Link → Outcome C
  recv_in s room Stands = gives s room refusal.AgainRecv
  recv_in s room (Lost why) = gives s room (refusal.ConnLost why)
  recv_in s room Absent = answered s (Received (Err refusal.NotConnected))

  abbrev pub recv_as : State C → ℕ → Kind → Outcome C
  recv_as s room kind.Stream = recv_in s room (link_of s.phase)
  recv_as s room kind.Message = answered s (Received (Err refusal.MessageOnly))

  abbrev pub on_recv : State C → ℕ → Outcome C
  on_recv s room = recv_as s room s.kind

  -- ---- sending and receiving messages

  -- a socket takes a message while it is connected
  abbrev pub send_message_in : State C → Option ℕ → Bool → List ℕ → Link → Outcome C
  send_message_in s ttl order bytes Stands =
      answered
      (record s { sending = after_send_message s.sending s.last ttl order bytes })
      (SentMessage (taken_as (message_answer s.sending (length bytes))))
  send_message_in s ttl order bytes (Lost why) = answered s (SentMessage (Err (refusal.ConnLost why)))
  send_message_in s ttl order bytes Absent = answered s (SentMessage (Err refusal.NotConnected))

  -- where it carries messages
  abbrev pub send_message_as : State C → Option ℕ → Bool → List ℕ → Kind → Outcome C
  send_message_as s ttl order bytes kind.Stream = answered s (SentMessage (Err refusal.StreamOnly))
  send_message_as s ttl order bytes kind.Message = send_message_in s ttl order bytes (link_of s.phase)

  abbrev pub on_send_message : State C → Option ℕ → Bool → List ℕ → Outcome C
  on_send_message s ttl order bytes = send_message_as s ttl order bytes s.kind

  -- the next message is given where there is room for it, and where none is readable this is answered
  abbrev pub gives_message : State C → ℕ → Refusal → Outcome C
  gives_message s room why =
      answered
      (record s { receiving = after_receive_message s.receiving room })
      (ReceivedMessage (answer_message why room (next_message s.receiving.blocks)))

  -- messages are also given once the connection was lost
  abbrev pub recv_message_in : State C → ℕ → Link → Outcome C
  recv_message_in s room Stands = gives_message s room refusal.AgainRecv
  recv_message_in s room (Lost why) = gives_message s room (refusal.ConnLost why)
  recv_message_in s room Absent = answered s (ReceivedMessage (Err refusal.NotConnected))

  abbrev pub recv_message_as : State C → ℕ → Kind → Outcome C
  recv_message_as s room kind.Stream = answered s (ReceivedMessage (Err refusal.StreamOnly))
  recv_message_as s room kind.Message = recv_message_in s room (link_of s.phase)

  abbrev pub on_recv_message : State C → ℕ → Outcome C
  on_recv_message s room = recv_message_as s room s.kind

  -- ---- closing

  -- what was not sent is never sent, and what was not received is given to no call
  abbrev pub on_close : State C → Outcome C
  on_close s = answered (record s { phase = closed_from s.phase }) DidClose

module _ {C : Type 0} (w : Ways C) where
  -- ---- packing

  abbrev pub emitted_by_packing : State C → Packing → List Emission
  emitted_by_packing s (Waits until) = []
  emitted_by_packing s (Retransmits offset block) = block_emission s offset block ∷ []
  emitted_by_packing s (Drops message) = drop_emission s message ∷ []
  emitted_by_packing s (Sends block) = block_emission s s.sending.next block ∷ []
  emitted_by_packing s Idles = []

  abbrev pub packed_so : State C → Packing → Outcome C
  packed_so s packing = record {
    after = record s {
      sending = after_packing w s.sending s.last packing;
      counters = count_packing packing s.counters;
    };
    reply = DidPack (packed_as packing);
    emissions = emitted_by_packing s packing;
  }

  -- a socket that isn't connected packs nothing
  abbrev pub pack_in : State C → Link → Outcome C
  pack_in s Stands = packed_so s (packing w s.sending s.last)
  pack_in s (Lost why) = answered s (DidPack packed.Nothing)
  pack_in s Absent = answered s (DidPack packed.Nothing)

  abbrev pub on_pack : State C → Outcome C
  on_pack s = pack_in s (link_of s.phase)

  -- ---- measuring

  -- what was measured and counted so far
  abbrev pub perf_of : State C → Perf
  perf_of s = record {
    rtt = s.rtt.rtt;
    var = s.rtt.var;
    window = window_in w s.sending.control;
    period = period_in w s.sending.control;
    sent = s.counters.sent;
    resent = s.counters.resent;
    placed = s.counters.placed;
    double = s.counters.double;
    below = s.counters.below;
    above = s.counters.above;
    control = s.counters.control;
    stale = s.counters.stale;
    foreign = s.counters.foreign;
    malformed = s.counters.malformed;
    acked = acked_of s.sending;
  }

  abbrev pub on_measure : State C → Outcome C
  on_measure s = answered s (DidMeasure (perf_of s))
