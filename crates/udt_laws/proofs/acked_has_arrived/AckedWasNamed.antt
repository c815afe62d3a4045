-- What counts as acknowledged: an offset that an ACK from the peer told, and no other.
use Rattle.std.proofs.Common.{◌≡◌, ℕ, zero, suc, Bool, false, List, [], ◌∷◌, length, Ok, Err, refl, ◌∙◌, sym, subst}
use Rattle.std.specs.Prelude.{Option, None, Result, nat_lt}
use Rattle.std.proofs.lemmas.Bool.{cases_Bool}
use Rattle.std.proofs.Common.{arith}
use Rattle.udt_model.specs.declared.addresses.Addr.{Addr}
use Rattle.udt_model.specs.Phases.{Phase, Link, Stands, Lost, Absent, link_of}
use Rattle.udt_model.specs.Phases as phase
use Rattle.udt_model.specs.declared.answers.SendNo.{SendNo}
use Rattle.udt_model.specs.declared.packets.AckBody.{AckBody}
use Rattle.udt_model.specs.declared.packets.Kind.{Kind}
use Rattle.udt_model.specs.declared.packets.Kind.TheVariants as kind
use Rattle.udt_model.specs.declared.packets.Malformed.{Malformed}
use Rattle.udt_model.specs.declared.sockets.ExpOutcome.{ExpOutcome}
use Rattle.udt_model.specs.declared.sockets.ExpOutcome.TheVariants as exp
use Rattle.udt_model.specs.Arrivals.{on_read}
use Rattle.udt_model.specs.Calls.{send_in, send_as, recv_in, recv_as, send_message_in, send_message_as, recv_message_in, recv_message_as, packed_so, pack_in}
use Rattle.udt_model.specs.Connections.{repeats}
use Rattle.udt_model.specs.Events.{Act, Send, Recv, SendMessage, RecvMessage, Pack, Tick, Arrive, Event, at_moment}
use Rattle.udt_model.specs.History.{Item, after_items}
use Rattle.udt_model.specs.Losses.{LostRange}
use Rattle.udt_model.specs.Rate.{Ways}
use Rattle.udt_model.specs.SendHalf.{Sending, send_answer, message_answer, expiry_of, after_answer, after_send, after_send_message, Packing, Waits, Retransmits, Drops, Sends, Idles, packing}
use Rattle.udt_model.specs.SendReports.{acked_number, entering, after_entering, after_nak, after_timeout}
use Rattle.udt_model.specs.State.{State, Emission}
use Rattle.udt_model.specs.Step.{on_act, step}
use Rattle.udt_model.specs.Ticks.{exp_outcome, after_exp, after_reports, tick_in}
use Rattle.udt_model.specs.Timing.{RoundTrip}
use Rattle.udt_model.specs.Wire.{Packet, WireRange, Ack, read}
use Rattle.udt_model.proofs.ArrivalLemmas.{arrival-shows}
use Rattle.udt_model.proofs.PhaseLemmas.{repeats-show}
use Rattle.udt_model.proofs.SendingLemmas.{IsAcked, acking-acks, after_ack-acked}

module _ {C : Type 0} where
  -- each offset that an arrival may acknowledge in this state meets this
  abbrev pub AcksAct : (ℕ → Type 0) → State C → Act → Type 0
  AcksAct Q s (Arrive from bytes) =
      (number stamp : ℕ) (body : AckBody) (offset : ℕ) → from ≡ s.peer.addr → read bytes ≡ Ok (Ack number stamp s.own body)
      → IsAcked s.sending (acked_number body) offset → Q offset
  AcksAct Q s act = Unit {0}

  answer-first : (s : Sending C) (order : Bool) (expires : Option ℕ) (bytes : List ℕ) (answer : Result ℕ SendNo)
      → (after_answer s order expires bytes answer).blocks.first ≡ s.blocks.first
  answer-first s order expires bytes (Ok zero) = refl
  answer-first s order expires bytes (Ok (suc n)) = refl
  answer-first s order expires bytes (Err why) = refl

  send-first : (s : Sending C) (bytes : List ℕ) → (after_send s bytes).blocks.first ≡ s.blocks.first
  unfolding after_send
  send-first s bytes = answer-first s false None bytes (send_answer s (length bytes))

  message-first : (s : Sending C) (now : ℕ) (ttl : Option ℕ) (order : Bool) (bytes : List ℕ)
      → (after_send_message s now ttl order bytes).blocks.first ≡ s.blocks.first
  unfolding after_send_message
  message-first s now ttl order bytes = answer-first s order (expiry_of now ttl) bytes (message_answer s (length bytes))

  at_moment-acks : (Q : ℕ → Type 0) (s : State C) (now : ℕ) (act : Act) → AcksAct Q s act → AcksAct Q (at_moment s now) act
  at_moment-acks Q s now (Arrive from bytes) meets =
      λ number stamp body offset sender reads at. meets number stamp body offset sender reads
      (record { is_near = at.is_near; not_below = at.not_below; not_above = at.not_above })
  at_moment-acks Q s now act meets = meets

module _ {C : Type 0} (w : Ways C) where
  -- and so does each that these items may acknowledge
  abbrev pub AllAck : (ℕ → Type 0) → State C → List Item → Type 0
  AllAck Q s [] = Unit {0}
  AllAck Q s (item ∷ items) = AcksAct Q s item.event.act × AllAck Q (step w s item.event).after items

  entering-first : (s : Sending C) (known : RoundTrip) (ranges : List LostRange) → (after_entering w s known ranges).blocks.first ≡ s.blocks.first
  entering-first s known [] = refl
  entering-first s known (range ∷ ranges) = refl

  nak-first : (s : Sending C) (known : RoundTrip) (ranges : List WireRange) → (after_nak w s known ranges).blocks.first ≡ s.blocks.first
  unfolding after_nak
  nak-first s known ranges = entering-first s known (entering s ranges)

  timeout-first : (s : Sending C) (known : RoundTrip) → (after_timeout w s known).blocks.first ≡ s.blocks.first
  unfolding after_timeout
  timeout-first s known = grind (arith, cases_Bool (nat_lt s.blocks.first s.next))

  module _ (Q : ℕ → Type 0) where
    module _ (s : State C) (is : Q s.sending.blocks.first) where
      still : (sending : Sending C) → sending.blocks.first ≡ s.sending.blocks.first → Q sending.blocks.first
      still sending same = subst Q (sym same) is

      sends-acked : (bytes : List ℕ) (link : Link) → Q (send_in s bytes link).after.sending.blocks.first
      sends-acked bytes Stands = still (after_send s.sending bytes) (send-first s.sending bytes)
      sends-acked bytes (Lost why) = is
      sends-acked bytes Absent = is

      recvs-acked : (room : ℕ) (link : Link) → Q (recv_in s room link).after.sending.blocks.first
      recvs-acked room Stands = is
      recvs-acked room (Lost why) = is
      recvs-acked room Absent = is

      send_as-acked : (bytes : List ℕ) (k : Kind) → Q (send_as s bytes k).after.sending.blocks.first
      send_as-acked bytes kind.Stream = sends-acked bytes (link_of s.phase)
      send_as-acked bytes kind.Message = is

      recv_as-acked : (room : ℕ) (k : Kind) → Q (recv_as s room k).after.sending.blocks.first
      recv_as-acked room kind.Stream = recvs-acked room (link_of s.phase)
      recv_as-acked room kind.Message = is

      asks-acked : (ttl : Option ℕ) (order : Bool) (bytes : List ℕ) (link : Link)
          → Q (send_message_in s ttl order bytes link).after.sending.blocks.first
      asks-acked ttl order bytes Stands =
          still (after_send_message s.sending s.last ttl order bytes) (message-first s.sending s.last ttl order bytes)
      asks-acked ttl order bytes (Lost why) = is
      asks-acked ttl order bytes Absent = is

      ask_as-acked : (ttl : Option ℕ) (order : Bool) (bytes : List ℕ) (k : Kind)
          → Q (send_message_as s ttl order bytes k).after.sending.blocks.first
      ask_as-acked ttl order bytes kind.Stream = is
      ask_as-acked ttl order bytes kind.Message = asks-acked ttl order bytes (link_of s.phase)

      shows-acked : (room : ℕ) (link : Link) → Q (recv_message_in s room link).after.sending.blocks.first
      shows-acked room Stands = is
      shows-acked room (Lost why) = is
      shows-acked room Absent = is

      show_as-acked : (room : ℕ) (k : Kind) → Q (recv_message_as s room k).after.sending.blocks.first
      show_as-acked room kind.Stream = is
      show_as-acked room kind.Message = shows-acked room (link_of s.phase)

      packed-acked : (p : Packing) → Q (packed_so w s p).after.sending.blocks.first
      packed-acked (Waits until) = is
      packed-acked (Retransmits offset block) = is
      packed-acked (Drops message) = is
      packed-acked (Sends block) = is
      packed-acked Idles = is

      packs-acked : (link : Link) → Q (pack_in w s link).after.sending.blocks.first
      packs-acked Stands = packed-acked (packing w s.sending s.last)
      packs-acked (Lost why) = is
      packs-acked Absent = is

      silent-acked : (what : ExpOutcome) → Q (after_exp w (after_reports s) what).sending.blocks.first
      silent-acked exp.NotDue = is
      silent-acked exp.Breaks = is
      silent-acked exp.LosesAll = still (after_timeout w s.sending s.rtt) (timeout-first s.sending s.rtt)
      silent-acked exp.KeepsAlive = is

      repeats-acked : (began again : ℕ) (next : Phase) (emission : Emission) → Q (repeats s began again next emission).after.sending.blocks.first
      repeats-acked began again next emission =
          repeats-show s began again next emission (λ outcome. Q outcome.after.sending.blocks.first) (record { fails = is; again = is; waits = is })

      ticks-acked : (phase : Phase) → Q (tick_in w s phase).after.sending.blocks.first
      ticks-acked phase.Connected = silent-acked (exp_outcome s)
      ticks-acked (phase.Connecting c again) = repeats-acked c.caller.began again _ _
      ticks-acked (phase.Meeting m again) = repeats-acked m.caller.began again _ _
      ticks-acked phase.Closing = is
      ticks-acked _ = is

      reads-acked : (from : Addr) (bytes : List ℕ) (result : Result Packet Malformed) → read bytes ≡ result → AcksAct Q s (Arrive from bytes)
          → Q (on_read w s from result).after.sending.blocks.first
      reads-acked from bytes result reads meets =
          arrival-shows w s from (λ outcome. Q outcome.after.sending.blocks.first) result (record {
            passed = λ counters answer differs. is;
            noticed = λ counters answer differs connected. is;
            brought = λ number flags stamp block connected sender said. is;
            dropped = λ message stamp first last range connected sender said messages taken. is;
            acknowledged = λ number stamp body offset connected sender said acks.
                subst Q (sym (after_ack-acked w s.sending s.rtt body offset acks))
                (meets number stamp body offset sender (reads ∙ said) (acking-acks s.sending (acked_number body) offset acks));
            reported = λ stamp ranges connected sender said. still (after_nak w s.sending s.rtt ranges) (nak-first s.sending s.rtt ranges);
            confirmed = λ number ack connected found. is;
            ended = λ connected. is;
            again = λ stamp dest shake answer connected sender said same answers. is;
            shaken = λ next peer origin answer emissions differs drops unsettled said. is;
            linked = λ peer origin emissions unsettled said. is;
          })

      acts-acked : (act : Act) → AcksAct Q s act → Q (on_act w s act).after.sending.blocks.first
      acts-acked (Send bytes) meets = send_as-acked bytes s.kind
      acts-acked (Recv room) meets = recv_as-acked room s.kind
      acts-acked (SendMessage ttl order bytes) meets = ask_as-acked ttl order bytes s.kind
      acts-acked (RecvMessage room) meets = show_as-acked room s.kind
      acts-acked Pack meets = packs-acked (link_of s.phase)
      acts-acked Tick meets = ticks-acked s.phase
      acts-acked (Arrive from bytes) meets = reads-acked from bytes (read bytes) refl meets
      acts-acked _ meets = is

    step-acked : (s : State C) (event : Event) → AcksAct Q s event.act → Q s.sending.blocks.first → Q (step w s event).after.sending.blocks.first
    unfolding step
    step-acked s event meets is = acts-acked (at_moment s event.now) is event.act (at_moment-acks Q s event.now event.act meets)

    -- so what a history acknowledges meets this
    pub items-acked : (s : State C) (items : List Item) → AllAck Q s items → Q s.sending.blocks.first → Q (after_items w s items).sending.blocks.first
    unfolding after_items
    items-acked s [] meets is = is
    items-acked s (item ∷ items) meets is = items-acked (step w s item.event).after items meets.1 (step-acked s item.event meets.0 is)
