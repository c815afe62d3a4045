-- What an event may do to the sending half.
use Rattle.std.proofs.Common.{◌≡◌, ℕ, Bool, List, Ok, refl}
use Rattle.std.specs.Prelude.{Option, false, min}
use Rattle.udt_model.specs.declared.addresses.Addr.{Addr}
use Rattle.udt_model.specs.declared.answers.Peer.{Peer}
use Rattle.udt_model.specs.Phases.{Phase, Link, Stands, Lost, Absent, link_of}
use Rattle.udt_model.specs.Phases as phase
use Rattle.udt_model.specs.declared.packets.AckBody.{AckBody}
use Rattle.udt_model.specs.declared.packets.Kind.{Kind}
use Rattle.udt_model.specs.declared.packets.Kind.TheVariants as kind
use Rattle.udt_model.specs.declared.sockets.ExpOutcome.{ExpOutcome}
use Rattle.udt_model.specs.declared.sockets.ExpOutcome.TheVariants as exp
use Rattle.udt_model.specs.Calls.{send_in, send_as, recv_in, recv_as, send_message_in, send_message_as, recv_message_in, recv_message_as, pack_in}
use Rattle.udt_model.specs.Connections.{repeats}
use Rattle.udt_model.specs.Events.{Act, Send, Recv, SendMessage, RecvMessage, Pack, Tick, Arrive, Event, at_moment}
use Rattle.udt_model.specs.Rate.{Ways}
use Rattle.udt_model.specs.SendHalf.{Sending, linked_sending, after_send, after_send_message, Packing, packing, after_packing}
use Rattle.udt_model.specs.SendReports.{Acks, acking, acked_number, after_ack, after_nak, after_timeout}
use Rattle.udt_model.specs.State.{State, Emission}
use Rattle.udt_model.specs.Step.{on_act, step}
use Rattle.udt_model.specs.Ticks.{exp_outcome, after_exp, after_reports, tick_in}
use Rattle.udt_model.specs.Wire.{WireRange, Ack, read}
use Rattle.udt_model.proofs.ArrivalLemmas.{arrival-shows}
use Rattle.udt_model.proofs.PhaseLemmas.{is_settled, stands-connected, repeats-show}

module _ {C : Type 0} (w : Ways C) where
  -- what has to be shown of the half after each kind of event, so that it holds after this one
  pub record OfSending (s : State C) (act : Act) (Q : Sending C → Type 0) : Type 0 where
    pub stays : Q s.sending
    pub sends : (bytes : List ℕ) → act ≡ Send bytes → s.kind ≡ kind.Stream → s.phase ≡ phase.Connected
        → Q (after_send s.sending bytes)
    pub asks : (now : ℕ) (ttl : Option ℕ) (order : Bool) (bytes : List ℕ) → act ≡ SendMessage ttl order bytes
        → s.kind ≡ kind.Message → s.phase ≡ phase.Connected → Q (after_send_message s.sending now ttl order bytes)
    pub packs : (now : ℕ) (p : Packing) → packing w s.sending now ≡ p → Q (after_packing w s.sending now p)
    pub acknowledges : (from : Addr) (raw : List ℕ) (number stamp : ℕ) (body : AckBody) (offset : ℕ) → act ≡ Arrive from raw
        → from ≡ s.peer.addr → read raw ≡ Ok (Ack number stamp s.own body) → acking s.sending (acked_number body) ≡ Acks offset
        → Q (after_ack w s.sending s.rtt body)
    pub reports : (ranges : List WireRange) → Q (after_nak w s.sending s.rtt ranges)
    pub times_out : Q (after_timeout w s.sending s.rtt)
    pub links : (peer : Peer) → is_settled s.phase ≡ false
        → Q (linked_sending w s.sending s.isn (min s.sending.blocks.room peer.payload) peer.flow)

  module _ (s : State C) (Q : Sending C → Type 0) where
    send-shows : (bytes : List ℕ) (link : Link) → link_of s.phase ≡ link → Q s.sending
        → (s.phase ≡ phase.Connected → Q (after_send s.sending bytes)) → Q (send_in s bytes link).after.sending
    send-shows bytes Stands is stays sends = sends (stands-connected s.phase is)
    send-shows bytes (Lost why) is stays sends = stays
    send-shows bytes Absent is stays sends = stays

    send_as-shows : (bytes : List ℕ) (k : Kind) → s.kind ≡ k → Q s.sending
        → (s.kind ≡ kind.Stream → s.phase ≡ phase.Connected → Q (after_send s.sending bytes)) → Q (send_as s bytes k).after.sending
    send_as-shows bytes kind.Stream is stays sends = send-shows bytes (link_of s.phase) refl stays (sends is)
    send_as-shows bytes kind.Message is stays sends = stays

    send_message-shows : (ttl : Option ℕ) (order : Bool) (bytes : List ℕ) (link : Link) → link_of s.phase ≡ link
        → Q s.sending
        → (s.phase ≡ phase.Connected → Q (after_send_message s.sending s.last ttl order bytes))
        → Q (send_message_in s ttl order bytes link).after.sending
    send_message-shows ttl order bytes Stands is stays asks = asks (stands-connected s.phase is)
    send_message-shows ttl order bytes (Lost why) is stays asks = stays
    send_message-shows ttl order bytes Absent is stays asks = stays

    send_message_as-shows : (ttl : Option ℕ) (order : Bool) (bytes : List ℕ) (k : Kind) → s.kind ≡ k → Q s.sending
        → (s.kind ≡ kind.Message → s.phase ≡ phase.Connected → Q (after_send_message s.sending s.last ttl order bytes))
        → Q (send_message_as s ttl order bytes k).after.sending
    send_message_as-shows ttl order bytes kind.Stream is stays asks = stays
    send_message_as-shows ttl order bytes kind.Message is stays asks =
        send_message-shows ttl order bytes (link_of s.phase) refl stays (asks is)

    recv-shows : (room : ℕ) (link : Link) → Q s.sending → Q (recv_in s room link).after.sending
    recv-shows room Stands stays = stays
    recv-shows room (Lost why) stays = stays
    recv-shows room Absent stays = stays

    recv_as-shows : (room : ℕ) (k : Kind) → Q s.sending → Q (recv_as s room k).after.sending
    recv_as-shows room kind.Stream stays = recv-shows room (link_of s.phase) stays
    recv_as-shows room kind.Message stays = stays

    recv_message-shows : (room : ℕ) (link : Link) → Q s.sending → Q (recv_message_in s room link).after.sending
    recv_message-shows room Stands stays = stays
    recv_message-shows room (Lost why) stays = stays
    recv_message-shows room Absent stays = stays

    recv_message_as-shows : (room : ℕ) (k : Kind) → Q s.sending → Q (recv_message_as s room k).after.sending
    recv_message_as-shows room kind.Stream stays = stays
    recv_message_as-shows room kind.Message stays = recv_message-shows room (link_of s.phase) stays

    pack-shows : (link : Link) → Q s.sending
        → ((p : Packing) → packing w s.sending s.last ≡ p → Q (after_packing w s.sending s.last p))
        → Q (pack_in w s link).after.sending
    pack-shows Stands stays packs = packs (packing w s.sending s.last) refl
    pack-shows (Lost why) stays packs = stays
    pack-shows Absent stays packs = stays

    exp-shows : (what : ExpOutcome) → Q s.sending → Q (after_timeout w s.sending s.rtt) → Q (after_exp w (after_reports s) what).sending
    exp-shows exp.NotDue stays times_out = stays
    exp-shows exp.Breaks stays times_out = stays
    exp-shows exp.LosesAll stays times_out = times_out
    exp-shows exp.KeepsAlive stays times_out = stays

    repeats-shows : (began again : ℕ) (next : Phase) (emission : Emission) → Q s.sending
        → Q (repeats s began again next emission).after.sending
    repeats-shows began again next emission stays =
        repeats-show s began again next emission (λ outcome. Q outcome.after.sending)
        (record { fails = stays; again = stays; waits = stays })

    tick-shows : (phase : Phase) → Q s.sending → Q (after_timeout w s.sending s.rtt) → Q (tick_in w s phase).after.sending
    tick-shows phase.Connected stays times_out = exp-shows (exp_outcome s) stays times_out
    tick-shows (phase.Connecting c again) stays times_out = repeats-shows c.caller.began again _ _ stays
    tick-shows (phase.Meeting m again) stays times_out = repeats-shows m.caller.began again _ _ stays
    tick-shows phase.Closing stays times_out = stays
    tick-shows _ stays times_out = stays

    act-shows : (act : Act) → OfSending s act Q → Q (on_act w s act).after.sending
    act-shows (Send bytes) cases = send_as-shows bytes s.kind refl cases.stays (cases.sends bytes refl)
    act-shows (Recv room) cases = recv_as-shows room s.kind cases.stays
    act-shows (SendMessage ttl order bytes) cases =
        send_message_as-shows ttl order bytes s.kind refl cases.stays (cases.asks s.last ttl order bytes refl)
    act-shows (RecvMessage room) cases = recv_message_as-shows room s.kind cases.stays
    act-shows Pack cases = pack-shows (link_of s.phase) cases.stays (cases.packs s.last)
    act-shows Tick cases = tick-shows s.phase cases.stays cases.times_out
    act-shows (Arrive from bytes) cases = arrival-shows w s from (λ outcome. Q outcome.after.sending) (read bytes) (record {
      passed = λ counters answer differs. cases.stays;
      noticed = λ counters answer differs connected. cases.stays;
      brought = λ number flags stamp payload connected sender is. cases.stays;
      dropped = λ message stamp first last range connected sender is messages taken. cases.stays;
      acknowledged = λ number stamp body offset connected sender is acks.
          cases.acknowledges from bytes number stamp body offset refl sender is acks;
      reported = λ stamp ranges connected sender is. cases.reports ranges;
      confirmed = λ number ack connected found. cases.stays;
      ended = λ connected. cases.stays;
      again = λ stamp dest shake answer connected sender is same answers. cases.stays;
      shaken = λ next peer origin answer emissions differs drops unsettled is. cases.stays;
      linked = λ peer origin emissions unsettled is. cases.links peer unsettled;
    })
    act-shows _ cases = cases.stays

  -- what holds of the half after all these holds after the event
  pub sending-shows : (s : State C) (event : Event) (Q : Sending C → Type 0) → OfSending s event.act Q → Q (step w s event).after.sending
  unfolding step
  sending-shows s event Q cases = act-shows (at_moment s event.now) Q event.act (record {
    stays = cases.stays;
    sends = cases.sends;
    asks = cases.asks;
    packs = cases.packs;
    acknowledges = cases.acknowledges;
    reports = cases.reports;
    times_out = cases.times_out;
    links = cases.links;
  })
