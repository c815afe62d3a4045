-- What an event may do to the receiving half.
use Rattle.std.proofs.Common.{◌≡◌, ℕ, Bool, List, Ok, refl}
use Rattle.std.specs.Prelude.{Option, Some, false, length, min}
use Rattle.udt_model.specs.declared.addresses.Addr.{Addr}
use Rattle.udt_model.specs.declared.answers.Peer.{Peer}
use Rattle.udt_model.specs.Phases.{Phase, Link, Stands, Lost, Absent, link_of}
use Rattle.udt_model.specs.Phases as phase
use Rattle.udt_model.specs.declared.packets.Flags.{Flags}
use Rattle.udt_model.specs.declared.packets.Kind.{Kind}
use Rattle.udt_model.specs.declared.packets.Kind.TheVariants as kind
use Rattle.udt_model.specs.declared.sockets.ExpOutcome.{ExpOutcome}
use Rattle.udt_model.specs.declared.sockets.ExpOutcome.TheVariants as exp
use Rattle.udt_model.specs.Calls.{send_in, send_as, received_by, recv_in, recv_as, send_message_in, send_message_as, recv_message_in, recv_message_as, pack_in}
use Rattle.udt_model.specs.Connections.{repeats}
use Rattle.udt_model.specs.Events.{Act, Send, Recv, SendMessage, RecvMessage, Pack, Tick, Arrive, Event, at_moment}
use Rattle.udt_model.specs.Losses.{LostRange}
use Rattle.udt_model.specs.Rate.{Ways}
use Rattle.udt_model.specs.ReceiveHalf.{Receiving, linked_receiving, after_block, drop_range, with_taken, after_receive, after_receive_message}
use Rattle.udt_model.specs.ReceiveReports.{after_ack_timer, after_ack2, after_nak_timer}
use Rattle.udt_model.specs.State.{State, Emission}
use Rattle.udt_model.specs.Step.{on_act, step}
use Rattle.udt_model.specs.Ticks.{exp_outcome, after_exp, after_reports, tick_in}
use Rattle.udt_model.specs.Timing.{RoundTrip}
use Rattle.udt_model.specs.Wire.{Block, DropAsk, read}
use Rattle.udt_model.proofs.ArrivalLemmas.{arrival-shows}
use Rattle.udt_model.proofs.PhaseLemmas.{is_settled, repeats-show}

module _ {C : Type 0} where
  -- what has to be shown of the half after each kind of event, so that it holds after this one
  pub record OfReceiving (s : State C) (act : Act) (Q : Receiving → Type 0) : Type 0 where
    pub stays : Q s.receiving
    pub reads : (room : ℕ) → s.kind ≡ kind.Stream → Q (after_receive s.receiving (length (received_by s.receiving room)))
    pub shows : (room : ℕ) → s.kind ≡ kind.Message → Q (after_receive_message s.receiving room)
    pub carries : (now : ℕ) (from : Addr) (raw : List ℕ) (number : ℕ) (flags : Flags) (stamp : ℕ) (bytes : List ℕ)
        → act ≡ Arrive from raw → from ≡ s.peer.addr → read raw ≡ Ok (Block number flags stamp s.own bytes)
        → Q (after_block s.receiving now number flags bytes)
    pub drops : (now : ℕ) (from : Addr) (raw : List ℕ) (message stamp first last : ℕ) (range : LostRange)
        → act ≡ Arrive from raw → from ≡ s.peer.addr → read raw ≡ Ok (DropAsk message stamp s.own first last)
        → s.kind ≡ kind.Message → drop_range s.receiving first last ≡ Some range → Q (with_taken s.receiving now range)
    pub tells : (now : ℕ) (known : RoundTrip) → Q (after_nak_timer (after_ack_timer s.receiving now known) now known)
    pub confirms : (number : ℕ) → Q (after_ack2 s.receiving number)
    pub links : (now : ℕ) (peer : Peer) → is_settled s.phase ≡ false
        → Q (linked_receiving s.receiving now peer.isn (min s.sending.blocks.room peer.payload) s.rtt)

  module _ (s : State C) (Q : Receiving → Type 0) where
    send-shows : (bytes : List ℕ) (link : Link) → Q s.receiving → Q (send_in s bytes link).after.receiving
    send-shows bytes Stands stays = stays
    send-shows bytes (Lost why) stays = stays
    send-shows bytes Absent stays = stays

    recv-shows : (room : ℕ) (link : Link) → Q s.receiving
        → Q (after_receive s.receiving (length (received_by s.receiving room)))
        → Q (recv_in s room link).after.receiving
    recv-shows room Stands stays reads = reads
    recv-shows room (Lost why) stays reads = reads
    recv-shows room Absent stays reads = stays

    send_as-shows : (bytes : List ℕ) (k : Kind) → Q s.receiving → Q (send_as s bytes k).after.receiving
    send_as-shows bytes kind.Stream stays = send-shows bytes (link_of s.phase) stays
    send_as-shows bytes kind.Message stays = stays

    recv_as-shows : (room : ℕ) (k : Kind) → s.kind ≡ k → Q s.receiving
        → (s.kind ≡ kind.Stream → Q (after_receive s.receiving (length (received_by s.receiving room))))
        → Q (recv_as s room k).after.receiving
    recv_as-shows room kind.Stream is stays reads = recv-shows room (link_of s.phase) stays (reads is)
    recv_as-shows room kind.Message is stays reads = stays

    send_message-shows : (ttl : Option ℕ) (order : Bool) (bytes : List ℕ) (link : Link) → Q s.receiving
        → Q (send_message_in s ttl order bytes link).after.receiving
    send_message-shows ttl order bytes Stands stays = stays
    send_message-shows ttl order bytes (Lost why) stays = stays
    send_message-shows ttl order bytes Absent stays = stays

    send_message_as-shows : (ttl : Option ℕ) (order : Bool) (bytes : List ℕ) (k : Kind) → Q s.receiving
        → Q (send_message_as s ttl order bytes k).after.receiving
    send_message_as-shows ttl order bytes kind.Stream stays = stays
    send_message_as-shows ttl order bytes kind.Message stays = send_message-shows ttl order bytes (link_of s.phase)
        stays

    recv_message-shows : (room : ℕ) (link : Link) → Q s.receiving → Q (after_receive_message s.receiving room)
        → Q (recv_message_in s room link).after.receiving
    recv_message-shows room Stands stays shows = shows
    recv_message-shows room (Lost why) stays shows = shows
    recv_message-shows room Absent stays shows = stays

    recv_message_as-shows : (room : ℕ) (k : Kind) → s.kind ≡ k → Q s.receiving
        → (s.kind ≡ kind.Message → Q (after_receive_message s.receiving room))
        → Q (recv_message_as s room k).after.receiving
    recv_message_as-shows room kind.Stream is stays shows = stays
    recv_message_as-shows room kind.Message is stays shows = recv_message-shows room (link_of s.phase) stays (shows is)

module _ {C : Type 0} (w : Ways C) (s : State C) (Q : Receiving → Type 0) where
  pack-shows : (link : Link) → Q s.receiving → Q (pack_in w s link).after.receiving
  pack-shows Stands stays = stays
  pack-shows (Lost why) stays = stays
  pack-shows Absent stays = stays

  exp-shows : (what : ExpOutcome) → Q (after_reports s).receiving → Q (after_exp w (after_reports s) what).receiving
  exp-shows exp.NotDue reported = reported
  exp-shows exp.Breaks reported = reported
  exp-shows exp.LosesAll reported = reported
  exp-shows exp.KeepsAlive reported = reported

  repeats-shows : (began again : ℕ) (next : Phase) (emission : Emission) → Q s.receiving
      → Q (repeats s began again next emission).after.receiving
  repeats-shows began again next emission stays =
      repeats-show s began again next emission (λ outcome. Q outcome.after.receiving)
      (record { fails = stays; again = stays; waits = stays })

  tick-shows : (phase : Phase) → Q s.receiving → Q (after_reports s).receiving → Q (tick_in w s phase).after.receiving
  tick-shows phase.Connected stays tells = exp-shows (exp_outcome s) tells
  tick-shows (phase.Connecting c again) stays tells = repeats-shows c.caller.began again _ _ stays
  tick-shows (phase.Meeting m again) stays tells = repeats-shows m.caller.began again _ _ stays
  tick-shows phase.Closing stays tells = stays
  tick-shows _ stays tells = stays

  act-shows : (act : Act) → OfReceiving s act Q → Q (on_act w s act).after.receiving
  act-shows (Send bytes) cases = send_as-shows s Q bytes s.kind cases.stays
  act-shows (Recv room) cases = recv_as-shows s Q room s.kind refl cases.stays (cases.reads room)
  act-shows (SendMessage ttl order bytes) cases = send_message_as-shows s Q ttl order bytes s.kind cases.stays
  act-shows (RecvMessage room) cases = recv_message_as-shows s Q room s.kind refl cases.stays (cases.shows room)
  act-shows Pack cases = pack-shows (link_of s.phase) cases.stays
  act-shows Tick cases = tick-shows s.phase cases.stays (cases.tells s.last s.rtt)
  act-shows (Arrive from bytes) cases = arrival-shows w s from (λ outcome. Q outcome.after.receiving) (read bytes) (record {
    passed = λ counters answer differs. cases.stays;
    noticed = λ counters answer differs connected. cases.stays;
    brought = λ number flags stamp payload connected sender is. cases.carries s.last from bytes number flags stamp payload refl sender is;
    dropped = λ message stamp first last range connected sender is messages taken.
        cases.drops s.last from bytes message stamp first last range refl sender is messages taken;
    acknowledged = λ number stamp body offset connected sender is acks. cases.stays;
    reported = λ stamp ranges connected sender is. cases.stays;
    confirmed = λ number ack connected found. cases.confirms number;
    ended = λ connected. cases.stays;
    again = λ stamp dest shake answer connected sender is same answers. cases.stays;
    shaken = λ next peer origin answer emissions differs drops unsettled is. cases.stays;
    linked = λ peer origin emissions unsettled is. cases.links s.last peer unsettled;
  })
  act-shows _ cases = cases.stays

-- what holds of the half after all these holds after the event
pub receiving-shows : {C : Type 0} (w : Ways C) (s : State C) (event : Event) (Q : Receiving → Type 0) → OfReceiving s event.act Q
    → Q (step w s event).after.receiving
unfolding step
receiving-shows w s event Q cases = act-shows w (at_moment s event.now) Q event.act (record {
  stays = cases.stays;
  reads = cases.reads;
  shows = cases.shows;
  carries = cases.carries;
  drops = cases.drops;
  tells = cases.tells;
  confirms = cases.confirms;
  links = cases.links;
})
