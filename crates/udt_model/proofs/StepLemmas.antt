-- What events of a socket don't change: who it is, and from a settled phase on who its peer is, and the initial
-- sequence numbers.
use Rattle.std.proofs.Common.{◌≡◌, ℕ, Bool, true, false, List, [], ◌∷◌, refl, ◌∙◌}
use Rattle.std.specs.Prelude.{Option, Result, length}
use Rattle.udt_model.specs.declared.addresses.Addr.{Addr}
use Rattle.udt_model.specs.Phases.{Phase, Link, Stands, Lost, Absent, link_of}
use Rattle.udt_model.specs.Phases as phase
use Rattle.udt_model.specs.declared.answers.Cause.TheVariants as cause
use Rattle.udt_model.specs.declared.answers.Failure.TheVariants as failure
use Rattle.udt_model.specs.declared.answers.Peer.{Peer}
use Rattle.udt_model.specs.declared.packets.Config.{Config}
use Rattle.udt_model.specs.declared.packets.Kind.{Kind}
use Rattle.udt_model.specs.declared.packets.Kind.TheVariants as kind
use Rattle.udt_model.specs.declared.packets.Malformed.{Malformed}
use Rattle.udt_model.specs.declared.sockets.Counters.{Counters}
use Rattle.udt_model.specs.declared.sockets.ExpOutcome.{ExpOutcome}
use Rattle.udt_model.specs.declared.sockets.ExpOutcome.TheVariants as exp
use Rattle.udt_model.specs.Arrivals.{on_read}
use Rattle.udt_model.specs.Calls.{send_in, send_as, received_by, recv_in, recv_as, send_message_in, send_message_as, recv_message_in, recv_message_as, pack_in, on_close, packed_so}
use Rattle.udt_model.specs.Connections.{is_backlog, has_port, repeats}
use Rattle.udt_model.specs.Events.{Act, Listen, Connect, Meet, Accept, Offer, Withdraw, Send, Recv, SendMessage, RecvMessage, Pack, Tick, Close, PortDown, Arrive, Event, at_moment}
use Rattle.udt_model.specs.History.{Item, after_items}
use Rattle.udt_model.specs.Opening.{opening}
use Rattle.udt_model.specs.Rate.{Ways}
use Rattle.udt_model.specs.ReceiveHalf.{Receiving}
use Rattle.udt_model.specs.SendHalf.{Sending, Packing, packing}
use Rattle.udt_model.specs.State.{State, Emission}
use Rattle.udt_model.specs.Step.{on_act, step}
use Rattle.udt_model.specs.Ticks.{exp_outcome, after_exp, after_reports, tick_in}
use Rattle.udt_model.specs.Timing.{RoundTrip}
use Rattle.udt_model.specs.Wire.{Packet, read}
use Rattle.udt_model.proofs.ArrivalLemmas.{arrival-shows}
use Rattle.udt_model.proofs.HalfLemmas.{KeepsSending, KeepsReceiving, same_sending, same_receiving, sending_on, receiving_on, after_send-keeps, after_send_message-keeps, packing-keeps, after_ack-keeps, after_nak-keeps, after_timeout-keeps, after_receive-keeps, after_receive_message-keeps, with_taken-keeps, after_block-keeps, after_ack_timer-keeps, after_nak_timer-keeps, after_ack2-keeps}
use Rattle.udt_model.proofs.PhaseLemmas.{is_settled, speaks, Follows, follows-ended, begun-follows, accept-follows, offer-follows, withdraw-follows, port-follows, closed-follows, repeats-show}

module _ {C : Type 0} where
  -- what an event never changes
  pub record KeepsName (s t : State C) : Type 0 where
    pub own : t.own ≡ s.own
    pub kind : t.kind ≡ s.kind
    pub isn : t.isn ≡ s.isn
    pub opened : t.opened ≡ s.opened

  -- and what it doesn't change where the phase is settled, which it then stays
  pub record KeepsIdentity (s t : State C) : Type 0 where
    pub own : t.own ≡ s.own
    pub kind : t.kind ≡ s.kind
    pub isn : t.isn ≡ s.isn
    pub opened : t.opened ≡ s.opened
    pub peer : t.peer ≡ s.peer
    pub origin : t.origin ≡ s.origin
    pub settled : is_settled s.phase ≡ true → is_settled t.phase ≡ true
    pub speaks : is_settled s.phase ≡ true → speaks t.phase ≡ true → speaks s.phase ≡ true
    pub sending : KeepsSending s.sending t.sending
    pub receiving : KeepsReceiving s.receiving t.receiving

  -- both
  record Keeps (s t : State C) : Type 0 where
    name : KeepsName s t
    identity : is_settled s.phase ≡ true → KeepsIdentity s t

  name_of : (s t : State C) → KeepsIdentity s t → KeepsName s t
  name_of s t kept = record { own = kept.own; kind = kept.kind; isn = kept.isn; opened = kept.opened }

  all-kept : (s t : State C) → KeepsIdentity s t → Keeps s t
  all-kept s t kept = record { name = name_of s t kept; identity = λ settled. kept }

  pub same_name : (s : State C) → KeepsName s s
  same_name s = record { own = refl; kind = refl; isn = refl; opened = refl }

  pub name_on : (s t u : State C) → KeepsName s t → KeepsName t u → KeepsName s u
  name_on s t u first second = record {
    own = second.own ∙ first.own;
    kind = second.kind ∙ first.kind;
    isn = second.isn ∙ first.isn;
    opened = second.opened ∙ first.opened;
  }

  pub same_identity : (s : State C) → KeepsIdentity s s
  same_identity s = record {
    own = refl;
    kind = refl;
    isn = refl;
    opened = refl;
    peer = refl;
    origin = refl;
    settled = λ settled. settled;
    speaks = λ settled spoken. spoken;
    sending = same_sending s.sending;
    receiving = same_receiving s.receiving;
  }

  pub identity_on : (s t u : State C) → KeepsIdentity s t → KeepsIdentity t u → KeepsIdentity s u
  identity_on s t u first second = record {
    own = second.own ∙ first.own;
    kind = second.kind ∙ first.kind;
    isn = second.isn ∙ first.isn;
    opened = second.opened ∙ first.opened;
    peer = second.peer ∙ first.peer;
    origin = second.origin ∙ first.origin;
    settled = λ settled. second.settled (first.settled settled);
    speaks = λ settled spoken. first.speaks settled (second.speaks (first.settled settled) spoken);
    sending = sending_on s.sending t.sending u.sending first.sending second.sending;
    receiving = receiving_on s.receiving t.receiving u.receiving first.receiving second.receiving;
  }

  -- the halves change, and who the socket and its peer are doesn't
  sending-keeps : (s : State C) (sending : Sending C) → KeepsSending s.sending sending → KeepsIdentity s (record s { sending = sending })
  sending-keeps s sending sends = record {
    own = refl;
    kind = refl;
    isn = refl;
    opened = refl;
    peer = refl;
    origin = refl;
    settled = λ settled. settled;
    speaks = λ settled spoken. spoken;
    sending = sends;
    receiving = same_receiving s.receiving;
  }

  receiving-keeps : (s : State C) (receiving : Receiving) → KeepsReceiving s.receiving receiving
      → KeepsIdentity s (record s { receiving = receiving })
  receiving-keeps s receiving receives = record {
    own = refl;
    kind = refl;
    isn = refl;
    opened = refl;
    peer = refl;
    origin = refl;
    settled = λ settled. settled;
    speaks = λ settled spoken. spoken;
    sending = same_sending s.sending;
    receiving = receives;
  }

  -- nor do other fields tell who it is
  others-keep : (s t : State C) (heard exp_from exp_count : ℕ) (rtt : RoundTrip) (counters : Counters)
      → KeepsIdentity s t
      → KeepsIdentity s (record t {
        heard = heard;
        exp_from = exp_from;
        exp_count = exp_count;
        rtt = rtt;
        counters =
            counters;
      })
  others-keep s t heard exp_from exp_count rtt counters kept = record {
    own = kept.own;
    kind = kept.kind;
    isn = kept.isn;
    opened = kept.opened;
    peer = kept.peer;
    origin = kept.origin;
    settled = kept.settled;
    speaks = kept.speaks;
    sending = kept.sending;
    receiving = kept.receiving;
  }

  -- a settled phase may change to another one
  phase-keeps : (s : State C) (next : Phase) → Follows s.phase next → KeepsIdentity s (record s { phase = next })
  phase-keeps s next follows = record {
    own = refl;
    kind = refl;
    isn = refl;
    opened = refl;
    peer = refl;
    origin = refl;
    settled = λ settled. (follows settled).0;
    speaks = λ settled. (follows settled).1;
    sending = same_sending s.sending;
    receiving = same_receiving s.receiving;
  }

  send-keeps : (s : State C) (bytes : List ℕ) (link : Link) → KeepsIdentity s (send_in s bytes link).after
  send-keeps s bytes Stands = sending-keeps s _ (after_send-keeps s.sending bytes)
  send-keeps s bytes (Lost why) = same_identity s
  send-keeps s bytes Absent = same_identity s

  recv-keeps : (s : State C) (room : ℕ) (link : Link) → KeepsIdentity s (recv_in s room link).after
  recv-keeps s room Stands =
      receiving-keeps s _ (after_receive-keeps s.receiving (length (received_by s.receiving room)))
  recv-keeps s room (Lost why) =
      receiving-keeps s _ (after_receive-keeps s.receiving (length (received_by s.receiving room)))
  recv-keeps s room Absent = same_identity s

  send_as-keeps : (s : State C) (bytes : List ℕ) (k : Kind) → KeepsIdentity s (send_as s bytes k).after
  send_as-keeps s bytes kind.Stream = send-keeps s bytes (link_of s.phase)
  send_as-keeps s bytes kind.Message = same_identity s

  recv_as-keeps : (s : State C) (room : ℕ) (k : Kind) → KeepsIdentity s (recv_as s room k).after
  recv_as-keeps s room kind.Stream = recv-keeps s room (link_of s.phase)
  recv_as-keeps s room kind.Message = same_identity s

  send_message-keeps : (s : State C) (ttl : Option ℕ) (order : Bool) (bytes : List ℕ) (link : Link)
      → KeepsIdentity s (send_message_in s ttl order bytes link).after
  send_message-keeps s ttl order bytes Stands =
      sending-keeps s _ (after_send_message-keeps s.sending s.last ttl order bytes)
  send_message-keeps s ttl order bytes (Lost why) = same_identity s
  send_message-keeps s ttl order bytes Absent = same_identity s

  send_message_as-keeps : (s : State C) (ttl : Option ℕ) (order : Bool) (bytes : List ℕ) (k : Kind)
      → KeepsIdentity s (send_message_as s ttl order bytes k).after
  send_message_as-keeps s ttl order bytes kind.Stream = same_identity s
  send_message_as-keeps s ttl order bytes kind.Message = send_message-keeps s ttl order bytes (link_of s.phase)

  recv_message-keeps : (s : State C) (room : ℕ) (link : Link) → KeepsIdentity s (recv_message_in s room link).after
  recv_message-keeps s room Stands = receiving-keeps s _ (after_receive_message-keeps s.receiving room)
  recv_message-keeps s room (Lost why) = receiving-keeps s _ (after_receive_message-keeps s.receiving room)
  recv_message-keeps s room Absent = same_identity s

  recv_message_as-keeps : (s : State C) (room : ℕ) (k : Kind) → KeepsIdentity s (recv_message_as s room k).after
  recv_message_as-keeps s room kind.Stream = same_identity s
  recv_message_as-keeps s room kind.Message = recv_message-keeps s room (link_of s.phase)

  close-keeps : (s : State C) → KeepsIdentity s (on_close s).after
  close-keeps s = phase-keeps s _ (closed-follows s.phase)

  reports-keep : (s : State C) → KeepsIdentity s (after_reports s)
  reports-keep s =
      receiving-keeps s _
      (receiving_on s.receiving _ _ (after_ack_timer-keeps s.receiving s.last s.rtt) (after_nak_timer-keeps _ s.last s.rtt))

module _ {C : Type 0} (w : Ways C) where
  packed-keeps : (s : State C) (p : Packing) → KeepsIdentity s (packed_so w s p).after
  packed-keeps s p =
      others-keep s (record s { sending = _ }) _ _ _ _ _ (sending-keeps s _ (packing-keeps w s.sending s.last p))

  pack-keeps : (s : State C) (link : Link) → KeepsIdentity s (pack_in w s link).after
  pack-keeps s Stands = packed-keeps s (packing w s.sending s.last)
  pack-keeps s (Lost why) = same_identity s
  pack-keeps s Absent = same_identity s

  exp-keeps : (s : State C) (what : ExpOutcome) → KeepsIdentity s (after_exp w s what)
  exp-keeps s exp.NotDue = same_identity s
  exp-keeps s exp.Breaks = phase-keeps s (phase.Broken cause.Expired)
      (follows-ended s.phase (phase.Broken cause.Expired) refl refl)
  exp-keeps s exp.LosesAll =
      others-keep s (record s { sending = _ }) _ _ _ _ _ (sending-keeps s _ (after_timeout-keeps w s.sending s.rtt))
  exp-keeps s exp.KeepsAlive = others-keep s s _ _ _ _ _ (same_identity s)

  -- a socket that waits for a handshake isn't settled
  repeats-keep : (s : State C) (began again : ℕ) (next : Phase) (emission : Emission) → is_settled s.phase ≡ false
      → KeepsIdentity s (repeats s began again next emission).after
  repeats-keep s began again next emission unsettled =
      repeats-show s began again next emission (λ outcome. KeepsIdentity s outcome.after) (record {
        fails = phase-keeps s (phase.Failed failure.TimedOut) (follows-ended s.phase (phase.Failed failure.TimedOut)
            refl refl);
        again = phase-keeps s _ (λ settled. absurd (cc));
        waits = same_identity s;
      })

  tick-keeps : (s : State C) (phase : Phase) → s.phase ≡ phase → KeepsIdentity s (tick_in w s phase).after
  tick-keeps s phase.Connected is = identity_on s (after_reports s) _ (reports-keep s)
      (exp-keeps (after_reports s) (exp_outcome s))
  tick-keeps s (phase.Connecting c again) is = repeats-keep s c.caller.began again _ _ (rw is refl)
  tick-keeps s (phase.Meeting m again) is = repeats-keep s m.caller.began again _ _ (rw is refl)
  tick-keeps s phase.Closing is = phase-keeps s phase.Closed (follows-ended s.phase phase.Closed refl refl)
  tick-keeps s _ is = same_identity s

  on_read-keeps : (s : State C) (from : Addr) (result : Result Packet Malformed)
      → Keeps s (on_read w s from result).after
  on_read-keeps s from result = arrival-shows w s from (λ outcome. Keeps s outcome.after) result (record {
    passed = λ counters answer differs. all-kept s _ (others-keep s s _ _ _ _ _ (same_identity s));
    noticed = λ counters answer differs connected. all-kept s _ (others-keep s s _ _ _ _ _ (same_identity s));
    brought = λ number flags stamp bytes connected sender is.
        all-kept s _ (others-keep s (record s { receiving = _ }) _ _ _ _ _
        (receiving-keeps s _ (after_block-keeps s.receiving s.last number flags bytes)));
    dropped = λ message stamp first last range connected sender is messages taken.
        all-kept s _ (others-keep s (record s { receiving = _ }) _ _ _ _ _
        (receiving-keeps s _ (with_taken-keeps s.receiving s.last range)));
    acknowledged = λ number stamp body offset connected sender is acks.
        all-kept s _ (others-keep s (record s { sending = _ }) _ _ _ _ _
        (sending-keeps s _ (after_ack-keeps w s.sending s.rtt body)));
    reported = λ stamp ranges connected sender is.
        all-kept s _ (others-keep s (record s { sending = _ }) _ _ _ _ _
        (sending-keeps s _ (after_nak-keeps w s.sending s.rtt ranges)));
    confirmed = λ number ack connected found.
        all-kept s _ (others-keep s (record s { receiving = _ }) _ _ _ _ _
        (receiving-keeps s _ (after_ack2-keeps s.receiving number)));
    ended = λ connected.
        all-kept s _
        (others-keep s (record s { phase = _ }) _ _ _ _ _
        (phase-keeps s (phase.Broken cause.PeerShutdown) (follows-ended s.phase (phase.Broken cause.PeerShutdown)
        refl refl)));
    again = λ stamp dest shake answer connected sender is same answers.
        all-kept s _ (others-keep s s _ _ _ _ _ (same_identity s));
    shaken = λ next peer origin answer emissions differs drops unsettled is.
        record {
          name = record { own = refl; kind = refl; isn = refl; opened = refl };
          identity =
              λ settled. absurd (cc);
        };
    linked = λ peer origin emissions unsettled is.
        record {
          name = record { own = refl; kind = refl; isn = refl; opened = refl };
          identity =
              λ settled. absurd (cc);
        };
  })

  on_act-keeps : (s : State C) (act : Act) → Keeps s (on_act w s act).after
  on_act-keeps s (Listen backlog secret) = all-kept s _ (phase-keeps s _ (begun-follows (is_backlog backlog) s.phase _))
  on_act-keeps s (Connect to) = all-kept s _ (phase-keeps s _ (begun-follows (has_port to) s.phase _))
  on_act-keeps s (Meet to) = all-kept s _ (phase-keeps s _ (begun-follows (has_port to) s.phase _))
  on_act-keeps s Accept = all-kept s _ (phase-keeps s _ (accept-follows s.phase))
  on_act-keeps s (Offer id) = all-kept s _ (phase-keeps s _ (offer-follows id s.phase))
  on_act-keeps s Withdraw = all-kept s _ (phase-keeps s _ (withdraw-follows s.phase))
  on_act-keeps s (Send bytes) = all-kept s _ (send_as-keeps s bytes s.kind)
  on_act-keeps s (Recv room) = all-kept s _ (recv_as-keeps s room s.kind)
  on_act-keeps s (SendMessage ttl order bytes) = all-kept s _ (send_message_as-keeps s ttl order bytes s.kind)
  on_act-keeps s (RecvMessage room) = all-kept s _ (recv_message_as-keeps s room s.kind)
  on_act-keeps s Pack = all-kept s _ (pack-keeps s (link_of s.phase))
  on_act-keeps s Tick = all-kept s _ (tick-keeps s s.phase refl)
  on_act-keeps s Close = all-kept s _ (close-keeps s)
  on_act-keeps s PortDown = all-kept s _ (phase-keeps s _ (port-follows s.phase))
  on_act-keeps s (Arrive from bytes) = on_read-keeps s from (read bytes)
  on_act-keeps s _ = all-kept s _ (same_identity s)

  -- an event keeps the name of a socket
  pub step-keeps_name : (s : State C) (event : Event) → KeepsName s (step w s event).after
  unfolding step
  step-keeps_name s event =
      let kept = (on_act-keeps (at_moment s event.now) event.act).name in
      record { own = kept.own; kind = kept.kind; isn = kept.isn; opened = kept.opened }

  -- and all of its identity where it is settled
  pub step-keeps : (s : State C) (event : Event) → is_settled s.phase ≡ true → KeepsIdentity s (step w s event).after
  unfolding step
  step-keeps s event settled =
      let kept = (on_act-keeps (at_moment s event.now) event.act).identity settled in
      record {
        own = kept.own;
        kind = kept.kind;
        isn = kept.isn;
        opened = kept.opened;
        peer = kept.peer;
        origin = kept.origin;
        settled = kept.settled;
        speaks = kept.speaks;
        sending = kept.sending;
        receiving = kept.receiving;
      }

  -- nor do all events of a history
  pub after_items-keeps_name : (s : State C) (items : List Item) → KeepsName s (after_items w s items)
  unfolding after_items
  after_items-keeps_name s [] = same_name s
  after_items-keeps_name s (item ∷ items) =
      name_on s (step w s item.event).after _ (step-keeps_name s item.event)
      (after_items-keeps_name (step w s item.event).after items)

  -- of a settled socket they keep all of its identity
  pub after_items-keeps : (s : State C) (items : List Item) → is_settled s.phase ≡ true
      → KeepsIdentity s (after_items w s items)
  unfolding after_items
  after_items-keeps s [] settled = same_identity s
  after_items-keeps s (item ∷ items) settled =
      let kept = step-keeps s item.event settled in
      identity_on s (step w s item.event).after _ kept (after_items-keeps (step w s item.event).after items
      (kept.settled settled))

  -- a settled phase stays settled
  pub after_items-settled : (s : State C) (items : List Item) → is_settled s.phase ≡ true
      → is_settled (after_items w s items).phase ≡ true
  after_items-settled s items settled = (after_items-keeps s items settled).settled settled

  -- a socket that is connected from its opening on is settled
  pub opening-settled : (own : ℕ) (config : Config) (peer : Peer) (now start : ℕ)
      → is_settled (opening w own config peer now start).phase ≡ true
  unfolding opening
  opening-settled own config peer now start = refl
