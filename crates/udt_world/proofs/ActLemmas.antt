-- What an act leaves of a socket's phase, of its peer and of those that wait at it, and that none but a listen is answered as one.
use Rattle.std.proofs.Common.{◌≡◌, ℕ, zero, suc, Bool, true, false, List, [], ◌∷◌, drop, refl, ap, ◌∙◌, sym, subst, inl, inr, ◌⊎◌, arith}
use Rattle.std.specs.Prelude.{Option, Some, Ok}
use Rattle.std.specs.List.{Contains}
use Rattle.std.proofs.lemmas.List.Elements.{Contains-append_right, Contains-push_cases}
use Rattle.udt_model.specs.declared.addresses.Addr.{Addr}
use Rattle.udt_model.specs.declared.answers.Heard.{Heard}
use Rattle.udt_model.specs.declared.answers.Heard.TheVariants as heard
use Rattle.udt_model.specs.declared.answers.Cause.TheVariants as cause
use Rattle.udt_model.specs.declared.answers.Failure.TheVariants as failure
use Rattle.udt_model.specs.declared.answers.Origin.{Origin}
use Rattle.udt_model.specs.declared.answers.Origin.TheVariants as origin
use Rattle.udt_model.specs.declared.answers.Peer.{Peer}
use Rattle.udt_model.specs.declared.handshakes.ClientSaw.TheVariants as client
use Rattle.udt_model.specs.declared.handshakes.MeetSaw.TheVariants as meet
use Rattle.udt_model.specs.declared.packets.Kind.{Kind}
use Rattle.udt_model.specs.declared.packets.Kind.TheVariants as kind
use Rattle.udt_model.specs.declared.packets.Shake.{Shake}
use Rattle.udt_model.specs.declared.sockets.Counters.{Counters}
use Rattle.udt_model.specs.declared.sockets.ExpOutcome.{ExpOutcome}
use Rattle.udt_model.specs.declared.sockets.ExpOutcome.TheVariants as exp
use Rattle.udt_model.specs.Arrivals.{on_read}
use Rattle.udt_model.specs.Calls.{closed_from, send_in, send_as, recv_in, recv_as, send_message_in, send_message_as, recv_message_in, recv_message_as, pack_in}
use Rattle.udt_model.specs.Connections.{begun, phase_after, is_backlog, has_port, with_offer, phase_after_accept, phase_after_offer, phase_after_withdraw, phase_without_port, repeats}
use Rattle.udt_model.specs.Connections as connections
use Rattle.udt_model.specs.Counted.{on_control}
use Rattle.udt_model.specs.Events.{Act, Listen, Connect, Meet, Accept, Offer, Withdraw, Send, Recv, SendMessage, RecvMessage, Pack, Tick, Close, PortDown, Arrive, Reply, DidMeet, DidTick, Outcome, answered, event, at_moment}
use Rattle.udt_model.specs.Handshakes.{Connecting, Meeting}
use Rattle.udt_model.specs.Network.{is_listening, meets_by}
use Rattle.udt_model.specs.Opening.{connected}
use Rattle.udt_model.specs.Phases.{Phase, Backlog, Link, Stands, Lost, Absent, link_of, is_closed}
use Rattle.udt_model.specs.Phases as phase
use Rattle.udt_model.specs.Rate.{Ways}
use Rattle.udt_model.specs.Routes.{handshake_in}
use Rattle.udt_model.specs.State.{State, Emission}
use Rattle.udt_model.specs.Step.{on_act, step}
use Rattle.udt_model.specs.Ticks.{after_exp, after_reports, exp_outcome, tick_in}
use Rattle.udt_model.specs.Wire.{Handshake, read}
use Rattle.udt_model.proofs.ArrivalLemmas as arrives
use Rattle.udt_model.proofs.ArrivalLemmas.{Shakes, Links, arrival-shows}
use Rattle.udt_model.proofs.HandshakeLemmas.{SeesAsClient, SeesOffer, SeesAsMeeting, SeesFirst, SeesAnswer, SeesPeer, client_saw-sees, meet_saw-sees}
use Rattle.udt_model.proofs.PeerLemmas.{KeepsPeer}
use Rattle.udt_model.proofs.PhaseLemmas.{repeats-show}
use Rattle.udt_world.specs.Wiring.{FitsPhase, IsAdopted, waiting_at}

-- what waits behind the first one waits
pub still-waits : (ids : List ℕ) (id : ℕ) → Contains (drop 1 ids) id → Contains ids id
still-waits [] id waits = waits
still-waits (first ∷ ids) id waits = Contains-append_right (first ∷ []) ids id waits

none-waits : (id : ℕ) → Contains [] id → ⊥
none-waits id waits = omega (arith, waits.1)

-- who is told to meet an address was asked to
pub meets-asked : (act : Act) (reply : Reply) (to : Addr) → meets_by act reply ≡ Some to → act ≡ Meet to
meets-asked (Meet other) (DidMeet (Ok done)) to is = let same : other ≡ to = cc in ap Meet same
meets-asked _ _ to is = absurd (cc)

module _ {C : Type 0} where
  -- an act is the arrival of a handshake, which tells of a peer where there was none
  pub record IsToldOf (s : State C) (act : Act) (t : State C) : Type 0 where
    pub from : Addr
    pub raw : List ℕ
    pub shake : Shake
    pub arrives : act ≡ Arrive from raw
    pub reads : handshake_in (read raw) ≡ Some shake
    pub none_before : s.origin ≡ origin.Nobody
    pub addr : t.peer.addr ≡ from
    pub id : t.peer.id ≡ shake.id

  -- what an act leaves, and when it is answered as a listen
  pub record Acts (s : State C) (act : Act) (o : Outcome C) : Type 0 where
    pub own : o.after.own ≡ s.own
    pub closed : is_closed s.phase ≡ true → is_closed o.after.phase ≡ true
    pub waits : (id : ℕ) → Contains (waiting_at o.after.phase) id → Contains (waiting_at s.phase) id ⊎ (act ≡ Offer id)
    pub listens : is_listening o.reply ≡ true → (most : ℕ) × (secret : List ℕ) × (act ≡ Listen most secret)
    pub fits : FitsPhase s.phase s.origin s.peer → FitsPhase o.after.phase o.after.origin o.after.peer
    pub peer : FitsPhase s.phase s.origin s.peer → KeepsPeer s o.after ⊎ IsToldOf s act o.after

  -- ---- phases

  -- a phase that follows another, by an act
  record TurnsTo (s : State C) (act : Act) (p next : Phase) : Type 0 where
    closed : is_closed p ≡ true → is_closed next ≡ true
    waits : (id : ℕ) → Contains (waiting_at next) id → Contains (waiting_at p) id ⊎ (act ≡ Offer id)
    fits : FitsPhase p s.origin s.peer → FitsPhase next s.origin s.peer

  same-turn : (s : State C) (act : Act) (p : Phase) → TurnsTo s act p p
  same-turn s act p = record { closed = λ closed. closed; waits = λ id waits. inl waits; fits = λ fits. fits }

  -- none waits in the next one, and any peer fits it
  ended-turn : (s : State C) (act : Act) (p next : Phase) → (is_closed p ≡ true → is_closed next ≡ true) → waiting_at next ≡ []
      → FitsPhase next s.origin s.peer → TurnsTo s act p next
  ended-turn s act p next closed none fits = record {
    closed = closed;
    waits = λ id waits. absurd (none-waits id (subst (λ (ids : List ℕ). Contains ids id) none waits));
    fits = λ _. fits;
  }

  opened-turn : (s : State C) (act : Act) (next : Phase) → waiting_at next ≡ []
      → (s.origin ≡ origin.Nobody → FitsPhase next s.origin s.peer) → TurnsTo s act phase.Opened next
  opened-turn s act next none fits = record {
    closed = λ closed. absurd (cc);
    waits = λ id waits. absurd (none-waits id (subst (λ (ids : List ℕ). Contains ids id) none waits));
    fits = fits;
  }

  begun-turn : (s : State C) (act : Act) (right : Bool) (p next : Phase) → TurnsTo s act phase.Opened next
      → TurnsTo s act p (phase_after (begun right p) next p)
  begun-turn s act false p next turns = same-turn s act p
  begun-turn s act true phase.Opened next turns = turns
  begun-turn s act true _ next turns = same-turn s act _

  accept-turn : (s : State C) (p : Phase) → TurnsTo s Accept p (phase_after_accept p)
  accept-turn s (phase.Listening b) = record {
    closed = λ closed. closed;
    waits = λ id waits. inl (still-waits b.offered id waits);
    fits = λ fits. fits;
  }
  accept-turn s _ = same-turn s Accept _

  offered-turn : (s : State C) (b : Backlog) (id promised : ℕ) → TurnsTo s (Offer id) (phase.Listening b) (phase.Listening (with_offer b id promised))
  offered-turn s b id zero = same-turn s (Offer id) (phase.Listening b)
  offered-turn s b id (suc promised) = record {
    closed = λ closed. closed;
    waits = λ other waits. elim (Contains-push_cases b.offered id other waits) [
      | inl before ↦ inl before
      | inr same ↦ inr (ap Offer same)
    ];
    fits = λ fits. fits;
  }

  offer-turn : (s : State C) (id : ℕ) (p : Phase) → TurnsTo s (Offer id) p (phase_after_offer id p)
  offer-turn s id (phase.Listening b) = offered-turn s b id b.promised
  offer-turn s id _ = same-turn s (Offer id) _

  withdraw-turn : (s : State C) (p : Phase) → TurnsTo s Withdraw p (phase_after_withdraw p)
  withdraw-turn s (phase.Listening b) = record { closed = λ closed. closed; waits = λ id waits. inl waits; fits = λ fits. fits }
  withdraw-turn s _ = same-turn s Withdraw _

  port-turn : (s : State C) (p : Phase) → TurnsTo s PortDown p (phase_without_port p)
  port-turn s (phase.Listening b) = ended-turn s PortDown _ _ (λ closed. closed) refl tt
  port-turn s (phase.Connecting c again) = ended-turn s PortDown _ _ (λ closed. closed) refl tt
  port-turn s (phase.Meeting m again) = ended-turn s PortDown _ _ (λ closed. closed) refl tt
  port-turn s phase.Connected = ended-turn s PortDown _ _ (λ closed. closed) refl tt
  port-turn s _ = same-turn s PortDown _

  close-turn : (s : State C) (p : Phase) → TurnsTo s Close p (closed_from p)
  close-turn s phase.Connected = ended-turn s Close phase.Connected phase.Closing (λ closed. closed) refl tt
  close-turn s phase.Closing = same-turn s Close phase.Closing
  close-turn s _ = ended-turn s Close _ phase.Closed (λ closed. refl) refl tt

  -- ---- outcomes

  turned-acts : (s : State C) (act : Act) (o : Outcome C) (p next : Phase) → s.phase ≡ p → TurnsTo s act p next
      → o.after.own ≡ s.own → o.after.phase ≡ next → o.after.peer ≡ s.peer → o.after.origin ≡ s.origin
      → (is_listening o.reply ≡ true → (most : ℕ) × (secret : List ℕ) × (act ≡ Listen most secret)) → Acts s act o
  turned-acts s act o p next is turns own phase peer origin listens = record {
    own = own;
    closed = λ closed. ap is_closed phase ∙ turns.closed (sym (ap is_closed is) ∙ closed);
    waits = λ id waits.
        let before = turns.waits id (subst (λ (q : Phase). Contains (waiting_at q) id) phase waits) in
        rw is before;
    listens = listens;
    fits = λ fits. rw (phase, origin, peer) (turns.fits (rw is at fits));
    peer = λ fits. inl (record { peer = peer; origin = origin });
  }

  kept-acts : (s : State C) (act : Act) (o : Outcome C) → o.after.own ≡ s.own → o.after.phase ≡ s.phase
      → o.after.peer ≡ s.peer → o.after.origin ≡ s.origin → is_listening o.reply ≡ false → Acts s act o
  kept-acts s act o own phase peer origin quiet =
      turned-acts s act o s.phase s.phase refl (same-turn s act s.phase) own phase peer origin (λ listening. absurd (cc))

  phase-acts : (s : State C) (act : Act) (next : Phase) (reply : Reply) → is_listening reply ≡ false → TurnsTo s act s.phase next
      → Acts s act (answered (record s { phase = next }) reply)
  phase-acts s act next reply quiet turns =
      turned-acts s act (answered (record s { phase = next }) reply) s.phase next refl turns refl refl refl refl (λ listening. absurd (cc))

  send-acts : (s : State C) (act : Act) (bytes : List ℕ) (link : Link) → Acts s act (send_in s bytes link)
  send-acts s act bytes Stands = kept-acts s act _ refl refl refl refl refl
  send-acts s act bytes (Lost why) = kept-acts s act _ refl refl refl refl refl
  send-acts s act bytes Absent = kept-acts s act _ refl refl refl refl refl

  send_as-acts : (s : State C) (act : Act) (bytes : List ℕ) (k : Kind) → Acts s act (send_as s bytes k)
  send_as-acts s act bytes kind.Stream = send-acts s act bytes (link_of s.phase)
  send_as-acts s act bytes kind.Message = kept-acts s act _ refl refl refl refl refl

  recv-acts : (s : State C) (act : Act) (room : ℕ) (link : Link) → Acts s act (recv_in s room link)
  recv-acts s act room Stands = kept-acts s act _ refl refl refl refl refl
  recv-acts s act room (Lost why) = kept-acts s act _ refl refl refl refl refl
  recv-acts s act room Absent = kept-acts s act _ refl refl refl refl refl

  recv_as-acts : (s : State C) (act : Act) (room : ℕ) (k : Kind) → Acts s act (recv_as s room k)
  recv_as-acts s act room kind.Stream = recv-acts s act room (link_of s.phase)
  recv_as-acts s act room kind.Message = kept-acts s act _ refl refl refl refl refl

  send_message-acts : (s : State C) (act : Act) (ttl : Option ℕ) (order : Bool) (bytes : List ℕ) (link : Link)
      → Acts s act (send_message_in s ttl order bytes link)
  send_message-acts s act ttl order bytes Stands = kept-acts s act _ refl refl refl refl refl
  send_message-acts s act ttl order bytes (Lost why) = kept-acts s act _ refl refl refl refl refl
  send_message-acts s act ttl order bytes Absent = kept-acts s act _ refl refl refl refl refl

  send_message_as-acts : (s : State C) (act : Act) (ttl : Option ℕ) (order : Bool) (bytes : List ℕ) (k : Kind)
      → Acts s act (send_message_as s ttl order bytes k)
  send_message_as-acts s act ttl order bytes kind.Stream = kept-acts s act _ refl refl refl refl refl
  send_message_as-acts s act ttl order bytes kind.Message = send_message-acts s act ttl order bytes (link_of s.phase)

  recv_message-acts : (s : State C) (act : Act) (room : ℕ) (link : Link) → Acts s act (recv_message_in s room link)
  recv_message-acts s act room Stands = kept-acts s act _ refl refl refl refl refl
  recv_message-acts s act room (Lost why) = kept-acts s act _ refl refl refl refl refl
  recv_message-acts s act room Absent = kept-acts s act _ refl refl refl refl refl

  recv_message_as-acts : (s : State C) (act : Act) (room : ℕ) (k : Kind) → Acts s act (recv_message_as s room k)
  recv_message_as-acts s act room kind.Stream = kept-acts s act _ refl refl refl refl refl
  recv_message_as-acts s act room kind.Message = recv_message-acts s act room (link_of s.phase)

  repeats-acts : (s : State C) (act : Act) (p next : Phase) (began again : ℕ) (emission : Emission) → s.phase ≡ p → is_closed p ≡ false
      → TurnsTo s act p next → Acts s act (repeats s began again next emission)
  repeats-acts s act p next began again emission is stays turns =
      repeats-show s began again next emission (Acts s act) (record {
        fails = turned-acts s act _ p (phase.Failed failure.TimedOut) is (ended-turn s act p _ (λ closed. absurd (cc)) refl tt) refl refl refl refl (λ listening. absurd (cc));
        again = turned-acts s act _ p next is turns refl refl refl refl (λ listening. absurd (cc));
        waits = kept-acts s act _ refl refl refl refl refl;
      })

  -- ---- handshakes

  told-acts : (s : State C) (from : Addr) (raw : List ℕ) (o : Outcome C) (p next : Phase) → s.phase ≡ p → is_closed p ≡ false
      → o.after.own ≡ s.own → o.after.phase ≡ next → waiting_at next ≡ [] → FitsPhase next o.after.origin o.after.peer
      → is_listening o.reply ≡ false → (FitsPhase p s.origin s.peer → KeepsPeer s o.after ⊎ IsToldOf s (Arrive from raw) o.after)
      → Acts s (Arrive from raw) o
  told-acts s from raw o p next is stays own phase none fits quiet peer = record {
    own = own;
    closed = λ closed. let differs = sym (ap is_closed is) ∙ closed in absurd (cc);
    waits = λ id waits.
        absurd (none-waits id (subst (λ (ids : List ℕ). Contains ids id) (ap waiting_at phase ∙ none) waits));
    listens = λ listening. absurd (cc);
    fits = λ _. rw phase fits;
    peer = λ before. peer (rw is at before);
  }

  told-of : (s t : State C) (from : Addr) (raw : List ℕ) (stamp dest : ℕ) (shake : Shake) → read raw ≡ Ok (Handshake stamp dest shake)
      → s.origin ≡ origin.Nobody → t.peer.addr ≡ from → t.peer.id ≡ shake.id → IsToldOf s (Arrive from raw) t
  told-of s t from raw stamp dest shake reads none addr id = record {
    from = from;
    raw = raw;
    shake = shake;
    arrives = refl;
    reads = ap handshake_in reads;
    none_before = none;
    addr = addr;
    id = id;
  }

  -- a meeting socket that adopts its first peer
  adopts-told : (s : State C) (from : Addr) (raw : List ℕ) (m : Meeting) (again stamp dest : ℕ) (shake : Shake) (peer : Peer)
      (counters : Counters) → read raw ≡ Ok (Handshake stamp dest shake) → SeesAsMeeting m dest shake from (meet.Adopted peer)
      → IsAdopted m.adopted s.origin s.peer
      → IsToldOf s (Arrive from raw) (record s {
        phase = phase.Meeting (record m { adopted = Some peer }) again;
        peer = peer;
        origin = origin.Rendezvous;
        counters = counters;
      })
  adopts-told s from raw m again stamp dest shake _ counters reads (SeesFirst sender fits asks none) before =
      told-of s _ from raw stamp dest shake reads (subst (λ (a : Option Peer). IsAdopted a s.origin s.peer) none before) refl refl

  shakes-acts : (s : State C) (from : Addr) (raw : List ℕ) (next : Phase) (peer : Peer) (from_whom : Origin) (answer : Heard)
      (emissions : List Emission) → Shakes s from (read raw) next peer from_whom answer emissions
      → Acts s (Arrive from raw) (on_control (record s { phase = next; peer = peer; origin = from_whom }) answer emissions)
  shakes-acts s from raw _ _ _ _ _ (arrives.GivesCookie b stamp shake reply is reads asks named judges) =
      kept-acts s (Arrive from raw) _ refl refl refl refl refl
  shakes-acts s from raw _ _ _ _ _ (arrives.Promises b stamp shake is reads asks named judges) =
      turned-acts s (Arrive from raw) _ (phase.Listening b) _ is
      (record { closed = λ closed. closed; waits = λ id waits. inl waits; fits = λ fits. fits })
      refl refl refl refl (λ listening. absurd (cc))
  shakes-acts s from raw _ _ _ _ _ (arrives.Refuses b stamp shake reply is reads asks named judges) =
      kept-acts s (Arrive from raw) _ refl refl refl refl refl
  shakes-acts s from raw _ _ _ _ _ (arrives.TakesCookie c again stamp dest shake is reads sees) =
      turned-acts s (Arrive from raw) _ (phase.Connecting c again) _ is
      (record { closed = λ closed. closed; waits = λ id waits. inl waits; fits = λ fits. fits })
      refl refl refl refl (λ listening. absurd (cc))
  shakes-acts s from raw _ _ _ _ _ (arrives.IsRefused c again stamp dest shake is reads sees) =
      turned-acts s (Arrive from raw) _ (phase.Connecting c again) _ is
      (ended-turn s (Arrive from raw) (phase.Connecting c again) (phase.Failed failure.Rejected) (λ closed. closed) refl tt)
      refl refl refl refl (λ listening. absurd (cc))
  shakes-acts s from raw _ _ _ _ _ (arrives.Adopts m again stamp dest shake peer is reads sees) =
      told-acts s from raw _ (phase.Meeting m again) _ is refl refl refl refl (refl, refl) refl
      (λ before. inr (adopts-told s from raw m again stamp dest shake peer _ reads
      (subst (SeesAsMeeting m dest shake from) sees (meet_saw-sees m dest shake from)) before))
  shakes-acts s from raw _ _ _ _ _ (arrives.AnswersAdopted m again stamp dest shake is reads sees) =
      kept-acts s (Arrive from raw) _ refl refl refl refl refl

module _ {C : Type 0} (w : Ways C) where
  -- ---- handshakes that connect

  offer-told : (s : State C) (from : Addr) (raw : List ℕ) (c : Connecting) (stamp dest : ℕ) (shake : Shake) (peer : Peer)
      (counters : Counters) → read raw ≡ Ok (Handshake stamp dest shake) → SeesAsClient c dest shake from (client.Connected peer)
      → s.origin ≡ origin.Nobody
      → IsToldOf s (Arrive from raw) (record (connected w s peer origin.Listener) { counters = counters })
  offer-told s from raw c stamp dest shake _ counters reads (SeesOffer sender own asks fits) none =
      told-of s _ from raw stamp dest shake reads none refl refl

  answer-told : (s : State C) (from : Addr) (raw : List ℕ) (m : Meeting) (stamp dest : ℕ) (shake : Shake) (peer : Peer)
      (counters : Counters) → read raw ≡ Ok (Handshake stamp dest shake) → SeesAsMeeting m dest shake from (meet.Connected peer)
      → IsAdopted m.adopted s.origin s.peer
      → KeepsPeer s (record (connected w s peer origin.Rendezvous) { counters = counters })
      ⊎ IsToldOf s (Arrive from raw) (record (connected w s peer origin.Rendezvous) { counters = counters })
  answer-told s from raw m stamp dest shake _ counters reads (SeesAnswer sender fits asks own none) before =
      inr (told-of s _ from raw stamp dest shake reads (subst (λ (a : Option Peer). IsAdopted a s.origin s.peer) none before) refl refl)
  answer-told s from raw m stamp dest shake _ counters reads (SeesPeer peer sender fits asks own adopts same) before =
      let has = subst (λ (a : Option Peer). IsAdopted a s.origin s.peer) adopts before in
      inl (record { peer = sym has.1; origin = sym has.0 })

  links-acts : (s : State C) (from : Addr) (raw : List ℕ) (peer : Peer) (from_whom : Origin) (emissions : List Emission)
      → Links w s from (read raw) peer from_whom emissions
      → Acts s (Arrive from raw) (on_control (connected w s peer from_whom) heard.Connected emissions)
  links-acts s from raw _ _ _ (arrives.ByListener c again stamp dest shake peer is reads sees) =
      told-acts s from raw _ (phase.Connecting c again) phase.Connected is refl refl refl refl tt refl
      (λ before. inr (offer-told s from raw c stamp dest shake peer _ reads
      (subst (SeesAsClient c dest shake from) sees (client_saw-sees c dest shake from)) before))
  links-acts s from raw _ _ _ (arrives.ByMeeting m again stamp dest shake peer is reads sees) =
      told-acts s from raw _ (phase.Meeting m again) phase.Connected is refl refl refl refl tt refl
      (λ before. answer-told s from raw m stamp dest shake peer _ reads
      (subst (SeesAsMeeting m dest shake from) sees (meet_saw-sees m dest shake from)) before)

  -- ---- acts

  arrive-acts : (s : State C) (from : Addr) (raw : List ℕ) → Acts s (Arrive from raw) (on_read w s from (read raw))
  arrive-acts s from raw = arrival-shows w s from (Acts s (Arrive from raw)) (read raw) (record {
    passed = λ counters answer differs. kept-acts s (Arrive from raw) _ refl refl refl refl refl;
    noticed = λ counters answer differs connected. kept-acts s (Arrive from raw) _ refl refl refl refl refl;
    brought = λ number flags stamp bytes connected sender is. kept-acts s (Arrive from raw) _ refl refl refl refl refl;
    dropped = λ message stamp first last range connected sender is messages taken.
        kept-acts s (Arrive from raw) _ refl refl refl refl refl;
    acknowledged = λ number stamp body offset connected sender is acks.
        kept-acts s (Arrive from raw) _ refl refl refl refl refl;
    reported = λ stamp ranges connected sender is. kept-acts s (Arrive from raw) _ refl refl refl refl refl;
    confirmed = λ number ack connected found. kept-acts s (Arrive from raw) _ refl refl refl refl refl;
    ended = λ connected.
        turned-acts s (Arrive from raw) _ phase.Connected (phase.Broken cause.PeerShutdown) connected
        (ended-turn s (Arrive from raw) phase.Connected (phase.Broken cause.PeerShutdown) (λ closed. closed) refl tt)
        refl refl refl refl (λ listening. absurd (cc));
    again = λ stamp dest shake answer connected sender is same answers. kept-acts s (Arrive from raw) _ refl refl refl refl refl;
    shaken = λ next peer from_whom answer emissions placed drops unsettled shakes.
        shakes-acts s from raw next peer from_whom answer emissions shakes;
    linked = λ peer from_whom emissions unsettled links. links-acts s from raw peer from_whom emissions links;
  })

  pack-acts : (s : State C) (link : Link) → Acts s Pack (pack_in w s link)
  pack-acts s Stands = kept-acts s Pack _ refl refl refl refl refl
  pack-acts s (Lost why) = kept-acts s Pack _ refl refl refl refl refl
  pack-acts s Absent = kept-acts s Pack _ refl refl refl refl refl

  exp-acts : (s : State C) (what : ExpOutcome) (emissions : List Emission) → s.phase ≡ phase.Connected
      → Acts s Tick (record { after = after_exp w (after_reports s) what; reply = DidTick; emissions = emissions })
  exp-acts s exp.Breaks emissions connected =
      turned-acts s Tick _ phase.Connected (phase.Broken cause.Expired) connected
      (ended-turn s Tick phase.Connected (phase.Broken cause.Expired) (λ closed. closed) refl tt)
      refl refl refl refl (λ listening. absurd (cc))
  exp-acts s exp.NotDue emissions connected = kept-acts s Tick _ refl refl refl refl refl
  exp-acts s exp.LosesAll emissions connected = kept-acts s Tick _ refl refl refl refl refl
  exp-acts s exp.KeepsAlive emissions connected = kept-acts s Tick _ refl refl refl refl refl

  tick-acts : (s : State C) (p : Phase) → s.phase ≡ p → Acts s Tick (tick_in w s p)
  tick-acts s phase.Connected is = exp-acts s (exp_outcome s) _ is
  tick-acts s (phase.Connecting c again) is =
      repeats-acts s Tick (phase.Connecting c again) _ c.caller.began again _ is refl
      (record { closed = λ closed. closed; waits = λ id waits. inl waits; fits = λ fits. fits })
  tick-acts s (phase.Meeting m again) is =
      repeats-acts s Tick (phase.Meeting m again) _ m.caller.began again _ is refl
      (record { closed = λ closed. closed; waits = λ id waits. inl waits; fits = λ fits. fits })
  tick-acts s phase.Closing is =
      turned-acts s Tick _ phase.Closing phase.Closed is
      (ended-turn s Tick phase.Closing phase.Closed (λ closed. refl) refl tt) refl refl refl refl (λ listening. absurd (cc))
  tick-acts s _ is = kept-acts s Tick _ refl refl refl refl refl

  on_act-acts : (s : State C) (act : Act) → Acts s act (on_act w s act)
  on_act-acts s (Listen most secret) =
      turned-acts s (Listen most secret) _ s.phase _ refl
      (begun-turn s (Listen most secret) (is_backlog most) s.phase _
      (opened-turn s (Listen most secret) (connections.listens s most secret) refl (λ none. none)))
      refl refl refl refl (λ listening. (most, secret, refl))
  on_act-acts s (Connect to) =
      phase-acts s (Connect to) _ _ refl
      (begun-turn s (Connect to) (has_port to) s.phase _ (opened-turn s (Connect to) (connections.asks s to) refl (λ none. none)))
  on_act-acts s (Meet to) =
      phase-acts s (Meet to) _ _ refl
      (begun-turn s (Meet to) (has_port to) s.phase _ (opened-turn s (Meet to) (connections.meets s to) refl (λ none. none)))
  on_act-acts s Accept = phase-acts s Accept _ _ refl (accept-turn s s.phase)
  on_act-acts s (Offer id) = phase-acts s (Offer id) _ _ refl (offer-turn s id s.phase)
  on_act-acts s Withdraw = phase-acts s Withdraw _ _ refl (withdraw-turn s s.phase)
  on_act-acts s (Send bytes) = send_as-acts s (Send bytes) bytes s.kind
  on_act-acts s (Recv room) = recv_as-acts s (Recv room) room s.kind
  on_act-acts s (SendMessage ttl order bytes) = send_message_as-acts s (SendMessage ttl order bytes) ttl order bytes s.kind
  on_act-acts s (RecvMessage room) = recv_message_as-acts s (RecvMessage room) room s.kind
  on_act-acts s Pack = pack-acts s (link_of s.phase)
  on_act-acts s Tick = tick-acts s s.phase refl
  on_act-acts s Close = phase-acts s Close _ _ refl (close-turn s s.phase)
  on_act-acts s PortDown = phase-acts s PortDown _ _ refl (port-turn s s.phase)
  on_act-acts s (Arrive from raw) = arrive-acts s from raw
  on_act-acts s _ = kept-acts s _ _ refl refl refl refl refl

  -- so it is of an event, whose moment is no matter
  pub step-acts : (s : State C) (now : ℕ) (act : Act) → Acts (at_moment s now) act (step w s (event now act))
  unfolding step
  step-acts s now act = on_act-acts (at_moment s now) act
