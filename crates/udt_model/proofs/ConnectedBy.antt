-- By which handshake a socket comes to be connected.
use Rattle.std.proofs.Common.{◌≡◌, ℕ, true, false, List, Ok, refl, ap, ◌∙◌, sym, subst, inl, inr, ◌⊎◌}
use Rattle.udt_model.specs.declared.addresses.Addr.{Addr}
use Rattle.udt_model.specs.declared.answers.Origin.{Origin}
use Rattle.udt_model.specs.declared.answers.Origin.TheVariants as origin
use Rattle.udt_model.specs.declared.answers.Peer.{Peer}
use Rattle.udt_model.specs.declared.handshakes.Asked.TheVariants as asks
use Rattle.udt_model.specs.declared.handshakes.ClientSaw.TheVariants as client
use Rattle.udt_model.specs.declared.handshakes.MeetSaw.TheVariants as meet
use Rattle.udt_model.specs.declared.packets.Config.{Config}
use Rattle.udt_model.specs.declared.packets.Shake.{Shake}
use Rattle.udt_model.specs.declared.sockets.Counters.{Counters}
use Rattle.udt_model.specs.Counted.{count_control}
use Rattle.udt_model.specs.Events.{Act, Arrive, Outcome, at_moment}
use Rattle.udt_model.specs.Handshakes.{Connecting, Meeting, asked}
use Rattle.udt_model.specs.History.{Item, after_items, AreLegal}
use Rattle.udt_model.specs.Opening.{connected, opened, opening, IsOpened}
use Rattle.udt_model.specs.Phases.{Phase, Backlog, has_place}
use Rattle.udt_model.specs.Phases as phase
use Rattle.udt_model.specs.Rate.{Ways}
use Rattle.udt_model.specs.Records.{Way, Opened, Paired, PairedAt, opened_by}
use Rattle.udt_model.specs.State.{State, Emission}
use Rattle.udt_model.specs.Step.{step}
use Rattle.udt_model.specs.Wire.{Handshake, read}
use Rattle.udt_model.proofs.ArrivalLemmas.{Links}
use Rattle.udt_model.proofs.ArrivalLemmas as arrives
use Rattle.udt_model.proofs.HandshakeLemmas.{SeesAsClient, SeesOffer, SeesAsMeeting, SeesAnswer, SeesPeer, client_saw-sees, meet_saw-sees}
use Rattle.udt_model.proofs.PeerLemmas.{standing_of, Adoption, KnowsPeer, KeepsPeer, IsIntroducedAt, IsKnown, config_by, start_by, has_peer, knows-speaks, way-known, step-known, items-keep_peer, peer-introduced}
use Rattle.udt_model.proofs.PhaseLemmas.{speaks}
use Rattle.udt_model.proofs.StepLemmas.{KeepsName, same_name, name_on, step-keeps_name, after_items-keeps_name}
use Rattle.udt_model.proofs.UnlinkedLemmas.{IsUnlinked}
use Rattle.udt_model.proofs.SettlingLemmas.{IsFresh, GoesOnAs, AreQuiet, goes_on, items-begin, opened-unlinked, opening-fresh, IsLinked, IsConnectedAt}
use Rattle.udt_model.proofs.ShakeLemmas.{known-after, last-keeps}

-- a handshake connects a socket: it comes from the peer's address, is for the own ID, and is an answer of the socket
-- that the state names as its peer. A client is connected by a listener's answer alone, which tells the peer's initial
-- sequence number too
pub record IsConnectedBy {C : Type 0} (s : State C) (act : Act) (t : State C) : Type 0 where
  pub from : Addr
  pub raw : List ℕ
  pub stamp : ℕ
  pub dest : ℕ
  pub shake : Shake
  pub arrives : act ≡ Arrive from raw
  pub reads : read raw ≡ Ok (Handshake stamp dest shake)
  pub addr : from ≡ t.peer.addr
  pub own : dest ≡ s.own
  pub id : shake.id ≡ t.peer.id
  pub answers : (asked shake.ask ≡ asks.Answers) ⊎ (asked shake.ask ≡ asks.Agrees)
  pub client : t.origin ≡ origin.Listener → (asked shake.ask ≡ asks.Answers) × (shake.isn ≡ t.peer.isn)

module _ {C : Type 0} (w : Ways C) where
  offer-connects : (s : State C) (from : Addr) (raw : List ℕ) (c : Connecting) (again stamp dest : ℕ) (shake : Shake)
      (peer : Peer)
      → read raw ≡ Ok (Handshake stamp dest shake) → SeesAsClient c dest shake from (client.Connected peer)
      → KnowsPeer (standing_of s) (phase.Connecting c again) → (counters : Counters)
      → IsConnectedBy s (Arrive from raw) (record (connected w s peer origin.Listener) { counters = counters })
  offer-connects s from raw c again stamp dest shake _ reads (SeesOffer sender own answers fits) knows counters =
      record {
        from = from;
        raw = raw;
        stamp = stamp;
        dest = dest;
        shake = shake;
        arrives = refl;
        reads = reads;
        addr = refl;
        own = own ∙ knows.1.own;
        id = refl;
        answers = inl answers;
        client = λ is. (answers, refl);
      }

  answer-connects : (s : State C) (from : Addr) (raw : List ℕ) (m : Meeting) (again stamp dest : ℕ) (shake : Shake)
      (peer : Peer)
      → read raw ≡ Ok (Handshake stamp dest shake) → SeesAsMeeting m dest shake from (meet.Connected peer)
      → KnowsPeer (standing_of s) (phase.Meeting m again) → (counters : Counters)
      → IsConnectedBy s (Arrive from raw) (record (connected w s peer origin.Rendezvous) { counters = counters })
  answer-connects s from raw m again stamp dest shake _ reads (SeesAnswer sender fits answers own none) knows counters =
      record {
        from = from;
        raw = raw;
        stamp = stamp;
        dest = dest;
        shake = shake;
        arrives = refl;
        reads = reads;
        addr = refl;
        own = own ∙ knows.0.own;
        id = refl;
        answers = inl answers;
        client = λ is. absurd (cc);
      }
  answer-connects s from raw m again stamp dest shake _ reads (SeesPeer peer sender fits answers own adopts same) knows
      counters =
      let has = subst (Adoption (standing_of s) m.caller.to) adopts knows.1 in
      record {
        from = from;
        raw = raw;
        stamp = stamp;
        dest = dest;
        shake = shake;
        arrives = refl;
        reads = reads;
        addr = sender ∙ sym has.addr;
        own = own ∙ knows.0.own;
        id = sym same;
        answers = answers;
        client = λ is. absurd (cc);
      }

  links-connect : (s : State C) (from : Addr) (raw : List ℕ) (peer : Peer) (from_whom : Origin)
      (emissions : List Emission)
      → KnowsPeer (standing_of s) s.phase → Links w s from (read raw) peer from_whom emissions → (counters : Counters)
      → IsConnectedBy s (Arrive from raw) (record (connected w s peer from_whom) { counters = counters })
  links-connect s from raw _ _ _ knows (arrives.ByListener c again stamp dest shake peer is reads sees) counters =
      offer-connects s from raw c again stamp dest shake peer reads
      (subst (SeesAsClient c dest shake from) sees (client_saw-sees c dest shake from))
      (subst (KnowsPeer (standing_of s)) is knows) counters
  links-connect s from raw _ _ _ knows (arrives.ByMeeting m again stamp dest shake peer is reads sees) counters =
      answer-connects s from raw m again stamp dest shake peer reads
      (subst (SeesAsMeeting m dest shake from) sees (meet_saw-sees m dest shake from))
      (subst (KnowsPeer (standing_of s)) is knows) counters

  linked-connects : (s : State C) (act : Act) (outcome : Outcome C) → KnowsPeer (standing_of s) s.phase
      → IsLinked w s act outcome
      → IsConnectedBy s act outcome.after
  linked-connects s act outcome knows linked =
      rw (linked.arrives, linked.outcome_is)
      (links-connect s linked.from linked.raw linked.peer linked.from_whom linked.emissions knows linked.links
      (count_control s.counters))

  -- a socket that was opened without a connection and is connected with one of some items: by whom, who told of the
  -- peer, and that the peer stays
  pub record IsMet (config : Config) (s : State C) (items : List Item) (at : IsConnectedAt w config 0 s items)
      : Type 0 where
    pub by : IsConnectedBy (at_moment (after_items w s at.front) at.item.event.now) at.item.event.act
        (step w (after_items w s at.front) at.item.event).after
    pub stays : KeepsPeer (step w (after_items w s at.front) at.item.event).after (after_items w s items)
    pub has : has_peer (after_items w s items).origin ≡ true
    pub introduced : IsIntroducedAt w s items

  module _ (own isn : ℕ) (config : Config) (now : ℕ) (s : State C) (in_range : IsOpened own isn config)
      (is : s ≡ opened w own isn config now) where
    pub opened-nobody : has_peer s.origin ≡ false
    unfolding opened
    opened-nobody = ap (λ (u : State C). has_peer u.origin) is

    -- so it is met by the peer that it has to the end
    pub opened-met : (items : List Item) (at : IsConnectedAt w config 0 s items) → IsMet config s items at
    opened-met items at =
        let t = after_items w s at.front in
        let way = Opened isn config now in
        let known = known-after w own way s is at.front in
        let after = (step-known w config 0 t at.item.event known).known in
        let next = (step w t at.item.event).after in
        let has = knows-speaks (standing_of next) next.phase after.knows (ap speaks at.fresh.connected) in
        let stays = last-keeps w own way s is at.front at.item at.rest items at.joined has in
        let last : has_peer (after_items w s items).origin ≡ true = ap has_peer stays.origin ∙ has in
        let begun = subst (IsKnown w config 0) (sym is) (way-known w own way) in
        record {
          by = linked-connects (at_moment t at.item.event.now) at.item.event.act (step w t at.item.event) known.knows
              at.linked;
          stays = stays;
          has = last;
          introduced = peer-introduced w config 0 s items begun opened-nobody last;
        }

-- ---- where a history begins

module _ {C : Type 0} (w : Ways C) where
  -- a history goes on from a state in which its socket is just connected, as if it began there, with the last peer
  pub record BeginsConnected (config : Config) (start : ℕ) (s : State C) (items : List Item) : Type 0 where
    pub first : State C
    pub rest : List Item
    pub fresh : IsFresh w config start first
    pub name : KeepsName s first
    pub peer : KeepsPeer first (after_items w s items)
    pub goes_on : GoesOnAs w s items first rest

  opened-begins : (own isn : ℕ) (config : Config) (now : ℕ) (s : State C) → s ≡ opened w own isn config now
      → (items : List Item) → IsConnectedAt w config 0 s items → BeginsConnected config 0 s items
  opened-begins own isn config now s is items at =
      let way = Opened isn config now in
      let t = after_items w s at.front in
      let next = (step w t at.item.event).after in
      let after = (step-known w config 0 t at.item.event (known-after w own way s is at.front)).known in
      let has = knows-speaks (standing_of next) next.phase after.knows (ap speaks at.fresh.connected) in
      record {
        first = next;
        rest = at.rest;
        fresh = at.fresh;
        name = name_on s t next (after_items-keeps_name w s at.front) (step-keeps_name w t at.item.event);
        peer = last-keeps w own way s is at.front at.item at.rest items at.joined has;
        goes_on = at.goes_on;
      }

  opening-begins : (own : ℕ) (config : Config) (peer : Peer) (now start : ℕ) (s : State C)
      → s ≡ opening w own config peer now start → (items : List Item) → AreLegal w s items
      → BeginsConnected config start s items
  unfolding opening
  opening-begins own config peer now start s is items legal =
      let known = subst (IsKnown w config start) (sym is) (way-known w own (PairedAt config peer now start)) in
      record {
        first = s;
        rest = items;
        fresh = subst (IsFresh w config start) (sym is) (opening-fresh w own config peer now start);
        name = same_name s;
        peer = items-keep_peer w config start s items known (ap (λ (u : State C). has_peer u.origin) is);
        goes_on = goes_on w s items legal;
      }

  -- however a socket was opened, it was never connected and its history tells nothing, or it goes on from a state in
  -- which it is just connected
  pub way-begins : (own : ℕ) (way : Way) (s : State C) → s ≡ opened_by w own way → (items : List Item)
      → AreLegal w s items
      → (IsUnlinked w (config_by w way) (start_by w way) (after_items w s items) × AreQuiet w s items)
      ⊎ BeginsConnected (config_by w way) (start_by w way) s items
  way-begins own (Opened isn config now) s is items legal =
      elim (items-begin w config 0 s items
      (subst (IsUnlinked w config 0) (sym is) (opened-unlinked w own isn config now)) legal) [
        | inl quiet ↦ inl quiet
        | inr at ↦ inr (opened-begins own isn config now s is items at)
      ]
  way-begins own (Paired config peer now) s is items legal = inr (opening-begins own config peer now 0 s is items legal)
  way-begins own (PairedAt config peer now start) s is items legal =
      inr (opening-begins own config peer now start s is items legal)
