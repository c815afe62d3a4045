-- What a socket hears of its peer, handshakes aside: where each such arrival shows something, so does whatever the
-- socket placed, dropped or counts as acknowledged.
use Rattle.std.proofs.Common.{◌≡◌, ℕ, true, false, List, [], ◌∷◌, ◌++◌, Ok, refl, ap, ◌∙◌, sym, subst, inl, inr, ◌⊎◌}
use Rattle.std.specs.Prelude.{Result, ◌==◌, if◌then◌else◌}
use Rattle.std.specs.List.{Contains}
use Rattle.std.proofs.lemmas.Bool.{and_parts, eqb-true}
use Rattle.std.proofs.lemmas.List.Elements.{Contains-append_cases}
use Rattle.udt_model.specs.declared.addresses.Addr.{Addr}
use Rattle.udt_model.specs.declared.answers.Heard.{Heard}
use Rattle.udt_model.specs.declared.answers.Heard.TheVariants as heard
use Rattle.udt_model.specs.declared.answers.Origin.{Origin}
use Rattle.udt_model.specs.declared.answers.Peer.{Peer}
use Rattle.udt_model.specs.declared.packets.AckBody.{AckBody}
use Rattle.udt_model.specs.declared.packets.Malformed.{Malformed}
use Rattle.udt_model.specs.Addresses.{same_addr}
use Rattle.udt_model.specs.Arrivals.{heard_now, is_own, on_own, on_connected, on_read}
use Rattle.udt_model.specs.Counted.{count_foreign}
use Rattle.udt_model.specs.Events.{Act, Arrive, Event, Reply, DidHear, answered, at_moment}
use Rattle.udt_model.specs.History.{Item, after_items, AreLegal, placed_by, dropped_by, offset_of_packet, offsets_of_request, placed_from, dropped_from}
use Rattle.udt_model.specs.Honest.{WasEmitted, IsHonestAct, AreHonest}
use Rattle.udt_model.specs.Phases as phase
use Rattle.udt_model.specs.Phases.{Phase}
use Rattle.udt_model.specs.Rate.{Ways}
use Rattle.udt_model.specs.Records.{EndpointRecord}
use Rattle.udt_model.specs.State.{State, Emission}
use Rattle.udt_model.specs.Step.{on_act, step}
use Rattle.udt_model.specs.Wire.{Packet, Block, Ack, DropAsk, is_handshake, destination, read}
use Rattle.udt_model.proofs.AddressLemmas.{same_addr-is}
use Rattle.udt_model.proofs.ArrivalLemmas.{Shakes, GivesCookie, Promises, Refuses, TakesCookie, IsRefused, Adopts, AnswersAdopted, arrival-shows, packet-shows}
use Rattle.udt_model.proofs.PhaseLemmas.{is_settled}
use Rattle.udt_model.proofs.StepLemmas.{step-keeps}
use Rattle.udt_laws.specs.Laws.{AcceptsAck}
use Rattle.udt_laws.proofs.acked_has_arrived.AckedWasNamed.{AcksAct, AllAck, items-acked}
use Rattle.udt_laws.proofs.delivered_is_carried.DeliversPlacedBlocks.{MeetsAct, AllMeet}
use Rattle.udt_laws.proofs.laid_messages.KeepsLayout.{MeetsLayout, AllMeetLayout}
use Rattle.udt_laws.proofs.laid_messages.Layout.{LaidMessage}
use Rattle.udt_model.proofs.Members.{contained-cases, none-contained}

module _ {C : Type 0} where
  -- an arrival from the peer for this socket that is no handshake shows this
  abbrev pub HearsSo : Type 0 → State C → Act → Type 0
  HearsSo X s (Arrive from bytes) =
      (packet : Packet) → from ≡ s.peer.addr → read bytes ≡ Ok packet → is_handshake packet ≡ false
      → destination packet ≡ s.own → X
  HearsSo X s act = Unit {0}

  -- so no block is placed and nothing is acknowledged without it
  hears-meets : (X : Type 0) (s : State C) (act : Act) → HearsSo X s act → MeetsAct (λ offset payload. X) s act
  hears-meets X s (Arrive from bytes) hears =
      λ number flags stamp payload offset sender reads found. hears (Block number flags stamp s.own payload) sender
      reads refl refl
  hears-meets X s _ hears = tt

  hears-acks : (X : Type 0) (Q : ℕ → Type 0) (s : State C) (act : Act) → (X → (n : ℕ) → Q n) → HearsSo X s act
      → AcksAct Q s act
  hears-acks X Q s (Arrive from bytes) so hears =
      λ number stamp body offset sender reads at. so (hears (Ack number stamp s.own body) sender reads refl refl) offset
  hears-acks X Q s _ so hears = tt

  -- nor is a message laid
  hears-layout : (payload : ℕ) (messages : List LaidMessage) (s : State C) (act : Act) → HearsSo ⊥ s act
      → MeetsLayout payload messages s act
  hears-layout payload messages s (Arrive from bytes) hears = record {
    places = λ number flags stamp bytes' offset sender reads found. absurd
        (hears (Block number flags stamp s.own bytes') sender reads refl refl);
    drops = λ message stamp first last range sender reads taken. absurd
        (hears (DropAsk message stamp s.own first last) sender reads refl refl);
  }
  hears-layout payload messages s _ hears = tt

  -- a packet is from the peer, for this socket
  record IsFor (s : State C) (from : Addr) (packet : Packet) : Type 0 where
    sender : from ≡ s.peer.addr
    dest : destination packet ≡ s.own

module _ {C : Type 0} (w : Ways C) where
  -- all arrivals of these items show this
  abbrev pub AllHear : Type 0 → State C → List Item → Type 0
  AllHear X s [] = Unit {0}
  AllHear X s (item ∷ items) = HearsSo X s item.event.act × AllHear X (step w s item.event).after items

  pub all-meet : (X : Type 0) (s : State C) (items : List Item) → AllHear X s items
      → AllMeet w (λ offset payload. X) s items
  all-meet X s [] hear = tt
  all-meet X s (item ∷ items) hear = (
    hears-meets X s item.event.act hear.0,
    all-meet X (step w s item.event).after
        items hear.1,
  )

  pub all-layout : (payload : ℕ) (messages : List LaidMessage) (s : State C) (items : List Item) → AllHear ⊥ s items
      → AllMeetLayout payload messages w s items
  all-layout payload messages s [] hear = tt
  all-layout payload messages s (item ∷ items) hear = (
    hears-layout payload messages s item.event.act hear.0,
    all-layout payload messages (step w s item.event).after
        items hear.1,
  )

  all-ack : (X : Type 0) (Q : ℕ → Type 0) (s : State C) (items : List Item) → (X → (n : ℕ) → Q n) → AllHear X s items
      → AllAck w Q s items
  all-ack X Q s [] so hear = tt
  all-ack X Q s (item ∷ items) so hear = (
    hears-acks X Q s item.event.act so hear.0,
    all-ack X Q
        (step w s item.event).after items so hear.1,
  )

  -- either nothing was acknowledged, or some arrival shows it
  pub acked-shows : (X : Type 0) (s : State C) (items : List Item) → AllHear X s items
      → ((after_items w s items).sending.blocks.first ≡ s.sending.blocks.first) ⊎ X
  acked-shows X s items hear =
      items-acked w (λ n. (n ≡ s.sending.blocks.first) ⊎ X) s items (all-ack X _ s items (λ x n. inr x) hear) (inl refl)

  -- ---- what was placed, and what was dropped

  -- a block that is placed is from the peer, for this socket
  placed-for : (s : State C) (from : Addr) (raw : List ℕ) (number : ℕ) (packet : Packet) → read raw ≡ Ok packet
      → (on_read w s from (read raw)).reply ≡ DidHear heard.Placed → IsFor s from packet
  placed-for s from raw number packet reads placed =
      arrival-shows w s from (λ outcome. outcome.reply ≡ DidHear heard.Placed → IsFor s from packet) (read raw)
      (record {
        passed = λ counters answer differs same. absurd (differs cc);
        noticed = λ counters answer differs connected same. absurd (differs cc);
        brought = λ number flags stamp bytes connected sender is same.
            let packet_is : packet ≡ Block number flags stamp s.own bytes = cc in
            record { sender = sender; dest = ap destination packet_is };
        dropped = λ message stamp first last range connected sender is messages taken same. absurd (cc);
        acknowledged = λ number stamp body offset connected sender is acks same. absurd (cc);
        reported = λ stamp ranges connected sender is same. absurd (cc);
        confirmed = λ number ack connected found same. absurd (cc);
        ended = λ connected same. absurd (cc);
        again = λ stamp dest shake answer connected sender is own answers same. absurd (cc);
        shaken = λ next peer from_whom answer emissions differs drops unsettled is same. absurd (differs cc);
        linked = λ peer from_whom emissions unsettled is same. absurd (cc);
      }) placed

  -- what a connected socket doesn't take for foreign is from the peer, for this socket
  connected-for : (s : State C) (from : Addr) (packet : Packet) (answer : Heard) → is_handshake packet ≡ false
      → (answer ≡ heard.Foreign → ⊥) → (on_connected w s from packet).reply ≡ DidHear answer → IsFor s from packet
  connected-for s from packet answer plain differs same =
      elim (is_own s from packet) as (λ own. is_own s from packet ≡ own → (
      if own
      then on_own w (heard_now s) packet
      else answered (record s { counters = count_foreign s.counters }) (DidHear heard.Foreign)).reply
      ≡ DidHear answer → IsFor s from packet) [
        | true ↦ λ own is.
            let parts = and_parts (same_addr from s.peer.addr) _ own in
            let dest : (destination packet == s.own) ≡ true = rw plain at parts.1 in
            record { sender = same_addr-is from s.peer.addr parts.0; dest = eqb-true (destination packet) s.own dest }
        | false ↦ λ own is. absurd (differs cc)
      ] refl same

  -- and so is a message drop request that is taken
  dropped-for : (s : State C) (from : Addr) (message stamp dest first last : ℕ)
      → (on_read w s from (Ok (DropAsk message stamp dest first last))).reply ≡ DidHear heard.Dropped
      → IsFor s from (DropAsk message stamp dest first last)
  dropped-for s from message stamp dest first last dropped =
      let packet = DropAsk message stamp dest first last in
      packet-shows w s from (Ok packet) (λ outcome. outcome.reply ≡ DidHear heard.Dropped → IsFor s from packet)
      (record {
        stale = λ same. absurd (cc);
        shaken = λ next peer from_whom answer emissions placed drops unsettled shakes same. absurd (drops cc);
        linked = λ peer from_whom emissions unsettled links same. absurd (cc);
      }) packet s.phase refl refl (λ connected. connected-for s from packet heard.Dropped refl (λ same. cc)) dropped

  -- no handshake is answered as an ACK
  shakes-other : (s : State C) (from : Addr) (result : Result Packet Malformed) (next : Phase) (peer : Peer)
      (from_whom : Origin) (answer : Heard) (emissions : List Emission)
      → Shakes s from result next peer from_whom answer emissions → answer ≡ heard.Ack → ⊥
  shakes-other s from result _ _ _ _ _ (GivesCookie b stamp shake told is reads asks some judges) same = cc
  shakes-other s from result _ _ _ _ _ (Promises b stamp shake is reads asks some judges) same = cc
  shakes-other s from result _ _ _ _ _ (Refuses b stamp shake told is reads asks some judges) same = cc
  shakes-other s from result _ _ _ _ _ (TakesCookie c again stamp dest shake is reads sees) same = cc
  shakes-other s from result _ _ _ _ _ (IsRefused c again stamp dest shake is reads sees) same = cc
  shakes-other s from result _ _ _ _ _ (Adopts m again stamp dest shake peer is reads sees) same = cc
  shakes-other s from result _ _ _ _ _ (AnswersAdopted m again stamp dest shake is reads sees) same = cc

  -- an ACK that is accepted is from the peer, for this socket, which is connected
  record IsAccepted (s : State C) (from : Addr) (packet : Packet) : Type 0 where
    is_for : IsFor s from packet
    stands : s.phase ≡ phase.Connected

  accepted-for : (s : State C) (from : Addr) (number stamp dest : ℕ) (body : AckBody)
      → (on_read w s from (Ok (Ack number stamp dest body))).reply ≡ DidHear heard.Ack
      → IsAccepted s from (Ack number stamp dest body)
  accepted-for s from number stamp dest body accepted =
      let packet = Ack number stamp dest body in
      packet-shows w s from (Ok packet) (λ outcome. outcome.reply ≡ DidHear heard.Ack → IsAccepted s from packet)
      (record {
        stale = λ same. absurd (cc);
        shaken = λ next peer from_whom answer emissions placed drops unsettled shakes same. absurd
            (shakes-other s from (Ok packet) next peer from_whom answer emissions shakes cc);
        linked = λ peer from_whom emissions unsettled links same. absurd (cc);
      }) packet s.phase refl refl
      (λ connected same. record { is_for = connected-for s from packet heard.Ack refl (λ foreign. cc) same; stands = connected })
      accepted

  accepted-by_step : (s : State C) (event : Event) (from : Addr) (raw : List ℕ) (number stamp dest : ℕ) (body : AckBody)
      → event.act ≡ Arrive from raw → read raw ≡ Ok (Ack number stamp dest body)
      → (step w s event).reply ≡ DidHear heard.Ack → IsAccepted (at_moment s event.now) from (Ack number stamp dest body)
  unfolding step
  accepted-by_step s event from raw number stamp dest body arrives reads accepted =
      accepted-for (at_moment s event.now) from number stamp dest body
      (ap (λ (result : Result Packet Malformed). (on_read w (at_moment s event.now) from result).reply) (sym reads)
      ∙ (ap (λ (act : Act). (on_act w (at_moment s event.now) act).reply) (sym arrives) ∙ accepted))

  -- such an ACK was emitted, and came to the state to which the items before it lead
  pub record CameAck (net : List (EndpointRecord C)) (addr : Addr) (s : State C) (items : List Item) : Type 0 where
    pub front : List Item
    pub rest : List Item
    pub joined : items ≡ front ++ rest
    pub from : Addr
    pub bytes : List ℕ
    pub packet : Packet
    pub was : WasEmitted w net (after_items w s front) from addr bytes
    pub reads : read bytes ≡ Ok packet
    pub plain : is_handshake packet ≡ false
    pub sender : from ≡ (after_items w s front).peer.addr
    pub dest : destination packet ≡ (after_items w s front).own
    pub stands : (after_items w s front).phase ≡ phase.Connected

  module _ (net : List (EndpointRecord C)) (addr : Addr) where
    first-came : (s : State C) (first : Item) (items : List Item) → first.reply ≡ (step w s first.event).reply
        → IsHonestAct w net addr s first.event.act → AcceptsAck first → CameAck net addr s (first ∷ items)
    unfolding after_items
    first-came s first items legal honest accepts =
        let is = accepted-by_step s first.event accepts.from accepts.bytes accepts.number accepts.stamp accepts.dest
        accepts.body accepts.arrives accepts.reads (sym legal ∙ accepts.answers) in
        record {
          front = [];
          rest = first ∷ items;
          joined = refl;
          from = accepts.from;
          bytes = accepts.bytes;
          packet = Ack accepts.number accepts.stamp accepts.dest accepts.body;
          was = subst (IsHonestAct w net addr s) accepts.arrives honest;
          reads = accepts.reads;
          plain = refl;
          sender = is.is_for.sender;
          dest = is.is_for.dest;
          stands = is.stands;
        }

    pub ack-came : (s : State C) (items : List Item) (item : Item) → AreLegal w s items → AreHonest w net addr s items
        → Contains items item → AcceptsAck item → CameAck net addr s items
    unfolding AreLegal AreHonest after_items
    ack-came s [] item legal honest among accepts = absurd (none-contained item among)
    ack-came s (first ∷ items) item legal honest among accepts = elim (contained-cases first items item among) [
      | inl same ↦ first-came s first items legal.0 honest.0 (subst (λ (i : Item). AcceptsAck i) (sym same) accepts)
      | inr later ↦
          let came = ack-came (step w s first.event).after items item legal.2 honest.1 later accepts in
          record {
            front = first ∷ came.front;
            rest = came.rest;
            joined = ap (λ (l : List Item). first ∷ l) came.joined;
            from = came.from;
            bytes = came.bytes;
            packet = came.packet;
            was = came.was;
            reads = came.reads;
            plain = came.plain;
            sender = came.sender;
            dest = came.dest;
            stands = came.stands;
          }
    ]

  module _ (X : Type 0) where
    placed-by_reply : (s : State C) (now : ℕ) (from : Addr) (raw : List ℕ) (result : Result Packet Malformed)
        (offset : ℕ) → read raw ≡ result
        → (on_read w (at_moment s now) from (read raw)).reply ≡ DidHear heard.Placed → HearsSo X s (Arrive from raw)
        → Contains (offset_of_packet s result) offset → X
    placed-by_reply s now from raw (Ok (Block number flags stamp dest bytes)) offset is placed hears among =
        let packet = Block number flags stamp dest bytes in
        let so = placed-for (at_moment s now) from raw number packet is placed in
        hears packet so.sender is refl so.dest
    placed-by_reply s now from raw _ offset is placed hears among = absurd (none-contained offset among)

    placed-by_act : (s : State C) (now : ℕ) (act : Act) (reply : Reply) (offset : ℕ)
        → reply ≡ (on_act w (at_moment s now) act).reply
        → HearsSo X s act → Contains (placed_by s act reply) offset → X
    placed-by_act s now (Arrive from raw) (DidHear heard.Placed) offset is hears among =
        placed-by_reply s now from raw (read raw) offset refl (sym is) hears among
    placed-by_act s now _ _ offset is hears among = absurd (none-contained offset among)

    dropped-by_reply : (s : State C) (now : ℕ) (from : Addr) (raw : List ℕ) (result : Result Packet Malformed)
        (offset : ℕ) → read raw ≡ result
        → (on_read w (at_moment s now) from result).reply ≡ DidHear heard.Dropped → HearsSo X s (Arrive from raw)
        → Contains (offsets_of_request s result) offset → X
    dropped-by_reply s now from raw (Ok (DropAsk message stamp dest first last)) offset is dropped hears among =
        let so = dropped-for (at_moment s now) from message stamp dest first last dropped in
        hears (DropAsk message stamp dest first last) so.sender is refl so.dest
    dropped-by_reply s now from raw _ offset is dropped hears among = absurd (none-contained offset among)

    dropped-by_act : (s : State C) (now : ℕ) (act : Act) (reply : Reply) (offset : ℕ)
        → reply ≡ (on_act w (at_moment s now) act).reply
        → HearsSo X s act → Contains (dropped_by s act reply) offset → X
    dropped-by_act s now (Arrive from raw) (DidHear heard.Dropped) offset is hears among =
        dropped-by_reply s now from raw (read raw) offset refl (sym is) hears among
    dropped-by_act s now _ _ offset is hears among = absurd (none-contained offset among)

    placed-by_step : (s : State C) (event : Event) (reply : Reply) (offset : ℕ) → reply ≡ (step w s event).reply
        → HearsSo X s event.act
        → Contains (placed_by s event.act reply) offset → X
    unfolding step
    placed-by_step s event reply offset is hears among = placed-by_act s event.now event.act reply offset is hears among

    dropped-by_step : (s : State C) (event : Event) (reply : Reply) (offset : ℕ) → reply ≡ (step w s event).reply
        → HearsSo X s event.act
        → Contains (dropped_by s event.act reply) offset → X
    unfolding step
    dropped-by_step s event reply offset is hears among = dropped-by_act s event.now event.act reply offset is hears
        among

    -- so each offset that items place, or drop, comes with an arrival that shows it
    pub placed-shows : (s : State C) (items : List Item) (offset : ℕ) → AreLegal w s items → AllHear X s items
        → Contains (placed_from w s items) offset → X
    unfolding AreLegal placed_from
    placed-shows s [] offset legal hear among = absurd (none-contained offset among)
    placed-shows s (item ∷ items) offset legal hear among =
        elim (Contains-append_cases (placed_by s item.event.act item.reply) _ offset among) [
          | inl here ↦ placed-by_step s item.event item.reply offset legal.0 hear.0 here
          | inr later ↦ placed-shows (step w s item.event).after items offset legal.2 hear.1 later
        ]

    pub dropped-shows : (s : State C) (items : List Item) (offset : ℕ) → AreLegal w s items → AllHear X s items
        → Contains (dropped_from w s items) offset → X
    unfolding AreLegal dropped_from
    dropped-shows s [] offset legal hear among = absurd (none-contained offset among)
    dropped-shows s (item ∷ items) offset legal hear among =
        elim (Contains-append_cases (dropped_by s item.event.act item.reply) _ offset among) [
          | inl here ↦ dropped-by_step s item.event item.reply offset legal.0 hear.0 here
          | inr later ↦ dropped-shows (step w s item.event).after items offset legal.2 hear.1 later
        ]

    -- ---- where records are honest

    module _ (net : List (EndpointRecord C)) (addr : Addr) (own : ℕ) (from : Addr) where
      -- what is emitted at an address for an ID here, and is no handshake, shows this
      abbrev pub ShowsSo : Type 0
      ShowsSo =
          (s : State C) (sender : Addr) (bytes : List ℕ) (packet : Packet) → sender ≡ from
          → WasEmitted w net s sender addr bytes
          → read bytes ≡ Ok packet → is_handshake packet ≡ false → destination packet ≡ own → X

      act-hears : (s : State C) (act : Act) → ShowsSo → s.own ≡ own → s.peer.addr ≡ from
          → IsHonestAct w net addr s act → HearsSo X s act
      act-hears s (Arrive sender bytes) shows own_is addr_is was =
          λ packet from_is reads plain dest. shows s sender bytes packet (from_is ∙ addr_is) was reads plain
          (dest ∙ own_is)
      act-hears s _ shows own_is addr_is was = tt

      pub items-hear : (s : State C) (items : List Item) → ShowsSo → is_settled s.phase ≡ true → s.own ≡ own
          → s.peer.addr ≡ from
          → AreHonest w net addr s items → AllHear X s items
      unfolding AreHonest
      items-hear s [] shows settled own_is addr_is honest = tt
      items-hear s (item ∷ items) shows settled own_is addr_is honest =
          let same = step-keeps w s item.event settled in (
            act-hears s item.event.act shows own_is addr_is honest.0,
            items-hear (step w s item.event).after items shows (same.settled settled) (same.own ∙ own_is)
                (ap (λ (p : Peer). p.addr) same.peer ∙ addr_is) honest.1,
          )
