-- Of two sockets that were made as a pair, fewer than 2^30 events or datagrams of the one can name no offset too far
-- from where the other stands.
use Rattle.std.proofs.Common.{◌≡◌, ℕ, ◌+◌, ◌^◌, ◌<◌, ◌≤◌, true, List, [], ◌∷◌, length, Ok, ap, ◌∙◌, sym, subst, inl, inr, arith}
use Rattle.std.specs.List.{Contains}
use Rattle.std.proofs.lemmas.List.Elements.{Contains-append_left, Contains-append_right, Contains-push, Contains-push_cases}
use Rattle.udt_model.specs.declared.packets.Kind.TheVariants.{Stream}
use Rattle.udt_model.specs.declared.addresses.Addr.{Addr}
use Rattle.udt_model.specs.declared.answers.Peer.{Peer}
use Rattle.udt_model.specs.declared.packets.Flags.{Flags}
use Rattle.udt_model.specs.Wire.{Block, read}
use Rattle.udt_model.specs.Rate.{Ways}
use Rattle.udt_model.specs.ReceiveHalf.{Receiving}
use Rattle.udt_model.specs.State.{State, Datagram, Emission}
use Rattle.udt_model.specs.Step.{step}
use Rattle.udt_model.specs.Events.{Act, Arrive, Event}
use Rattle.udt_model.specs.History.{Item, after_items, state_of, start_of, accepted, delivered}
use Rattle.udt_model.specs.Records.{Enrolled, IsSocket, ArePaired}
use Rattle.udt_model.specs.Emissions.{IsPrefix, emitted, arrived_by_act, arrived_by, arrivals, sent}
use Rattle.udt_model.specs.Honest.{IsClose}
use Rattle.udt_model.proofs.PhaseLemmas.{is_settled}
use Rattle.udt_model.proofs.StepLemmas.{step-keeps}
use Rattle.udt_laws.specs.Laws.{IsStream, HasBlocks, ComesFrom, PairPrefix}
use Rattle.udt_laws.proofs.delivered_prefix.PeerBlocksAlone.{IsBlockAt, reads-as, mates}
use Rattle.udt_laws.proofs.delivered_is_carried.DeliversPlacedBlocks.{MeetsAct, AllMeet}
use Rattle.udt_laws.proofs.sockets.OneSocket.{IsEmittedNear, comes-emitted}
use Rattle.udt_laws.proofs.sockets.Opened.{paired-connected}
use Rattle.udt_laws.proofs.pairs.NamedIsBelow.{BlocksBelow, below-sent, below-events}
use Rattle.udt_laws.proofs.delivered_prefix.WindowRises.{IsWithin, step-within}

only-one : (first other : ℕ) → Contains (first ∷ []) other → first ≡ other
only-one first other among = elim (Contains-push_cases [] first other among) [ inl none ↦ absurd (omega (arith, none.1)) | inr same ↦ same ]

-- a half that begins stands within these bounds
pub begins-within : (r : Receiving) (start first limit : ℕ) → first ≡ start → start ≤ limit → IsWithin first first r → IsWithin start limit r
begins-within r start first limit same low within =
    record { not_below = omega (arith, within.not_below); base = within.base; placed = within.placed; not_above = omega (arith, within.not_above) }

module _ {C : Type 0} where
  pub meets-map : (P Q : ℕ → List ℕ → Type 0) (s : State C) (act : Act) → ((offset : ℕ) (payload : List ℕ) → P offset payload → Q offset payload)
      → MeetsAct P s act → MeetsAct Q s act
  meets-map P Q s (Arrive from bytes) to meets =
      λ number flags stamp payload offset from_is reads found. to offset payload (meets number flags stamp payload offset from_is reads found)
  meets-map P Q s act to meets = tt

module _ {C : Type 0} (w : Ways C) where
  module _ (receiver sender : Enrolled C) (from : Addr) (in_range : IsSocket w sender) (has : HasBlocks w sender.history) (comes : ComesFrom receiver from sender)
      (limit : ℕ) (few : limit < start_of sender.history + 2 ^ 30) (below : BlocksBelow w sender.history limit) where
    -- a block of the sender, below the limit
    abbrev pub IsBlockBelow : ℕ → List ℕ → Type 0
    IsBlockBelow offset payload = IsBlockAt w sender.history has offset payload × (offset < limit)

    pub named-below : (emission : Emission) (number : ℕ) (flags : Flags) (stamp dest : ℕ) (payload : List ℕ) (offset : ℕ)
        → Contains (emitted w sender.history) emission → read emission.datagram.bytes ≡ Ok (Block number flags stamp dest payload)
        → Contains emission.offsets offset → offset < limit
    named-below emission number flags stamp dest payload offset among reads named = below emission number flags stamp dest payload offset among reads named

    -- the one offset that a data packet of the sender names lies near where the receiver stands
    pub near-receiver : (r : Receiving) (emission : Emission) (bytes payload : List ℕ) (number stamp dest offset : ℕ) (flags : Flags)
        → IsWithin (start_of sender.history) limit r → Contains (emitted w sender.history) emission → emission.datagram.bytes ≡ bytes
        → read bytes ≡ Ok (Block number flags stamp dest payload) → Contains emission.offsets offset → IsClose offset r.top
    near-receiver r emission bytes payload number stamp dest offset flags within among bytes_are reads named =
        let named_ack = ap read bytes_are ∙ reads in
        let carries = has.emits emission number flags stamp dest payload among named_ack in
        let less = named-below emission number flags stamp dest payload offset among named_ack named in
        let there = subst (λ (l : List ℕ). Contains l offset) carries.names named in
        let low = subst (λ (n : ℕ). start_of sender.history ≤ n) (only-one carries.offset offset there) carries.not_before in
        (omega (arith, within.not_below, within.base, less, few), omega (arith, within.not_above, low, few))

    -- so what comes from the sender for the receiver is read as what it is
    emitted-near : (s : State C) (bytes payload : List ℕ) (number stamp : ℕ) (flags : Flags) → s.own ≡ receiver.own
        → IsWithin (start_of sender.history) limit s.receiving → Contains (arrivals receiver.history) (record { addr = from; bytes = bytes })
        → read bytes ≡ Ok (Block number flags stamp s.own payload) → IsEmittedNear w sender.history s.receiving.top bytes
    emitted-near s bytes payload number stamp flags own_is within among reads =
        let is = comes-emitted w receiver from sender in_range comes bytes (Block number flags stamp s.own payload) among reads own_is in
        record {
          emission = is.emission;
          among = is.among;
          same = is.same;
          close = λ offset named. near-receiver s.receiving is.emission bytes payload number stamp s.own offset flags within is.among is.same reads named;
        }

    pub act-below : (s : State C) (act : Act) → s.own ≡ receiver.own → s.peer.addr ≡ from → (state_of w sender.history).sending.isn ≡ s.receiving.isn
        → IsWithin (start_of sender.history) limit s.receiving
        → ((datagram : Datagram) → Contains (arrived_by_act act) datagram → Contains (arrivals receiver.history) datagram) → MeetsAct IsBlockBelow s act
    act-below s (Arrive sender_addr bytes) own_is addr_is isn_is within among = λ number flags stamp payload offset from_is reads found.
        let arrived = subst (λ (a : Addr). Contains (arrivals receiver.history) (record { addr = a; bytes = bytes })) (from_is ∙ addr_is)
        (among _ (Contains-push [] _)) in
        let is_near = emitted-near s bytes payload number stamp flags own_is within arrived reads in
        let is = reads-as w sender.history has s.receiving.isn s.receiving.top number offset flags stamp s.own bytes payload isn_is is_near reads found in
        (is.is_block, named-below is_near.emission number flags stamp s.own payload offset is_near.among (ap read is_near.same ∙ reads) is.named)
    act-below s act own_is addr_is isn_is within among = tt

    -- so the receiver stands within these bounds after the event too
    pub stays-within : (s : State C) (event : Event) → s.kind ≡ Stream → MeetsAct IsBlockBelow s event.act → IsWithin (start_of sender.history) limit s.receiving
        → IsWithin (start_of sender.history) limit (step w s event).after.receiving
    stays-within s event stream meets within =
        step-within w (start_of sender.history) limit s event stream
        (meets-map IsBlockBelow (λ offset payload. offset < limit) s event.act (λ offset payload both. both.1) meets) within

    -- and after all of them
    pub within-after : (s : State C) (items : List Item) → is_settled s.phase ≡ true → s.kind ≡ Stream → s.own ≡ receiver.own → s.peer.addr ≡ from → (state_of w sender.history).sending.isn ≡ s.receiving.isn
        → IsWithin (start_of sender.history) limit s.receiving
        → ((datagram : Datagram) → Contains (arrived_by items) datagram → Contains (arrivals receiver.history) datagram)
        → IsWithin (start_of sender.history) limit (after_items w s items).receiving
    unfolding arrived_by after_items
    within-after s [] settled stream own_is addr_is isn_is within among = within
    within-after s (item ∷ items) settled stream own_is addr_is isn_is within among =
        let same = step-keeps w s item.event settled in
        let meets = act-below s item.event.act own_is addr_is isn_is within (λ datagram h. among datagram (Contains-append_left _ _ datagram h)) in
        within-after (step w s item.event).after items (same.settled settled) (same.kind ∙ stream) (same.own ∙ own_is) (ap (λ (p : Peer). p.addr) same.peer ∙ addr_is) (isn_is ∙ sym same.receiving.isn)
        (stays-within s item.event stream meets within) (λ datagram h. among datagram (Contains-append_right _ _ datagram h))

    all-below : (s : State C) (items : List Item) → is_settled s.phase ≡ true → s.kind ≡ Stream → s.own ≡ receiver.own → s.peer.addr ≡ from → (state_of w sender.history).sending.isn ≡ s.receiving.isn
        → IsWithin (start_of sender.history) limit s.receiving
        → ((datagram : Datagram) → Contains (arrived_by items) datagram → Contains (arrivals receiver.history) datagram)
        → AllMeet w (IsBlockAt w sender.history has) s items
    unfolding arrived_by
    all-below s [] settled stream own_is addr_is isn_is within among = tt
    all-below s (item ∷ items) settled stream own_is addr_is isn_is within among =
        let same = step-keeps w s item.event settled in
        let meets = act-below s item.event.act own_is addr_is isn_is within (λ datagram h. among datagram (Contains-append_left _ _ datagram h)) in (
          meets-map IsBlockBelow (IsBlockAt w sender.history has) s item.event.act (λ offset payload both. both.0) meets,
          all-below (step w s item.event).after items (same.settled settled) (same.kind ∙ stream) (same.own ∙ own_is) (ap (λ (p : Peer). p.addr) same.peer ∙ addr_is)
              (isn_is ∙ sym same.receiving.isn) (stays-within s item.event stream meets within)
              (λ datagram h. among datagram (Contains-append_right _ _ datagram h)),
        )

  -- where the data packets of the one name offsets below such a limit, the other delivers a prefix
  pub prefix-below : (addr peer_addr : Addr) (receiver sender : Enrolled C) (limit : ℕ) → IsSocket w receiver → IsSocket w sender
      → ArePaired addr receiver.own receiver.way peer_addr sender.own sender.way → IsStream receiver.history
      → ComesFrom receiver peer_addr sender → BlocksBelow w sender.history limit → start_of sender.history ≤ limit → limit < start_of sender.history + 2 ^ 30
      → IsPrefix (delivered receiver.history) (accepted sender.history)
  prefix-below addr peer_addr receiver sender limit is_receiver is_sender paired stream comes below low few =
      let are = mates w addr receiver.own receiver.history peer_addr sender.own sender.history
      (paired-connected w addr receiver peer_addr sender is_receiver is_sender paired) in
      are.front stream (all-below receiver sender peer_addr is_sender are.has comes limit few below receiver.history.opening receiver.history.items
      are.settled stream are.own_is are.peer_addr are.same_isn
      (begins-within receiver.history.opening.receiving (start_of sender.history) (start_of receiver.history) limit (sym are.same_start) low are.stands)
      (λ datagram among. among))

  pub pair_prefix : PairPrefix w
  pair_prefix addr peer_addr receiver sender is_receiver is_sender paired stream comes few =
      let g = sender.history in
      let connected = paired-connected w addr receiver peer_addr sender is_receiver is_sender paired in
      prefix-below addr peer_addr receiver sender (start_of g + length (sent g)) is_receiver is_sender paired stream comes
      (below-sent w g connected.other_begins (connected.same_kind ∙ stream)) (omega arith) (omega (arith, few))

  -- and by the number of its events
  pub events-prefix : (addr peer_addr : Addr) (receiver sender : Enrolled C) → IsSocket w receiver → IsSocket w sender
      → ArePaired addr receiver.own receiver.way peer_addr sender.own sender.way → IsStream receiver.history
      → ComesFrom receiver peer_addr sender → length sender.history.items < 2 ^ 30
      → IsPrefix (delivered receiver.history) (accepted sender.history)
  events-prefix addr peer_addr receiver sender is_receiver is_sender paired stream comes few =
      let g = sender.history in
      let connected = paired-connected w addr receiver peer_addr sender is_receiver is_sender paired in
      prefix-below addr peer_addr receiver sender (start_of g + length g.items) is_receiver is_sender paired stream comes
      (below-events w g connected.other_begins (connected.same_kind ∙ stream)) (omega arith) (omega (arith, few))
