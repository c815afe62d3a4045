-- Two sockets that were made as a pair and got from each other alone have honest records: fewer than 2^30 datagrams of
-- each name no offset too far from where the other reads it.
use Rattle.std.proofs.Common.{◌≡◌, ℕ, ◌+◌, ◌^◌, ◌<◌, ◌≤◌, true, List, [], ◌∷◌, ◌++◌, length, Some, Ok, inl, inr, ap, ◌∙◌, sym, subst, arith}
use Rattle.std.specs.List.{Contains}
use Rattle.std.proofs.lemmas.List.Elements.{Contains-append_left, Contains-append_right, Contains-push, Contains-push_cases}
use Rattle.udt_model.specs.declared.packets.Kind.TheVariants.{Stream}
use Rattle.udt_model.specs.declared.addresses.Addr.{Addr}
use Rattle.udt_model.specs.declared.answers.Peer.{Peer}
use Rattle.udt_model.specs.declared.packets.Flags.{Flags}
use Rattle.udt_model.specs.declared.sockets.SentAck.{SentAck}
use Rattle.udt_model.specs.Emissions.{emitted, sent, arrived_by_act, arrived_by, arrivals}
use Rattle.udt_model.specs.Events.{Act, Arrive, Reply, at_moment}
use Rattle.udt_model.specs.History.{Item, after_items, state_of, start_of}
use Rattle.udt_model.specs.Honest.{IsClose, read_by, IsHonestAct, AreHonest}
use Rattle.udt_model.specs.Numbers.{near}
use Rattle.udt_model.specs.Rate.{Ways}
use Rattle.udt_model.specs.ReceiveHalf.{block_answer, after_block}
use Rattle.udt_model.specs.ReceiveReports.{EmitsAck, ack_offset, ack_outcome}
use Rattle.udt_model.specs.Records.{Enrolled, IsSocket, EndpointRecord, StandsAt}
use Rattle.udt_model.specs.State.{State, Datagram, Emission}
use Rattle.udt_model.specs.Step.{step}
use Rattle.udt_model.specs.Wire.{Packet, Block, read}
use Rattle.udt_model.proofs.StreamLemmas.{packing-no_drop}
use Rattle.udt_model.proofs.EmissionLemmas.{Emitting, NewBlock, LostBlock, DropRequest, FullAck, LightAck, Reports, ReportsGap, ReportsDropGap, AnswersAck, SendsKeepAlive, TheEnd, SendsHandshake, IsEmittedAt}
use Rattle.udt_model.proofs.ReceivingLemmas.{offset_of-some}
use Rattle.udt_model.proofs.RecordLemmas.{emitted-from_sent, arrived_by-append}
use Rattle.udt_model.proofs.SendingLemmas.{IsCut}
use Rattle.udt_model.proofs.PhaseLemmas.{is_settled}
use Rattle.udt_model.proofs.StepLemmas.{step-keeps, after_items-keeps}
use Rattle.udt_model.proofs.TickLemmas.{ack_outcome-tells}
use Rattle.udt_laws.specs.Laws.{ComesFrom, AllComesFrom, both_records, PairHonest}
use Rattle.udt_laws.proofs.sockets.Opened.{AreConnected, connected-back, paired-connected}
use Rattle.udt_laws.proofs.acked_has_arrived.BelowGapWasPlaced.{ack-within}
use Rattle.udt_laws.proofs.acked_has_arrived.SendsOneAnEvent.{SendsBelow, sends-below_sent}
use Rattle.udt_laws.proofs.delivered_is_carried.DeliversPlacedBlocks.{MeetsAct, meets-at_moment}
use Rattle.udt_laws.proofs.delivered_prefix.PeerBlocksAlone.{AreMates, mates}
use Rattle.udt_laws.proofs.delivered_prefix.WindowRises.{IsWithin, block-within, carries-below}
use Rattle.udt_laws.proofs.pairs.NamedIsBelow as bounds
use Rattle.udt_laws.proofs.pairs.PairIsLawful.{stands_first, stands_second, both-honest, pair-lawful}
use Rattle.udt_laws.proofs.pairs.PairPrefix.{meets-map, IsBlockBelow, near-receiver, act-below, stays-within, within-after, begins-within}
use Rattle.udt_laws.proofs.sent_blocks.AcceptedIsCut.{blocks_of, step-cut}
use Rattle.udt_laws.proofs.sent_blocks.EmissionsRead.{packet_of}
use Rattle.udt_laws.proofs.sent_blocks.GoesToPeer.{emission-goes}
use Rattle.udt_laws.proofs.sent_blocks.NakRanges.{EndsMeet, IsBetween, nak-ends, block-gap, gap-found, named-ends}
use Rattle.udt_laws.proofs.sent_blocks.NamedWasSent.{only-named, IsEndless, items-endless, moment-endless, begins-endless}
use Rattle.udt_laws.proofs.sent_blocks.ReportsFit.{ReportsFit, block-fits}
use Rattle.udt_laws.proofs.sent_blocks.SentBlocks.{same-packet, begins-well, moment-at, emission-at}

datagram_from : Addr → List ℕ → Datagram
datagram_from addr bytes = record { addr = addr; bytes = bytes }

datagram_from-same : (a b : Addr) (m n : List ℕ) → a ≡ b → m ≡ n → datagram_from a m ≡ datagram_from b n
datagram_from-same a b m n addr bytes = cc

pub datagram-is : (datagram : Datagram) (addr : Addr) (bytes : List ℕ) → datagram.addr ≡ addr → datagram.bytes ≡ bytes
    → datagram ≡ record { addr = addr; bytes = bytes }
unfolding datagram_from
datagram-is datagram addr bytes addr_is bytes_are = datagram_from-same datagram.addr addr datagram.bytes bytes addr_is bytes_are

-- no offset is among none
pub none-named : (offset : ℕ) → Contains [] offset → ⊥
none-named offset named = omega (arith, named.1)

-- two offsets between these are close
pub both-close : (low high offset other : ℕ) → high < low + 2 ^ 30 → low ≤ offset → offset ≤ high → low ≤ other → other ≤ high → IsClose offset other
both-close low high offset other few a b c d = (omega arith, omega arith)

-- two offsets of a gap
pub two-named : (low high : ℕ) (ends : ℕ × ℕ) (offset : ℕ) → (low ≤ ends.0) × (ends.0 ≤ ends.1) × (ends.1 ≤ high) → Contains (ends.0 ∷ ends.1 ∷ []) offset
    → (low ≤ offset) × (offset ≤ high)
two-named low high ends offset at named = elim (Contains-push_cases (ends.0 ∷ []) ends.1 offset named) [
  | inl first ↦ elim (Contains-push_cases [] ends.0 offset first) [
    | inl none ↦ absurd (omega (arith, none.1))
    | inr same ↦ (omega (arith, at.0, same), omega (arith, at.1, at.2, same))
  ]
  | inr same ↦ (omega (arith, at.0, at.1, same), omega (arith, at.2, same))
]

-- what arrives with one item arrives with it and others
arrives-with : (item : Item) (rest : List Item) (datagram : Datagram) → Contains (arrived_by_act item.event.act) datagram → Contains (arrived_by (item ∷ rest)) datagram
unfolding arrived_by
arrives-with item rest datagram among = Contains-append_left (arrived_by_act item.event.act) (arrived_by rest) datagram among

module _ {C : Type 0} (w : Ways C) where
  -- an ACK names an offset at which the half that tells it stands
  tells-within : (low high : ℕ) (s : State C) (ack : SentAck) → ReportsFit s.receiving → IsWithin low high s.receiving
      → ack_outcome s.receiving s.last s.rtt ≡ EmitsAck ack → (low ≤ ack.offset) × (ack.offset ≤ high)
  tells-within low high s ack fits within tells =
      let told = ack_outcome-tells s.receiving s.last s.rtt ack tells in
      let at = ack-within s.receiving fits in
      (omega (arith, told.offset, at.0, within.not_below), omega (arith, told.offset, at.1, within.not_above))

  module _ (low high : ℕ) (t : State C) (act : Act) (sender : Addr) (raw : List ℕ) (number : ℕ) (flags : Flags) (stamp : ℕ) (payload : List ℕ) where
    block-below : MeetsAct (λ n bytes. n < high) t act → act ≡ Arrive sender raw → read raw ≡ Ok (Block number flags stamp t.own payload)
        → sender ≡ t.peer.addr → (offset : ℕ) → near t.receiving.isn t.receiving.top number ≡ Some offset → offset < high
    block-below meets arrives carries sent offset is_near =
        carries-below w high t act sender raw number flags stamp payload meets arrives sent carries offset is_near

    light-within : ReportsFit t.receiving → IsWithin low high t.receiving → MeetsAct (λ n bytes. n < high) t act → act ≡ Arrive sender raw
        → read raw ≡ Ok (Block number flags stamp t.own payload) → sender ≡ t.peer.addr
        → (low ≤ ack_offset (after_block t.receiving t.last number flags payload)) × (ack_offset (after_block t.receiving t.last number flags payload) ≤ high)
    light-within fits within meets arrives carries sent =
        let after = after_block t.receiving t.last number flags payload in
        let at = ack-within after (block-fits t.receiving t.last number flags payload fits) in
        let stands = block-within low high t.receiving t.last number flags payload (block-below meets arrives carries sent) within in
        (omega (arith, at.0, stands.not_below), omega (arith, at.1, stands.not_above))

    gap-within : (ends : ℕ × ℕ) → ReportsFit t.receiving → IsWithin low high t.receiving → MeetsAct (λ n bytes. n < high) t act → act ≡ Arrive sender raw
        → read raw ≡ Ok (Block number flags stamp t.own payload) → sender ≡ t.peer.addr → (block_answer t.receiving number).gap ≡ Some ends
        → (low ≤ ends.0) × (ends.0 ≤ ends.1) × (ends.1 ≤ high)
    gap-within ends fits within meets arrives carries sent gap =
        let is = block-gap t.receiving number ends gap in
        let found = offset_of-some t.receiving number (ends.1 + 1) (gap-found t.receiving number ends gap) in
        let less = block-below meets arrives carries sent (ends.1 + 1) found.is_near in
        (omega (arith, is.from, within.not_below, within.base), is.order, omega (arith, less))

  -- the offset past all that a socket's data packets can name
  pub limit_of : Enrolled C → ℕ
  limit_of socket = start_of socket.history + length (sent socket.history)

  -- what is known of a socket and of the other one of its pair, from which alone it got
  pub record IsOneOfPair (addr : Addr) (socket : Enrolled C) (from : Addr) (other : Enrolled C) : Type 0 where
    pub in_range : IsSocket w socket
    pub other_in : IsSocket w other
    pub connected : AreConnected w addr socket.own socket.history from other.own other.history
    pub are : AreMates w addr socket.own socket.history from other.own other.history
    pub all : AllComesFrom socket from other
    pub few : length (sent other.history) < 2 ^ 30
    pub stream : socket.history.opening.kind ≡ Stream
    pub other_stream : other.history.opening.kind ≡ Stream

  module _ (addr : Addr) (socket : Enrolled C) (from : Addr) (other : Enrolled C) (pair : IsOneOfPair addr socket from other) where
    comes : ComesFrom socket from other
    comes datagram among from_is for_it = (pair.all datagram among).1

    limited : limit_of other < start_of other.history + 2 ^ 30
    unfolding limit_of
    limited = omega (arith, pair.few)

    blocks-below : bounds.BlocksBelow w other.history (limit_of other)
    unfolding limit_of
    blocks-below = bounds.below-sent w other.history pair.connected.other_begins pair.other_stream

    -- where its receiving half stands in the beginning, and after some items
    begins : IsWithin (start_of other.history) (limit_of other) socket.history.opening.receiving
    unfolding limit_of
    begins = begins-within socket.history.opening.receiving (start_of other.history) (start_of socket.history) _ (sym pair.are.same_start) (omega arith) pair.are.stands

    stands-after : (front rest : List Item) → socket.history.items ≡ front ++ rest
        → IsWithin (start_of other.history) (limit_of other) (after_items w socket.history.opening front).receiving
    stands-after front rest joined =
        let split = ap arrived_by joined ∙ arrived_by-append front rest in
        within-after w socket other from pair.other_in pair.are.has comes (limit_of other) limited blocks-below socket.history.opening front pair.are.settled pair.stream pair.are.own_is
        pair.are.peer_addr pair.are.same_isn begins
        (λ datagram among. subst (λ (l : List Datagram). Contains l datagram) (sym split) (Contains-append_left _ _ datagram among))

  -- a sending half has acknowledged an offset between these
  pub record IsAckedWithin (low high : ℕ) (s : State C) : Type 0 where
    pub not_below : low ≤ s.sending.blocks.first
    pub not_above : s.sending.blocks.first ≤ high

  module _ (net : List (EndpointRecord C)) (addr : Addr) (socket : Enrolled C) (from : Addr) (other : Enrolled C) (pair : IsOneOfPair addr socket from other)
      (back : IsOneOfPair from other addr socket) (stands : StandsAt net from other) where
    -- the other's ACKs and NAKs name offsets that the socket sent
    named-within : (emission : Emission) (at : IsEmittedAt w other.history.opening other.history.items emission)
        → IsWithin (start_of socket.history) (limit_of socket) (after_items w other.history.opening at.front).receiving
    named-within emission at = stands-after from other addr socket back at.front (at.item ∷ at.rest) at.joined

    -- and so does what arrived with it
    meets-within : (emission : Emission) (at : IsEmittedAt w other.history.opening other.history.items emission)
        → MeetsAct (λ offset payload. offset < limit_of socket) (after_items w other.history.opening at.front) at.item.event.act
    meets-within emission at =
        let g = other.history in
        let there = after_items w g.opening at.front in
        let same = after_items-keeps w g.opening at.front back.are.settled in
        let split = ap arrived_by at.joined ∙ arrived_by-append at.front (at.item ∷ at.rest) in
        meets-map (IsBlockBelow w other socket addr back.other_in back.are.has (comes from other addr socket back) (limit_of socket)
        (limited from other addr socket back) (blocks-below from other addr socket back)) (λ offset payload. offset < limit_of socket)
        there at.item.event.act (λ offset payload both. both.1)
        (act-below w other socket addr back.other_in back.are.has (comes from other addr socket back) (limit_of socket)
        (limited from other addr socket back) (blocks-below from other addr socket back) there at.item.event.act (same.own ∙ back.are.own_is)
        (ap (λ (p : Peer). p.addr) same.peer ∙ back.are.peer_addr) (back.are.same_isn ∙ sym same.receiving.isn) (named-within emission at)
        (λ datagram among. subst (λ (l : List Datagram). Contains l datagram) (sym split)
        (Contains-append_right (arrived_by at.front) _ datagram (arrives-with at.item at.rest datagram among))))

    -- what each kind of emission of the other names is close to where the socket reads it
    kind-close : (s : State C) (emission : Emission) (bytes : List ℕ) (offset : ℕ)
        → IsWithin (start_of other.history) (limit_of other) s.receiving → IsAckedWithin (start_of socket.history) (limit_of socket) s
        → Contains (emitted w other.history) emission → emission.datagram.bytes ≡ bytes
        → (t : State C) (act : Act) (reply : Reply) (x : Emitting w t act reply emission) → read bytes ≡ Ok (packet_of w t act reply emission x)
        → Contains emission.offsets offset → ReportsFit t.receiving
        → IsWithin (start_of socket.history) (limit_of socket) t.receiving → MeetsAct (λ n payload. n < limit_of socket) t act → IsEndless w t
        → IsClose offset (read_by s (packet_of w t act reply emission x))
    kind-close s emission bytes offset within acked among bytes_are t act reply (NewBlock block connected packs is) reads named fits stood meets endless =
        near-receiver w socket other from pair.other_in pair.are.has (comes addr socket from other pair) (limit_of other) (limited addr socket from other pair)
        (blocks-below addr socket from other pair) s.receiving emission bytes block.bytes _ _ _ offset block.flags within among bytes_are reads named
    kind-close s emission bytes offset within acked among bytes_are t act reply (LostBlock lost block connected packs is) reads named fits stood meets endless =
        near-receiver w socket other from pair.other_in pair.are.has (comes addr socket from other pair) (limit_of other) (limited addr socket from other pair)
        (blocks-below addr socket from other pair) s.receiving emission bytes block.bytes _ _ _ offset block.flags within among bytes_are reads named
    kind-close s emission bytes offset within acked among bytes_are t act reply (DropRequest message connected packs is) reads named fits stood meets endless =
        absurd (packing-no_drop w t.sending t.last message endless.none packs)
    kind-close s emission bytes offset within acked among bytes_are t act reply (FullAck ack connected tells is) reads named fits stood meets endless =
        let there = tells-within (start_of socket.history) (limit_of socket) t ack fits stood tells in
        let same = only-named emission ack.offset offset (ap (λ (e : Emission). e.offsets) is) named in
        both-close (start_of socket.history) (limit_of socket) offset s.sending.blocks.first (limited from other addr socket back)
        (omega (arith, there.0, same)) (omega (arith, there.1, same)) acked.not_below acked.not_above
    kind-close s emission bytes offset within acked among bytes_are t act reply (LightAck sender raw number flags stamp payload connected arrives carries sent replies is) reads named fits stood meets endless =
        let there = light-within (start_of socket.history) (limit_of socket) t act sender raw number flags stamp payload fits stood meets arrives carries sent in
        let same = only-named emission (ack_offset (after_block t.receiving t.last number flags payload)) offset (ap (λ (e : Emission). e.offsets) is) named in
        both-close (start_of socket.history) (limit_of socket) offset s.sending.blocks.first (limited from other addr socket back)
        (omega (arith, there.0, same)) (omega (arith, there.1, same)) acked.not_below acked.not_above
    kind-close s emission bytes offset within acked among bytes_are t act reply (Reports range ranges connected reports is) reads named fits stood meets endless =
        let there = subst (λ (l : List ℕ). Contains l offset) (ap (λ (e : Emission). e.offsets) is) named in
        let ends = subst (λ l. EndsMeet (IsBetween t.receiving) l) reports (nak-ends t.receiving t.last t.rtt fits) in
        let between = named-ends (IsBetween t.receiving) (range ∷ ranges) offset ends there in
        both-close (start_of socket.history) (limit_of socket) offset s.sending.blocks.first (limited from other addr socket back)
        (omega (arith, between.0, stood.not_below)) (omega (arith, between.1, stood.not_above)) acked.not_below acked.not_above
    kind-close s emission bytes offset within acked among bytes_are t act reply (ReportsGap sender raw number flags stamp payload ends connected arrives carries sent gap is) reads named fits stood meets endless =
        let there = subst (λ (l : List ℕ). Contains l offset) (ap (λ (e : Emission). e.offsets) is) named in
        let at = gap-within (start_of socket.history) (limit_of socket) t act sender raw number flags stamp payload ends fits stood meets arrives carries sent gap in
        let between = two-named (start_of socket.history) (limit_of socket) ends offset at there in
        both-close (start_of socket.history) (limit_of socket) offset s.sending.blocks.first (limited from other addr socket back)
        between.0 between.1 acked.not_below acked.not_above
    kind-close s emission bytes offset within acked among bytes_are t act reply (ReportsDropGap sender raw message stamp first last range ends connected arrives asks sent messages taken gap is) reads named fits stood meets endless =
        let streams = endless.stream in
        absurd (cc)
    kind-close s emission bytes offset within acked among bytes_are t act reply (AnswersAck number connected is) reads named fits stood meets endless =
        absurd (none-named offset (subst (λ (l : List ℕ). Contains l offset) (ap (λ (e : Emission). e.offsets) is) named))
    kind-close s emission bytes offset within acked among bytes_are t act reply (SendsKeepAlive connected is) reads named fits stood meets endless =
        absurd (none-named offset (subst (λ (l : List ℕ). Contains l offset) (ap (λ (e : Emission). e.offsets) is) named))
    kind-close s emission bytes offset within acked among bytes_are t act reply (TheEnd closing is) reads named fits stood meets endless =
        absurd (none-named offset (subst (λ (l : List ℕ). Contains l offset) (ap (λ (e : Emission). e.offsets) is) named))
    kind-close s emission bytes offset within acked among bytes_are t act reply (SendsHandshake to dest shake sends is) reads named fits stood meets endless =
        absurd (none-named offset (subst (λ (l : List ℕ). Contains l offset) (ap (λ (e : Emission). e.offsets) is) named))

    -- so what an emission names is
    close-to : (s : State C) (emission : Emission) (bytes : List ℕ) (packet : Packet) (offset : ℕ)
        → IsWithin (start_of other.history) (limit_of other) s.receiving → IsAckedWithin (start_of socket.history) (limit_of socket) s
        → Contains (emitted w other.history) emission → emission.datagram.bytes ≡ bytes → read bytes ≡ Ok packet → Contains emission.offsets offset
        → IsClose offset (read_by s packet)
    close-to s emission bytes packet offset within acked among bytes_are reads named =
        let at = emission-at w other.history pair.connected.other_begins emission among in
        let goes = emission-goes w other.history pair.connected.other_begins emission at in
        let moment = moment-at w other.history pair.connected.other_begins emission at in
        let same = same-packet bytes _ packet (ap read (sym bytes_are) ∙ goes.reads) reads in
        subst (λ (p : Packet). IsClose offset (read_by s p)) same
        (kind-close s emission bytes offset within acked among bytes_are (at_moment (after_items w other.history.opening at.front) at.item.event.now)
        at.item.event.act _ at.emitting (ap read (sym bytes_are) ∙ goes.reads) named moment.can.reports (named-within emission at)
        (meets-at_moment (λ n payload. n < limit_of socket) (after_items w other.history.opening at.front) at.item.event.now at.item.event.act (meets-within emission at))
        (moment-endless w (after_items w other.history.opening at.front) at.item.event.now
        (items-endless w other.history.opening at.front
        (begins-endless w other.history pair.connected.other_begins pair.other_stream))))

    act-honest : (s : State C) (act : Act) → IsWithin (start_of other.history) (limit_of other) s.receiving
        → IsAckedWithin (start_of socket.history) (limit_of socket) s
        → ((datagram : Datagram) → Contains (arrived_by_act act) datagram → Contains (arrivals socket.history) datagram)
        → IsHonestAct w net addr s act
    act-honest s (Arrive a bytes) within acked among =
        let came = pair.all (record { addr = a; bytes = bytes }) (among _ (Contains-push [] _)) in
        let is = emitted-from_sent w other.history.opening other.history.items came.1.0 pair.other_in.legal came.1.1 in
        let bytes_are : is.emission.datagram.bytes ≡ bytes = ap (λ (d : Datagram). d.bytes) is.datagram_is ∙ came.1.2 in
        let at = emission-at w other.history pair.connected.other_begins is.emission is.among in
        let goes = emission-goes w other.history pair.connected.other_begins is.emission at in
        record {
          socket = other;
          emission = is.emission;
          stands = subst (λ (x : Addr). StandsAt net x other) (sym came.0) stands;
          emits = is.among;
          datagram = datagram-is is.emission.datagram addr bytes (goes.addr ∙ pair.are.back_addr) bytes_are;
          close = λ packet offset reads named. close-to s is.emission bytes packet offset within acked is.among bytes_are reads named;
        }
    act-honest s act within acked among = tt

    items-honest : (s : State C) (blocks : List (List ℕ)) (items : List Item) → is_settled s.phase ≡ true → s.kind ≡ Stream → s.own ≡ socket.own → s.peer.addr ≡ from
        → (state_of w other.history).sending.isn ≡ s.receiving.isn
        → IsWithin (start_of other.history) (limit_of other) s.receiving → IsCut s.sending (start_of socket.history) blocks
        → SendsBelow w (limit_of socket) s items
        → ((datagram : Datagram) → Contains (arrived_by items) datagram → Contains (arrivals socket.history) datagram)
        → AreHonest w net addr s items
    unfolding arrived_by AreHonest
    items-honest s blocks [] settled stream own_is addr_is isn_is within is_cut below among = tt
    items-honest s blocks (item ∷ items) settled stream own_is addr_is isn_is within is_cut below among =
        let same = step-keeps w s item.event settled in
        let here = λ (datagram : Datagram) (h : Contains (arrived_by_act item.event.act) datagram). among datagram (Contains-append_left _ _ datagram h) in
        let meets = act-below w socket other from pair.other_in pair.are.has (comes addr socket from other pair) (limit_of other) (limited addr socket from other pair)
        (blocks-below addr socket from other pair) s item.event.act own_is addr_is isn_is within here in
        let next = stays-within w socket other from pair.other_in pair.are.has (comes addr socket from other pair) (limit_of other) (limited addr socket from other pair)
        (blocks-below addr socket from other pair) s item.event stream meets within in
        let acked : IsAckedWithin (start_of socket.history) (limit_of socket) s =
        record { not_below = is_cut.not_before; not_above = omega (arith, is_cut.sent_from, below.0) } in (
          act-honest s item.event.act within acked here,
          items-honest (step w s item.event).after (blocks ++ blocks_of s item.event) items
              (same.settled settled) (same.kind ∙ stream) (same.own ∙ own_is) (ap (λ (p : Peer). p.addr) same.peer ∙ addr_is)
              (isn_is ∙ sym same.receiving.isn) next (step-cut w (start_of socket.history) blocks s item.event settled is_cut) below.1
              (λ datagram h. among datagram (Contains-append_right _ _ datagram h)),
        )

    pub history-honest : AreHonest w net addr socket.history.opening socket.history.items
    unfolding limit_of
    history-honest =
        let h = socket.history in
        let well = begins-well w h pair.connected.begins in
        items-honest h.opening [] h.items pair.are.settled pair.stream pair.are.own_is pair.are.peer_addr pair.are.same_isn (begins addr socket from other pair)
        well.cut (sends-below_sent w h pair.connected.begins pair.stream)
        (λ datagram among. among)

  pub pair_honest : PairHonest w
  pair_honest addr other_addr socket other apart in_range other_in paired stream all other_all few other_few =
      let net = both_records addr socket other_addr other in
      let h = socket.history in
      let g = other.history in
      let connected = paired-connected w addr socket other_addr other in_range other_in paired in
      let back = connected-back w addr socket.own h other_addr other.own g connected in
      let other_stream = connected.same_kind ∙ stream in
      let one : IsOneOfPair addr socket other_addr other = record {
        in_range = in_range;
        other_in = other_in;
        connected = connected;
        are = mates w addr socket.own h other_addr other.own g connected;
        all = all;
        few = other_few;
        stream = stream;
        other_stream = other_stream;
      } in
      let two : IsOneOfPair other_addr other addr socket = record {
        in_range = other_in;
        other_in = in_range;
        connected = back;
        are = mates w other_addr other.own g addr socket.own h back;
        all = other_all;
        few = few;
        stream = other_stream;
        other_stream = stream;
      } in (
        pair-lawful w addr other_addr socket other apart in_range other_in paired,
        both-honest w addr other_addr socket other
            (history-honest net addr socket other_addr other one two (stands_second w addr other_addr socket other))
            (history-honest net other_addr other addr socket two one (stands_first w addr other_addr socket other)),
      )
