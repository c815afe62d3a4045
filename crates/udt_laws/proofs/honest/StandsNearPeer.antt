-- The top of a history whose peer's datagrams alone arrive stays between its start and as many more as bytes that the
-- peer accepted.
use Rattle.std.proofs.Common.{◌≡◌, ℕ, ◌+◌, ◌^◌, ◌<◌, ◌≤◌, true, false, List, [], ◌∷◌, ◌++◌, length, Ok, refl, ap, ◌∙◌, sym}
use Rattle.std.proofs.Common.{subst, arith}
use Rattle.std.specs.List.{Contains}
use Rattle.std.proofs.lemmas.List.{length-append}
use Rattle.std.proofs.lemmas.List.Elements.{Contains-append_left, Contains-append_right, Contains-push}
use Rattle.udt_model.specs.declared.addresses.Addr.{Addr}
use Rattle.udt_model.specs.declared.answers.Peer.{Peer}
use Rattle.udt_model.specs.Emissions.{emitted, arrived_by_act, arrived_by, arrivals}
use Rattle.udt_model.specs.Events.{Act, Arrive, at_moment}
use Rattle.udt_model.specs.History.{Item, History, AreLegal, after_items, state_of, start_of, accepted}
use Rattle.udt_model.specs.Rate.{Ways}
use Rattle.udt_model.specs.State.{State, Datagram, Emission}
use Rattle.udt_model.specs.Step.{step}
use Rattle.udt_model.specs.Wire.{Packet, Block, DropAsk, is_handshake, destination, read}
use Rattle.udt_model.proofs.DropLemmas.{drop_range-is}
use Rattle.udt_model.proofs.PhaseLemmas.{is_settled}
use Rattle.udt_model.proofs.StepLemmas.{step-keeps, after_items-keeps}
use Rattle.udt_model.proofs.EmissionLemmas.{IsEmittedAt}
use Rattle.udt_model.proofs.RecordLemmas.{arrived_by-append}
use Rattle.udt_laws.proofs.acked_has_arrived.AcksNamePlaced.{HasTaken, all-taken, begins-covers}
use Rattle.udt_laws.proofs.acked_has_arrived.EventsPlace.{ItemsMeet, items-covers}
use Rattle.udt_laws.proofs.honest.EmissionsNearPeer.{StandsAtAct, names-between}
use Rattle.udt_laws.proofs.honest.NamedOffsets.{block-between, drop-between, names-last}
use Rattle.udt_laws.proofs.honest.TopBelow.{MeetsBelow, block-base, step-stands_below}
use Rattle.udt_laws.proofs.laid_messages.PeerMessagesAlone.{reads-offset}
use Rattle.udt_laws.proofs.laid_messages.TopStands.{StandsBetween}
use Rattle.udt_laws.proofs.sent_blocks.AcceptedIsCut.{blocks_by, blocks_by-append, blocks_by-parts, items-cut}
use Rattle.udt_laws.proofs.sent_blocks.SentBlocks.{carries-block, begins-well, moment-at}
use Rattle.udt_laws.proofs.sockets.Begins.{Begins, begins_settled, begins_receiving, begins_top, last_isn}
use Rattle.udt_laws.proofs.sockets.OneSocket.{IsEmittedAs}
use Rattle.udt_laws.proofs.sockets.Opened.{AreConnected}

module _ {C : Type 0} (w : Ways C) where
  -- whatever a history's own arrivals bring from its peer names offsets below this, where the top stands there
  abbrev pub AllBelow : History C → ℕ → Type 0
  AllBelow h high =
      (s : State C) (act : Act) → s.own ≡ h.opening.own → s.peer ≡ h.opening.peer
      → s.receiving.isn ≡ h.opening.receiving.isn → StandsBetween (start_of h) high s.receiving.top
      → ((datagram : Datagram) → Contains (arrived_by_act act) datagram → Contains (arrivals h) datagram) → MeetsBelow high s act

  module _ (h : History C) (begins : Begins w h) (high : ℕ) (own_few : start_of h + length (accepted h) ≤ high)
      (below : AllBelow h high) where
    -- so the top stands there after all of them
    stands-after : (s : State C) (items : List Item) → is_settled s.phase ≡ true → s.own ≡ h.opening.own → s.peer ≡ h.opening.peer
        → s.receiving.isn ≡ h.opening.receiving.isn → StandsBetween (start_of h) high s.receiving.top
        → ((datagram : Datagram) → Contains (arrived_by items) datagram → Contains (arrivals h) datagram)
        → StandsBetween (start_of h) high (after_items w s items).receiving.top
    unfolding arrived_by after_items
    stands-after s [] settled own_is peer_is isn_is stands among = stands
    stands-after s (item ∷ items) settled own_is peer_is isn_is stands among =
        let same = step-keeps w s item.event settled in
        let meets = below s item.event.act own_is peer_is isn_is stands
        (λ datagram there. among datagram (Contains-append_left _ _ datagram there)) in
        stands-after (step w s item.event).after items (same.settled settled) (same.own ∙ own_is) (same.peer ∙ peer_is)
        (same.receiving.isn ∙ isn_is) (step-stands_below w (start_of h) high s item.event settled meets stands)
        (λ datagram there. among datagram (Contains-append_right _ _ datagram there))

    came-split : (front rest : List Item) → h.items ≡ front ++ rest → arrivals h ≡ arrived_by front ++ arrived_by rest
    came-split front rest joined = ap arrived_by joined ∙ arrived_by-append front rest

    -- the top after the first of its items
    pub top-after : (front rest : List Item) → h.items ≡ front ++ rest
        → StandsBetween (start_of h) high (after_items w h.opening front).receiving.top
    top-after front rest joined =
        stands-after h.opening front (begins_settled w h begins) refl refl refl
        (record { not_below = omega (arith, begins_top w h begins); not_above = omega (arith, begins_top w h begins, own_few) })
        (λ datagram there. subst (λ (l : List Datagram). Contains l datagram) (sym (came-split front rest joined))
        (Contains-append_left _ _ datagram there))

    -- where it stands when it emits something
    stands-at : (emission : Emission) (is : IsEmittedAt w h.opening h.items emission)
        → StandsAtAct w (start_of h) high (at_moment (after_items w h.opening is.front) is.item.event.now) is.item.event.act
    unfolding arrived_by
    stands-at emission is =
        let there = after_items w h.opening is.front in
        let same = after_items-keeps w h.opening is.front (begins_settled w h begins) in
        let legal = subst (AreLegal w h.opening) is.joined begins.legal in
        let meet = subst (ItemsMeet w (HasTaken w h) h.opening) is.joined (all-taken w h) in
        let covers = items-covers w (HasTaken w h) (start_of h) h.opening is.front (is.item ∷ is.rest) legal meet
        (begins-well w h begins).reports (begins-covers w (HasTaken w h) h begins) in
        let top = top-after is.front (is.item ∷ is.rest) is.joined in
        record {
          base = covers.begun;
          top = top.not_above;
          fits = (moment-at w h begins emission is).can.reports;
          meets = below (at_moment there is.item.event.now) is.item.event.act same.own same.peer same.receiving.isn top
              (λ datagram here. subst (λ (l : List Datagram). Contains l datagram)
              (sym (came-split is.front (is.item ∷ is.rest) is.joined))
              (Contains-append_right (arrived_by is.front) _ datagram
              (Contains-append_left (arrived_by_act is.item.event.act) (arrived_by is.rest) datagram here)));
          light = λ now number flags payload. omega (arith, covers.begun, block-base there.receiving now number flags payload);
        }

    -- so it names offsets between these
    pub all-between : (emission : Emission) (offset : ℕ) → Contains (emitted w h) emission → Contains emission.offsets offset
        → (start_of h ≤ offset) × (offset ≤ high)
    all-between emission offset among named =
        names-between w h begins high own_few emission offset among named (stands-at emission)

    -- and what is acknowledged of it lies there
    pub acked-between : (front rest : List Item) → h.items ≡ front ++ rest
        → (start_of h ≤ (after_items w h.opening front).sending.blocks.first)
        × ((after_items w h.opening front).sending.blocks.first ≤ high)
    acked-between front rest joined =
        let well = begins-well w h begins in
        let cut = items-cut w h.opening (start_of h) [] front well.settled well.cut in
        let all = ap length (ap (blocks_by w h.opening) joined ∙ blocks_by-append w h.opening front rest) in
        let many = length-append (blocks_by w h.opening front) (blocks_by w (after_items w h.opening front) rest) in
        let parts = blocks_by-parts w h.opening h.items well.settled begins.legal well.cut.payload in
        (cut.not_before, omega (arith, cut.count, all, many, parts.few, own_few))

  -- ---- why it is so

  -- what comes from the peer, where the two began as connected to each other, is read as what it names
  module _ (addr : Addr) (own : ℕ) (h : History C) (at : Addr) (other_own : ℕ) (g : History C)
      (connected : AreConnected w addr own h at other_own g) (high : ℕ) (room : high < start_of h + 2 ^ 30)
      (few : start_of h + length (accepted g) ≤ high)
      (comes : (raw : List ℕ) (packet : Packet) → Contains (arrivals h) (record { addr = at; bytes = raw }) → read raw ≡ Ok packet
      → is_handshake packet ≡ false → destination packet ≡ own → IsEmittedAs w g raw) where
    last-isn : (s : State C) → s.receiving.isn ≡ h.opening.receiving.isn → (state_of w g).sending.isn ≡ s.receiving.isn
    last-isn s isn_is =
        last_isn w g connected.other_begins ∙ sym connected.isn ∙ sym (begins_receiving w h connected.begins) ∙ sym isn_is

    pub peer-below : AllBelow h high
    peer-below s (Arrive from raw) own_same peer_is same_isn stands among =
        let begins = connected.other_begins in
        let starts = connected.same_start in
        let own_is = own_same ∙ connected.own_is in
        let isn_is = last-isn s same_isn in
        let came = λ (from_is : from ≡ s.peer.addr).
        subst (λ (a : Addr). Contains (arrivals h) (record { addr = a; bytes = raw }))
        (from_is ∙ ap (λ (p : Peer). p.addr) peer_is ∙ connected.peer_addr) (among _ (Contains-push [] _)) in
        record {
          places = λ number flags stamp payload offset from_is reads found.
              let is = comes raw (Block number flags stamp s.own payload) (came from_is) reads refl own_is in
              let carries = carries-block w g begins is.emission number flags stamp s.own payload is.among
              (ap read is.same ∙ reads) in
              let named = subst (λ (offsets : List ℕ). Contains offsets carries.offset) (sym carries.names)
              (Contains-push [] carries.offset) in
              let there = block-between w g begins is.emission number flags stamp s.own payload carries.offset is.among
              (ap read is.same ∙ reads) named in
              let same = reads-offset s.receiving.isn (state_of w g).sending.isn s.receiving.top number carries.offset offset
              isn_is carries.numbered (
                omega (arith, there.1, few, starts, room, stands.not_below),
                omega (arith, there.0, starts, room, stands.not_above),
              )
              found in
              omega (arith, same, there.1, few, starts);
          drops = λ message stamp first last range from_is reads taken.
              let is = comes raw (DropAsk message stamp s.own first last) (came from_is) reads refl own_is in
              let ends = names-last w g begins is.emission message stamp s.own first last is.among (ap read is.same ∙ reads) in
              let there = drop-between w g begins is.emission message stamp s.own first last ends.offset is.among
              (ap read is.same ∙ reads) ends.named in
              let same = reads-offset s.receiving.isn (state_of w g).sending.isn s.receiving.top last ends.offset range.last
              isn_is ends.numbered (
                omega (arith, there.1, few, starts, room, stands.not_below),
                omega (arith, there.0, starts, room, stands.not_above),
              )
              (drop_range-is s.receiving first last range taken).last_near in
              omega (arith, same, there.1, few, starts);
        }
    peer-below s act own_same peer_is same_isn stands among = tt

  -- and nothing is brought where no more than handshakes come from it
  pub silent-below : (h : History C) (high : ℕ)
      → ((raw : List ℕ) (packet : Packet) → Contains (arrivals h) (record { addr = h.opening.peer.addr; bytes = raw })
      → read raw ≡ Ok packet → is_handshake packet ≡ false → destination packet ≡ h.opening.own → ⊥) → AllBelow h high
  silent-below h high none s (Arrive from raw) own_is peer_is isn_is stands among =
      let came = λ (from_is : from ≡ s.peer.addr). subst (λ (a : Addr). Contains (arrivals h) (record { addr = a; bytes = raw }))
      (from_is ∙ ap (λ (p : Peer). p.addr) peer_is) (among _ (Contains-push [] _)) in
      record {
        places = λ number flags stamp payload offset from_is reads found.
            absurd (none raw (Block number flags stamp s.own payload) (came from_is) reads refl own_is);
        drops = λ message stamp first last range from_is reads taken.
            absurd (none raw (DropAsk message stamp s.own first last) (came from_is) reads refl own_is);
      }
  silent-below h high none s act own_is peer_is isn_is stands among = tt
