-- Of two message sockets that were made as a pair, and each got from the other alone, the one shows what the other was asked, where
-- that one accepted fewer than 2^30 bytes.
use Rattle.std.proofs.Common.{◌≡◌, ℕ, ◌+◌, ◌^◌, ◌<◌, ◌≤◌, true, List, [], ◌∷◌, length, Ok, ap, ◌∙◌, sym, subst, inl, inr, arith}
use Rattle.std.specs.List.{Contains}
use Rattle.std.proofs.lemmas.List.Elements.{Contains-append_left, Contains-append_right, Contains-push}
use Rattle.udt_model.specs.declared.addresses.Addr.{Addr}
use Rattle.udt_model.specs.declared.answers.Peer.{Peer}
use Rattle.udt_model.specs.declared.packets.Flags.{Flags}
use Rattle.udt_model.specs.Emissions.{emitted, arrived_by_act, arrived_by, arrivals}
use Rattle.udt_model.specs.Events.{Act, Arrive}
use Rattle.udt_model.specs.History.{Item, History, state_of, start_of, accepted}
use Rattle.udt_model.specs.Honest.{IsClose}
use Rattle.udt_model.specs.Rate.{Ways}
use Rattle.udt_model.specs.Records.{Enrolled, IsSocket, ArePaired}
use Rattle.udt_model.specs.State.{State, Datagram, Emission}
use Rattle.udt_model.specs.Step.{step}
use Rattle.udt_model.specs.Wire.{Block, DropAsk, read}
use Rattle.udt_model.proofs.PhaseLemmas.{is_settled}
use Rattle.udt_model.proofs.StepLemmas.{step-keeps}
use Rattle.udt_laws.specs.Laws.{CarriesMessages, ComesFrom, ShowsMessages}
use Rattle.udt_laws.proofs.sockets.Begins.{Begins}
use Rattle.udt_laws.proofs.sockets.Opened.{paired-connected}
use Rattle.udt_laws.proofs.sockets.OneSocket.{paired-back, comes-emitted}
use Rattle.udt_laws.proofs.sent_blocks.AcceptedIsCut.{blocks_by-parts}
use Rattle.udt_laws.proofs.sent_blocks.NamedWasSent.{only-named}
use Rattle.udt_laws.proofs.sent_blocks.SentBlocks.{begins-well, last-cut}
use Rattle.udt_laws.proofs.acked_has_arrived.AckedHasArrived.{below-acks, taken-contained}
use Rattle.udt_laws.proofs.acked_has_arrived.AcksNamePlaced.{HasTaken, all-taken}
use Rattle.udt_laws.proofs.acked_has_arrived.SendsOneAnEvent.{sends-below_accepted}
use Rattle.udt_laws.proofs.delivered_prefix.PeerBlocksAlone.{mates}
use Rattle.udt_laws.proofs.laid_messages.Layout.{LaidMessage}
use Rattle.udt_laws.proofs.laid_messages.LayoutEnds.{laid-below}
use Rattle.udt_laws.proofs.laid_messages.LayoutLemmas.{lies-from, first-covered}
use Rattle.udt_model.proofs.Members.{none-contained, contained-cases}
use Rattle.udt_laws.proofs.laid_messages.KeepsLayout.{MeetsLayout, AllMeetLayout}
use Rattle.udt_laws.proofs.laid_messages.PeerMessagesAlone.{places-laid, drops-laid}
use Rattle.udt_laws.proofs.laid_messages.SentMessages.{payload_of, SendsMessages, sends_messages}
use Rattle.udt_laws.proofs.laid_messages.ShowsAsked.{shows-asked}
use Rattle.udt_laws.proofs.laid_messages.TopStands.{StandsBetween, step-stands}

-- an offset below the limit is close to where the top stands
stands-close : (low limit top offset : ℕ) → limit < low + 2 ^ 30 → StandsBetween low limit top → low ≤ offset → offset < limit → IsClose offset top
stands-close low limit top offset few stands from to =
    (omega (arith, stands.not_below, few, to), omega (arith, stands.not_above, few, from))

-- both ends that are named
pub either-named : (first last offset : ℕ) (offsets : List ℕ) → offsets ≡ first ∷ last ∷ [] → Contains offsets offset → first ≤ last
    → (first ≤ offset) × (offset ≤ last)
either-named first last offset offsets names named order =
    elim (contained-cases first (last ∷ []) offset (subst (λ (l : List ℕ). Contains l offset) names named)) [
      | inl same ↦ (omega (arith, same), omega (arith, same, order))
      | inr later ↦ elim (contained-cases last [] offset later) [
        | inl same ↦ (omega (arith, same, order), omega (arith, same))
        | inr none ↦ absurd (none-contained offset none)
      ]
    ]

module _ {C : Type 0} (w : Ways C) where
  module _ (receiver sender : Enrolled C) (from : Addr) (is_sender : IsSocket w sender) (sends : SendsMessages w sender.history)
      (comes : ComesFrom receiver from sender) (limit : ℕ) (few : limit < start_of sender.history + 2 ^ 30)
      (below : (laid : LaidMessage) → Contains sends.laid laid → laid.message.last < limit) where
    -- where the messages lie
    laid-from : (laid : LaidMessage) → Contains sends.laid laid
        → (start_of sender.history ≤ laid.message.first) × (laid.message.first ≤ laid.message.last)
    laid-from laid among =
        let lies = lies-from (payload_of w sender.history) sends.some (start_of sender.history) sends.laid laid sends.are_laid among in
        (lies.from, (first-covered (payload_of w sender.history) sends.some (start_of sender.history) laid lies).to)

    -- a data packet of the sender names an offset close to where the receiver's top stands
    block-close : (top : ℕ) (emission : Emission) (number : ℕ) (flags : Flags) (stamp dest : ℕ) (payload : List ℕ) (offset : ℕ)
        → StandsBetween (start_of sender.history) limit top → Contains (emitted w sender.history) emission
        → read emission.datagram.bytes ≡ Ok (Block number flags stamp dest payload) → Contains emission.offsets offset → IsClose offset top
    block-close top emission number flags stamp dest payload offset stands among reads named =
        let block = sends.sends emission number flags stamp dest payload among reads in
        let same = only-named emission block.offset offset block.names named in
        let less = below block.block.laid block.block.among in
        stands-close (start_of sender.history) limit top offset few stands (omega (arith, same, block.not_before))
        (omega (arith, same, block.block.to, less))

    drop-close : (top : ℕ) (emission : Emission) (message stamp dest first last offset : ℕ) → StandsBetween (start_of sender.history) limit top
        → Contains (emitted w sender.history) emission → read emission.datagram.bytes ≡ Ok (DropAsk message stamp dest first last)
        → Contains emission.offsets offset → IsClose offset top
    drop-close top emission message stamp dest first last offset stands among reads named =
        let asks = sends.drops emission message stamp dest first last among reads in
        let lies = laid-from asks.laid asks.among in
        let between = either-named asks.laid.message.first asks.laid.message.last offset emission.offsets asks.names named lies.1 in
        stands-close (start_of sender.history) limit top offset few stands (omega (arith, lies.0, between.0))
        (omega (arith, between.1, below asks.laid asks.among))

    -- so what comes from the sender is read as what it is
    act-brings : (s : State C) (act : Act) → s.own ≡ receiver.own → s.peer.addr ≡ from → (state_of w sender.history).sending.isn ≡ s.receiving.isn
        → StandsBetween (start_of sender.history) limit s.receiving.top
        → ((datagram : Datagram) → Contains (arrived_by_act act) datagram → Contains (arrivals receiver.history) datagram)
        → MeetsLayout (payload_of w sender.history) sends.laid s act
    act-brings s (Arrive sender_addr bytes) own_is addr_is isn_is stands among =
        let came = λ (from_is : sender_addr ≡ s.peer.addr). subst (λ (a : Addr). Contains (arrivals receiver.history) (record { addr = a; bytes = bytes }))
        (from_is ∙ addr_is) (among _ (Contains-push [] _)) in
        record {
          places = λ number flags stamp payload offset from_is reads found.
              let is = comes-emitted w receiver from sender is_sender comes bytes (Block number flags stamp s.own payload) (came from_is) reads own_is in
              places-laid w sender.history sends s.receiving bytes payload number stamp s.own offset flags isn_is (record {
                emission = is.emission;
                among = is.among;
                same = is.same;
                close = λ n named. block-close s.receiving.top is.emission number flags stamp s.own payload n stands is.among (ap read is.same ∙ reads) named;
              }) reads found;
          drops = λ message stamp first last range from_is reads taken.
              let is = comes-emitted w receiver from sender is_sender comes bytes (DropAsk message stamp s.own first last) (came from_is) reads own_is in
              drops-laid w sender.history sends s.receiving bytes message stamp s.own first last range isn_is (record {
                emission = is.emission;
                among = is.among;
                same = is.same;
                close = λ n named. drop-close s.receiving.top is.emission message stamp s.own first last n stands is.among (ap read is.same ∙ reads) named;
              }) reads taken;
        }
    act-brings s act own_is addr_is isn_is stands among = tt

    all-brought : (s : State C) (items : List Item) → is_settled s.phase ≡ true → s.own ≡ receiver.own → s.peer.addr ≡ from
        → (state_of w sender.history).sending.isn ≡ s.receiving.isn → StandsBetween (start_of sender.history) limit s.receiving.top
        → ((datagram : Datagram) → Contains (arrived_by items) datagram → Contains (arrivals receiver.history) datagram)
        → AllMeetLayout (payload_of w sender.history) sends.laid w s items
    unfolding arrived_by
    all-brought s [] settled own_is addr_is isn_is stands among = tt
    all-brought s (item ∷ items) settled own_is addr_is isn_is stands among =
        let same = step-keeps w s item.event settled in
        let meets = act-brings s item.event.act own_is addr_is isn_is stands (λ datagram h. among datagram (Contains-append_left _ _ datagram h)) in (
          meets,
          all-brought (step w s item.event).after items (same.settled settled) (same.own ∙ own_is) (ap (λ (p : Peer). p.addr) same.peer ∙ addr_is)
              (isn_is ∙ sym same.receiving.isn)
              (step-stands (start_of sender.history) limit w (payload_of w sender.history) sends.laid below s item.event meets stands)
              (λ datagram h. among datagram (Contains-append_right _ _ datagram h)),
        )

  -- no message ends past as many offsets as bytes were accepted
  pub laid-within : (h : History C) → Begins w h → (sends : SendsMessages w h) → (laid : LaidMessage)
      → Contains sends.laid laid → laid.message.last < start_of h + length (accepted h)
  laid-within h begins sends laid among =
      let cut = last-cut w h begins in
      let well = begins-well w h begins in
      let parts = blocks_by-parts w h.opening h.items well.settled begins.legal well.cut.payload in
      omega (arith, laid-below (payload_of w h) (start_of h) sends.laid laid sends.are_laid among, sends.ends, cut.count, parts.few)

  pub pair-messages : (addr other_addr : Addr) (socket other : Enrolled C) → IsSocket w socket → IsSocket w other
      → ArePaired addr socket.own socket.way other_addr other.own other.way → CarriesMessages socket.history
      → ComesFrom socket other_addr other → ComesFrom other addr socket → length (accepted other.history) < 2 ^ 30
      → ShowsMessages w socket.history other.history
  pair-messages addr other_addr socket other is_socket is_other paired carries comes back_comes few =
      let h = socket.history in
      let g = other.history in
      let limit = start_of g + length (accepted g) in
      let connected = paired-connected w addr socket other_addr other is_socket is_other paired in
      let sends = sends_messages w g connected.other_begins (connected.same_kind ∙ carries) in
      let are = mates w addr socket.own h other_addr other.own g connected in
      let acks = below-acks w other_addr addr other socket (HasTaken w h) limit is_other is_socket
      (paired-back addr socket.own socket.way other_addr other.own other.way paired) (all-taken w h) back_comes (omega (arith, few))
      (sends-below_accepted w g connected.other_begins) in
      shows-asked w h g connected.begins carries sends
      (all-brought socket other other_addr is_other sends comes limit (omega (arith, few)) (laid-within g connected.other_begins sends) h.opening h.items
      are.settled are.own_is are.peer_addr are.same_isn
      (record {
        not_below = omega (arith, are.same_start, are.stands.not_below, are.stands.base);
        not_above = omega (arith, are.same_start, are.stands.not_above);
      }) (λ datagram among. among))
      (taken-contained w g h acks)
