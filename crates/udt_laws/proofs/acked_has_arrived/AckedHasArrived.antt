-- What is acknowledged of a socket was placed or dropped at its peer: of a stream, no more blocks than have arrived there.
use Rattle.std.proofs.Common.{◌≡◌, ℕ, ◌+◌, ◌^◌, ◌<◌, ◌≤◌, true, List, [], ◌∷◌, ◌++◌, length, Ok, refl, ap, ◌∙◌, sym, subst, inl, inr, arith}
use Rattle.std.specs.Prelude.{◌==◌}
use Rattle.std.specs.List.{Contains}
use Rattle.std.proofs.lemmas.Bool.{eqb-true, or_cases}
use Rattle.std.proofs.lemmas.Option.{same_Some}
use Rattle.std.proofs.lemmas.List.Elements.{Contains-append_left, Contains-append_right, Contains-push}
use Rattle.udt_model.specs.declared.packets.Kind.TheVariants.{Stream}
use Rattle.udt_model.specs.declared.addresses.Addr.{Addr}
use Rattle.udt_model.specs.declared.answers.Peer.{Peer}
use Rattle.udt_model.specs.declared.packets.AckBody.{AckBody}
use Rattle.udt_model.specs.Numbers.{sequence_number}
use Rattle.udt_model.specs.Wire.{Ack, read}
use Rattle.udt_model.specs.Rate.{Ways}
use Rattle.udt_model.specs.State.{State, Datagram, Emission}
use Rattle.udt_model.specs.SendReports.{acked_number}
use Rattle.udt_model.specs.Step.{step}
use Rattle.udt_model.specs.Events.{Act, Arrive}
use Rattle.udt_model.specs.History.{Item, History, start_of, acked, arrived, placed_offsets, dropped_offsets}
use Rattle.udt_model.specs.Records.{Enrolled, IsSocket, EndpointRecord, ArePaired}
use Rattle.udt_model.specs.Emissions.{sent, arrived_by_act, arrived_by, arrivals}
use Rattle.udt_model.specs.Honest.{IsHonestAct, AreHonest}
use Rattle.udt_model.proofs.NearLemmas.{near-found, near-is}
use Rattle.udt_model.proofs.PhaseLemmas.{is_settled}
use Rattle.udt_model.proofs.StepLemmas.{step-keeps}
use Rattle.udt_laws.specs.Laws.{ComesFrom, PairArrived}
use Rattle.udt_laws.proofs.sockets.Opened.{AreConnected, paired-connected}
use Rattle.udt_laws.proofs.sockets.OneSocket.{comes-emitted, ComesNear}
use Rattle.udt_laws.proofs.acked_has_arrived.AcksNamePlaced.{TellsOf, HasPlaced, HasTaken, stream-placed, all-taken}
use Rattle.udt_laws.proofs.acked_has_arrived.AckedWasNamed.{AcksAct, AllAck, items-acked}
use Rattle.udt_laws.proofs.acked_has_arrived.SendsOneAnEvent.{SendsBelow, sends-below_sent, sends-below_events}
use Rattle.udt_laws.proofs.acked_has_arrived.PeerAcksAlone.{AreAckMates, ack-mates, AcksOnly, all-arrived}
use Rattle.udt_laws.proofs.acked_has_arrived.CountsWithoutGap.{IsAmong, AllBetween}
use Rattle.udt_laws.proofs.acked_has_arrived.EventsPlace.{ItemsMeet}

-- an offset that was sent is none above another with its sequence number, where fewer than 2^30 were sent
not-above : (isn start number offset named_ack : ℕ) → sequence_number isn offset ≡ number → sequence_number isn named_ack ≡ number → start ≤ named_ack
    → offset < start + 2 ^ 30 → offset ≤ named_ack
not-above isn start number offset named_ack is told_is low few = omega arith

-- what is among some offsets is contained in them
among-contained : (offset : ℕ) (offsets : List ℕ) → IsAmong offset offsets → Contains offsets offset
among-contained offset [] among = absurd (cc)
among-contained offset (first ∷ others) among = elim (or_cases (first == offset) _ among) [
  | inl here ↦ subst (λ (n : ℕ). Contains (n ∷ others) offset) (sym (eqb-true first offset here))
      (Contains-append_left (offset ∷ []) others offset (Contains-push [] offset))
  | inr later ↦ Contains-append_right (first ∷ []) others offset (among-contained offset others later)
]

module _ {C : Type 0} (w : Ways C) where
  -- nothing counts as acknowledged at first
  begins-acked : (P : ℕ → Type 0) (h g : History C) → start_of g ≡ start_of h → AllBetween P (start_of g) (start_of h)
  begins-acked P h g same_start n low high = absurd (omega (arith, low, high, same_start))

  -- what counts as acknowledged was placed or dropped, where all of that was
  pub taken-contained : (h g : History C) → AcksOnly w (HasTaken w g) h g → (offset : ℕ) → start_of h ≤ offset → offset < start_of h + acked w h
      → Contains (placed_offsets w g ++ dropped_offsets w g) offset
  taken-contained h g acks offset low high =
      among-contained offset (placed_offsets w g ++ dropped_offsets w g)
      (acks.all offset (omega (arith, acks.same_start, low)) (omega (arith, low, high)))

  -- ---- where records are lawful and honest

  module _ (net : List (EndpointRecord C)) (addr other_addr : Addr) (own other_own : ℕ) (h g : History C)
      (comes : ComesNear w net addr own other_addr g) (P : ℕ → Type 0) (are : AreAckMates w P addr own h other_addr other_own g) where
    -- all below this offset meets it
    abbrev AllBelow : ℕ → Type 0
    AllBelow offset = AllBetween P (start_of g) offset

    act-acks : (s : State C) (act : Act) → s.own ≡ own → s.peer.addr ≡ other_addr → s.sending.isn ≡ h.opening.sending.isn
        → IsHonestAct w net addr s act → AcksAct AllBelow s act
    act-acks s (Arrive from bytes) own_is addr_is isn_is was = λ number stamp body offset from_is reads at.
        let near = comes s from bytes (Ack number stamp s.own body) (from_is ∙ addr_is) was reads refl own_is in
        let tells = are.tells near.emission number stamp s.own body near.among (ap read near.same ∙ reads) in
        let close = near.close tells.offset (subst (λ (offsets : List ℕ). Contains offsets tells.offset) (sym tells.names) (Contains-push [] tells.offset)) in
        let carries : sequence_number s.sending.isn tells.offset ≡ acked_number body =
        ap (λ (isn : ℕ). sequence_number isn tells.offset) (isn_is ∙ sym are.same_isn) ∙ tells.numbered in
        let there = near-is s.sending.isn s.sending.blocks.first (acked_number body) tells.offset
        (record { carries = carries; not_above = close.0; not_below = close.1 }) in
        let is : tells.offset ≡ offset = same_Some _ _ (sym there ∙ at.is_near) in
        subst AllBelow is tells.all
    act-acks s act own_is addr_is isn_is honest = tt

    items-ack : (s : State C) (items : List Item) → is_settled s.phase ≡ true → s.own ≡ own → s.peer.addr ≡ other_addr
        → s.sending.isn ≡ h.opening.sending.isn → AreHonest w net addr s items → AllAck w AllBelow s items
    unfolding AreHonest
    items-ack s [] settled own_is addr_is isn_is honest = tt
    items-ack s (item ∷ items) settled own_is addr_is isn_is honest =
        let same = step-keeps w s item.event settled in (
          act-acks s item.event.act own_is addr_is isn_is honest.0,
          items-ack (step w s item.event).after items (same.settled settled) (same.own ∙ own_is)
              (ap (λ (p : Peer). p.addr) same.peer ∙ addr_is) (same.sending.isn ∙ isn_is) honest.1,
        )

  -- of two histories that begin as connected to each other, whatever the one counts as acknowledged meets what all that the other
  -- places and drops meets
  pub acknowledged-meets : (net : List (EndpointRecord C)) (addr : Addr) (own : ℕ) (h : History C) (other_addr : Addr) (other_own : ℕ) (g : History C)
      (P : ℕ → Type 0) → AreConnected w addr own h other_addr other_own g → ComesNear w net addr own other_addr g
      → AreHonest w net addr h.opening h.items → ItemsMeet w P g.opening g.items → AcksOnly w P h g
  acknowledged-meets net addr own h other_addr other_own g P connected comes honest meet =
      let are = ack-mates w P addr own h other_addr other_own g connected meet in
      record {
        same_start = are.same_start;
        all = items-acked w (AllBetween P (start_of g)) h.opening h.items
            (items-ack net addr other_addr own other_own h g comes P are h.opening h.items are.settled are.own_is are.peer_addr refl honest)
            (begins-acked P h g are.same_start);
      }

  pub prefix-arrived : (net : List (EndpointRecord C)) (addr : Addr) (own : ℕ) (h : History C) (peer_addr : Addr) (peer_own : ℕ) (g : History C)
      → AreConnected w addr own h peer_addr peer_own g → ComesNear w net addr own peer_addr g → AreHonest w net addr h.opening h.items
      → h.opening.kind ≡ Stream → acked w h ≤ arrived w g
  prefix-arrived net addr own h peer_addr peer_own g connected comes honest stream =
      all-arrived w h g
      (acknowledged-meets net addr own h peer_addr peer_own g (HasPlaced w g) connected comes honest
      (stream-placed w g (connected.same_kind ∙ stream)))

  -- of sockets of any kind: what the one counts as acknowledged was placed at the other, or dropped there
  pub acked-arrived-or-dropped : (net : List (EndpointRecord C)) (addr : Addr) (own : ℕ) (h : History C) (peer_addr : Addr) (peer_own : ℕ) (g : History C)
      → AreConnected w addr own h peer_addr peer_own g → ComesNear w net addr own peer_addr g → AreHonest w net addr h.opening h.items
      → (offset : ℕ) → start_of h ≤ offset → offset < start_of h + acked w h → Contains (placed_offsets w g ++ dropped_offsets w g) offset
  acked-arrived-or-dropped net addr own h peer_addr peer_own g connected comes honest offset low high =
      taken-contained h g
      (acknowledged-meets net addr own h peer_addr peer_own g (HasTaken w g) connected comes honest (all-taken w g)) offset low high

  -- ---- where two sockets were made as a pair

  module _ (addr from : Addr) (socket other : Enrolled C) (in_range : IsSocket w other) (comes : ComesFrom socket from other) (P : ℕ → Type 0)
      (are : AreAckMates w P addr socket.own socket.history from other.own other.history) (high : ℕ) (few : high < start_of socket.history + 2 ^ 30) where
    -- an acknowledgement that came from there tells of what it names there
    came-named_ack : (bytes : List ℕ) (number stamp : ℕ) (body : AckBody) → Contains (arrivals socket.history) (record { addr = from; bytes = bytes })
        → read bytes ≡ Ok (Ack number stamp socket.own body)
        → (emission : Emission) × TellsOf P (start_of other.history) other.history.opening.receiving.isn emission (acked_number body)
    came-named_ack bytes number stamp body among reads =
        let is = comes-emitted w socket from other in_range comes bytes (Ack number stamp socket.own body) among reads refl in
        (is.emission, are.tells is.emission number stamp socket.own body is.among (ap read is.same ∙ reads))

    act-below : (s : State C) (act : Act) → s.own ≡ socket.own → s.peer.addr ≡ from → s.sending.isn ≡ socket.history.opening.sending.isn → s.sending.next ≤ high
        → ((datagram : Datagram) → Contains (arrived_by_act act) datagram → Contains (arrivals socket.history) datagram)
        → AcksAct (AllBetween P (start_of other.history)) s act
    act-below s (Arrive sender bytes) own_is addr_is isn_is below among = λ number stamp body offset from_is reads at.
        let came_in = subst (λ (a : Addr). Contains (arrivals socket.history) (record { addr = a; bytes = bytes })) (from_is ∙ addr_is)
        (among _ (Contains-push [] _)) in
        let tells = (came-named_ack bytes number stamp body came_in (subst (λ (id : ℕ). read bytes ≡ Ok (Ack number stamp id body)) own_is reads)).1 in
        let carries = subst (λ (isn : ℕ). sequence_number isn tells.offset ≡ acked_number body) (are.same_isn ∙ sym isn_is) tells.numbered in
        let found = near-found s.sending.isn s.sending.blocks.first (acked_number body) offset at.is_near in
        let fits = not-above s.sending.isn (start_of other.history) (acked_number body) offset tells.offset found.carries carries tells.not_before
        (omega (arith, at.not_above, below, few, are.same_start)) in
        λ n low less. tells.all n low (omega (arith, less, fits))
    act-below s act own_is addr_is isn_is below among = tt

    items-below : (s : State C) (items : List Item) → is_settled s.phase ≡ true → s.own ≡ socket.own → s.peer.addr ≡ from → s.sending.isn ≡ socket.history.opening.sending.isn
        → SendsBelow w high s items
        → ((datagram : Datagram) → Contains (arrived_by items) datagram → Contains (arrivals socket.history) datagram)
        → AllAck w (AllBetween P (start_of other.history)) s items
    unfolding arrived_by
    items-below s [] settled own_is addr_is isn_is below among = tt
    items-below s (item ∷ items) settled own_is addr_is isn_is below among =
        let same = step-keeps w s item.event settled in (
          act-below s item.event.act own_is addr_is isn_is below.0 (λ datagram h. among datagram (Contains-append_left _ _ datagram h)),
          items-below (step w s item.event).after items (same.settled settled) (same.own ∙ own_is) (ap (λ (p : Peer). p.addr) same.peer ∙ addr_is)
              (same.sending.isn ∙ isn_is) below.1 (λ datagram h. among datagram (Contains-append_right _ _ datagram h)),
        )

  -- of two sockets that were made as a pair, as long as the one has sent no block from this offset on
  pub below-acks : (addr peer_addr : Addr) (socket other : Enrolled C) (P : ℕ → Type 0) (high : ℕ) → IsSocket w socket → IsSocket w other
      → ArePaired addr socket.own socket.way peer_addr other.own other.way → ItemsMeet w P other.history.opening other.history.items
      → ComesFrom socket peer_addr other → high < start_of socket.history + 2 ^ 30 → SendsBelow w high socket.history.opening socket.history.items
      → AcksOnly w P socket.history other.history
  below-acks addr peer_addr socket other P high is_socket is_other paired meet comes few below =
      let h = socket.history in
      let g = other.history in
      let are = ack-mates w P addr socket.own h peer_addr other.own g
      (paired-connected w addr socket peer_addr other is_socket is_other paired) meet in
      record {
        same_start = are.same_start;
        all = items-acked w (AllBetween P (start_of g)) h.opening h.items
            (items-below addr peer_addr socket other is_other comes P are high few h.opening h.items are.settled are.own_is are.peer_addr refl below
            (λ datagram among. among))
            (begins-acked P h g are.same_start);
      }

  below-arrived : (addr peer_addr : Addr) (socket other : Enrolled C) (high : ℕ) → IsSocket w socket → IsSocket w other
      → ArePaired addr socket.own socket.way peer_addr other.own other.way → socket.history.opening.kind ≡ Stream
      → ComesFrom socket peer_addr other → high < start_of socket.history + 2 ^ 30 → SendsBelow w high socket.history.opening socket.history.items
      → acked w socket.history ≤ arrived w other.history
  below-arrived addr peer_addr socket other high is_socket is_other paired stream comes few below =
      let h = socket.history in
      let g = other.history in
      let other_stream = (paired-connected w addr socket peer_addr other is_socket is_other paired).same_kind ∙ stream in
      all-arrived w h g
      (below-acks addr peer_addr socket other (HasPlaced w g) high is_socket is_other paired (stream-placed w g other_stream) comes few below)

  -- it sends one block a datagram at most
  pub pair-arrived : PairArrived w
  pair-arrived addr peer_addr socket other is_socket is_other paired stream comes few =
      let h = socket.history in
      below-arrived addr peer_addr socket other (start_of h + length (sent h)) is_socket is_other paired stream comes (omega (arith, few))
      (sends-below_sent w h (paired-connected w addr socket peer_addr other is_socket is_other paired).begins stream)

  -- and one an event at most
  pub events-arrived : (addr peer_addr : Addr) (socket other : Enrolled C) → IsSocket w socket → IsSocket w other
      → ArePaired addr socket.own socket.way peer_addr other.own other.way → socket.history.opening.kind ≡ Stream → ComesFrom socket peer_addr other
      → length socket.history.items < 2 ^ 30 → acked w socket.history ≤ arrived w other.history
  events-arrived addr peer_addr socket other is_socket is_other paired stream comes few =
      let h = socket.history in
      below-arrived addr peer_addr socket other (start_of h + length h.items) is_socket is_other paired stream comes (omega (arith, few))
      (sends-below_events w h (paired-connected w addr socket peer_addr other is_socket is_other paired).begins stream)
