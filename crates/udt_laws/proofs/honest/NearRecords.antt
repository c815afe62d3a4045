-- Lawful records are honest where each arrival was emitted at its address for the socket, and no socket took 2^30 bytes.
use Rattle.std.proofs.Common.{◌≡◌, ℕ, ◌+◌, ◌^◌, ◌<◌, ◌≤◌, true, false, List, [], ◌∷◌, ◌++◌, Some, Ok, length, refl, ap, ◌∙◌, sym}
use Rattle.std.proofs.Common.{subst, inl, inr, arith}
use Rattle.std.specs.List.{Contains}
use Rattle.std.specs.Prelude.{None}
use Rattle.udt_model.specs.declared.addresses.Addr.{Addr}
use Rattle.udt_model.specs.declared.answers.Peer.{Peer}
use Rattle.udt_model.specs.Emissions.{emitted, arrivals}
use Rattle.udt_model.specs.Events.{Act, Arrive, Reply}
use Rattle.udt_model.specs.History.{Item, after_items, state_of, start_of, accepted}
use Rattle.udt_model.specs.Honest.{IsClose, read_by, WasEmitted, IsHonestAct, AreHonest, IsHonest}
use Rattle.udt_model.specs.Rate.{Ways}
use Rattle.udt_model.specs.Records.{Enrolled, IsSocket, EndpointRecord, StandsAt, own_peer, AreLawful}
use Rattle.udt_model.specs.SendHalf.{acked_of}
use Rattle.udt_model.specs.State.{State, Datagram, Emission}
use Rattle.udt_model.specs.Step.{step}
use Rattle.udt_model.specs.Wire.{Packet, Ack, Nak, is_handshake, destination, read}
use Rattle.udt_model.proofs.EmissionLemmas.{Emitting, SendsHandshake}
use Rattle.udt_model.proofs.SettlingLemmas.{IsHandshake}
use Rattle.udt_laws.proofs.adoption.Agreement.{connects-part, starts-as_peer, parts-connected}
use Rattle.udt_laws.proofs.adoption.NamesBack.{names-back, named-by}
use Rattle.udt_laws.proofs.adoption.PeersMeet.{names-so, Connects, IsIdle, stands-socket, stands-connects}
use Rattle.udt_laws.proofs.sent_blocks.EmissionsRead.{packet_of}
use Rattle.udt_laws.proofs.sent_blocks.SentBlocks.{same-packet, emission-at, emission-reads}
use Rattle.udt_laws.proofs.honest.StandsNearPeer.{AllBelow, top-after, all-between, acked-between, peer-below, silent-below}
use Rattle.udt_laws.proofs.pairs.PairIsHonest.{none-named, both-close, datagram-is}
use Rattle.udt_laws.proofs.sockets.Begins.{last_peer}
use Rattle.udt_laws.proofs.sockets.ConnectedParts.{ConnectedPart, NeverConnected, begins_unlinked, socket-parts, socket-own}
use Rattle.udt_laws.proofs.sockets.ConnectedParts.{part-emitted, never-emits}
use Rattle.udt_laws.proofs.sockets.IdleFronts.{front-idle, unlinked-uncontrolled}
use Rattle.udt_laws.proofs.sockets.OneSocket.{IsEmittedAs, packet-bound, same-socket, same-peer}
use Rattle.udt_laws.proofs.sockets.Opened.{AreConnected, connected-back}
use Rattle.udt_laws.proofs.sockets.WasSaid.{datagram_from, arrives-at, WasSaid, AllSaid, said-bound}

abbrev LiesBetween : ℕ → ℕ → ℕ → Type 0
LiesBetween low high offset = (low ≤ offset) × (offset ≤ high)

module _ {C : Type 0} (w : Ways C) where
  -- what arrives was emitted, and bound for the socket if it isn't a handshake, and no socket took more bytes than this
  pub record AreNear (net : List (EndpointRecord C)) (most : ℕ) : Type 0 where
    pub said : AllSaid w net
    pub bound : (addr : Addr) (socket : Enrolled C) → StandsAt net addr socket → (datagram : Datagram)
        → Contains (arrivals socket.history) datagram → (packet : Packet) → read datagram.bytes ≡ Ok packet
        → is_handshake packet ≡ false → destination packet ≡ socket.own
    pub taken : (addr : Addr) (socket : Enrolled C) → StandsAt net addr socket → length (accepted socket.history) ≤ most

  -- the offset by which a packet is read lies where the top and the first offset that isn't acknowledged do
  read-between : (s : State C) (packet : Packet) (low high : ℕ) → LiesBetween low high s.receiving.top
      → LiesBetween low high (acked_of s.sending) → LiesBetween low high (read_by s packet)
  read-between s (Ack number stamp dest body) low high top first = first
  read-between s (Nak stamp dest ranges) low high top first = first
  read-between s _ low high top first = top

  -- a handshake names no offset
  kind-names_none : (s : State C) (act : Act) (reply : Reply) (emission : Emission) (x : Emitting w s act reply emission)
      (offset : ℕ)
      → is_handshake (packet_of w s act reply emission x) ≡ true → Contains emission.offsets offset → ⊥
  kind-names_none s act reply emission (SendsHandshake to dest shake sends is) offset shakes named =
      none-named offset (subst (λ (l : List ℕ). Contains l offset) (ap (λ (e : Emission). e.offsets) is) named)
  kind-names_none s act reply emission _ offset shakes named = cc

  is-names_none : (emission : Emission) (offset : ℕ) → IsHandshake emission → Contains emission.offsets offset → ⊥
  is-names_none emission offset shakes named =
      none-named offset (subst (λ (l : List ℕ). Contains l offset) (ap (λ (e : Emission). e.offsets) shakes.is) named)

  shake-names_none : (socket : Enrolled C) → IsSocket w socket → (emission : Emission) (packet : Packet) (offset : ℕ)
      → Contains (emitted w socket.history) emission → read emission.datagram.bytes ≡ Ok packet → is_handshake packet ≡ true
      → Contains emission.offsets offset → ⊥
  shake-names_none socket is emission packet offset among reads shakes named = elim (socket-parts w socket is) [
    | inl never ↦ is-names_none emission offset (never.quiet.emitted emission among) named
    | inr since ↦ elim (since.goes_on.emitted emission among) [
      | inl shake ↦ is-names_none emission offset shake named
      | inr later ↦
          let at = emission-at w since.part since.begins emission later in
          let spelled = emission-reads w since.part since.begins emission at in
          let same = same-packet emission.datagram.bytes _ packet spelled.reads reads in
          kind-names_none _ _ _ emission at.emitting offset (ap is_handshake same ∙ shakes) named
    ]
  ]

  module _ (net : List (EndpointRecord C)) (addr : Addr) where
    act-honest : (s : State C) (act : Act)
        → ((from : Addr) (raw : List ℕ) → act ≡ Arrive from raw → WasEmitted w net s from addr raw)
        → IsHonestAct w net addr s act
    act-honest s (Arrive from raw) was = was from raw refl
    act-honest s act was = tt

    -- items are honest where each of their arrivals was emitted near the state in which it comes
    items-honest : (s : State C) (items : List Item)
        → ((front : List Item) (item : Item) (rest : List Item) (from : Addr) (raw : List ℕ) → items ≡ front ++ item ∷ rest
        → item.event.act ≡ Arrive from raw → WasEmitted w net (after_items w s front) from addr raw)
        → AreHonest w net addr s items
    unfolding AreHonest after_items
    items-honest s [] was = tt
    items-honest s (item ∷ items) was = (
      act-honest s item.event.act (λ from raw arrives. was [] item items from raw refl arrives),
      items-honest (step w s item.event).after items (λ front next rest from raw joined arrives.
          was (item ∷ front) next rest from raw (ap (λ (l : List Item). item ∷ l) joined) arrives),
    )

  module _ (net : List (EndpointRecord C)) (most : ℕ) (lawful : AreLawful w net) (few : most < 2 ^ 30)
      (near : AreNear net most) where
    -- what is no handshake and arrives from the address of a socket that has this one as its peer was emitted since
    -- that was connected
    comes-since : (addr : Addr) (socket : Enrolled C) (here : StandsAt net addr socket) (from : Addr) (other : Enrolled C)
        (there : StandsAt net from other) → own_peer w other.history ≡ Some (record { addr = addr; id = socket.own })
        → (since : ConnectedPart w socket.history) (other_since : ConnectedPart w other.history) (raw : List ℕ) (packet : Packet)
        → Contains (arrivals since.part) (record { addr = from; bytes = raw }) → read raw ≡ Ok packet
        → is_handshake packet ≡ false
        → destination packet ≡ socket.own → IsEmittedAs w other_since.part raw
    comes-since addr socket here from other there back since other_since raw packet among reads plain own_is =
        let was = near.said addr socket here _ (since.goes_on.arrived _ among) in
        let bound = said-bound w net lawful from addr raw was packet reads (packet-bound packet plain) in
        let names = subst (λ (id : ℕ). own_peer w was.socket.history ≡ Some (record { addr = addr; id = id })) own_is bound in
        let same = same-peer w net lawful from was.socket other _ was.stands there names back in
        record {
          emission = was.emission;
          among = part-emitted w other.history other_since was.emission packet
              (subst (λ (x : Enrolled C). Contains (emitted w x.history) was.emission) same was.emits)
              (ap read was.same ∙ reads) plain;
          same = was.same;
        }

    module _ (addr : Addr) (socket : Enrolled C) (here : StandsAt net addr socket) (from : Addr) (other : Enrolled C)
        (there : StandsAt net from other) (back : own_peer w other.history ≡ Some (record { addr = addr; id = socket.own }))
        (since : ConnectedPart w socket.history) (other_since : ConnectedPart w other.history)
        (connected : AreConnected w addr socket.own since.part from other.own other_since.part) where
      abbrev high : ℕ
      high = start_of socket.history + most

      own-few : start_of since.part + length (accepted since.part) ≤ high
      own-few = omega (arith, since.same_start, near.taken addr socket here, ap length since.goes_on.accepted)

      below : AllBelow w since.part high
      below = peer-below w addr socket.own since.part from other.own other_since.part connected high
          (omega (arith, since.same_start, few))
          (omega (arith, since.same_start, near.taken from other there, ap length other_since.goes_on.accepted))
          (comes-since addr socket here from other there back since other_since)

      -- what a socket since it was connected names lies between these, where its own peer has it
      names-near : (emission : Emission) (offset : ℕ) → Contains (emitted w since.part) emission
          → Contains emission.offsets offset
          → LiesBetween (start_of socket.history) high offset
      names-near emission offset among named =
          let between = all-between w since.part since.begins high own-few below emission offset among named in
          (omega (arith, between.0, since.same_start), between.1)

      -- before each of its items it stands there
      state-near : (front rest : List Item) → socket.history.items ≡ front ++ rest
          → LiesBetween (start_of socket.history) high (after_items w socket.history.opening front).receiving.top
          × LiesBetween (start_of socket.history) high (acked_of (after_items w socket.history.opening front).sending)
      state-near front rest joined = elim (since.fronts front rest joined) [
        | inl idle ↦ (
          (omega (arith, idle.top), omega (arith, idle.top)),
          (omega (arith, idle.first), omega (arith, idle.first)),
        )
        | inr at ↦
            let top = top-after w since.part since.begins high own-few below at.front at.rest at.joined in
            let first = acked-between w since.part since.begins high own-few below at.front at.rest at.joined in
            let top_is = ap (λ (s : State C). s.receiving.top) at.leads in
            let first_is = ap (λ (s : State C). acked_of s.sending) at.leads in
            let start = since.same_start in (
              (omega (arith, top.not_below, top_is, start), omega (arith, top.not_above, top_is)),
              (omega (arith, first.0, first_is, start), omega (arith, first.1, first_is)),
            )
      ]

    -- no more than handshakes come to a connected socket from its own peer, where that was never connected
    idle-silent : (addr : Addr) (socket : Enrolled C) (here : StandsAt net addr socket) → NeverConnected w socket.history
        → (from : Addr) (other : Enrolled C) (there : StandsAt net from other)
        → own_peer w other.history ≡ Some (record { addr = addr; id = socket.own }) → Connects w net there.endpoint other
        → (raw : List ℕ) (packet : Packet) → Contains (arrivals other.history) (datagram_from addr raw)
        → read raw ≡ Ok packet → is_handshake packet ≡ false → destination packet ≡ other.own → ⊥
    idle-silent addr socket here never from other there back theirs raw packet among reads plain own_is =
        let was = near.said from other there (datagram_from addr raw) among in
        let names = subst (λ (id : ℕ). own_peer w was.socket.history ≡ Some (record { addr = from; id = id })) own_is
        (said-bound w net lawful addr from raw was packet reads (packet-bound packet plain)) in
        elim (stands-connects w net lawful addr was.socket was.stands) [
          | inl idle ↦ never-emits w was.socket.history idle.never was.emission packet was.emits (ap read was.same ∙ reads) plain
          | inr mine ↦
              let own = named-by w net lawful near.said from other there addr socket.own was.socket was.stands back
              names theirs mine in
              let same = same-socket w net lawful addr was.socket socket was.stands here own in
              never-emits w socket.history never was.emission packet
              (subst (λ (x : Enrolled C). Contains (emitted w x.history) was.emission) same was.emits)
              (ap read was.same ∙ reads) plain
        ]

    -- so what it emits lies near where this one stands, which is where both begin
    idle-near : (addr : Addr) (socket : Enrolled C) (here : StandsAt net addr socket) → IsIdle w socket
        → (front rest : List Item) → socket.history.items ≡ front ++ rest
        → (from : Addr) (other : Enrolled C) (there : StandsAt net from other)
        → own_peer w other.history ≡ Some (record { addr = addr; id = socket.own }) → Connects w net there.endpoint other
        → (emission : Emission) (packet : Packet) (offset : ℕ) → Contains (emitted w other.history) emission
        → read emission.datagram.bytes ≡ Ok packet → is_handshake packet ≡ false → Contains emission.offsets offset
        → IsClose offset (read_by (after_items w socket.history.opening front) packet)
    idle-near addr socket here idle front rest joined from other there back theirs emission packet offset among
        reads plain named =
        let h = socket.history in
        let never = idle.never in
        let legal = (stands-socket w net lawful addr socket here).legal in
        let begun = begins_unlinked w socket.own idle.isn idle.config idle.now h idle.in_range idle.opens legal in
        let last = subst (λ (l : List Item). (after_items w h.opening l).sending.control ≡ None) joined
        (unlinked-uncontrolled w never.config 0 (state_of w h) never.still) in
        let state = front-idle w idle.config 0 h.opening front rest begun last in
        let since = connects-part w net lawful from other there theirs in
        let so = names-so w other.history (record { addr = addr; id = socket.own }) back in
        let peer_is = sym (last_peer w since.part since.begins) ∙ ap (λ (s : State C). s.peer) (sym since.goes_on.ends) in
        let own_is = since.name.own ∙ socket-own w other (stands-socket w net lawful from other there) in
        let none = λ (raw : List ℕ) (it : Packet)
        (came : Contains (arrivals since.part) (datagram_from since.part.opening.peer.addr raw))
        (reads_it : read raw ≡ Ok it) (plain_it : is_handshake it ≡ false) (bound : destination it ≡ since.part.opening.own).
        idle-silent addr socket here never from other there back theirs raw it
        (subst (λ (a : Addr). Contains (arrivals other.history) (datagram_from a raw))
        (ap (λ (p : Peer). p.addr) peer_is ∙ so.addr_is) (since.goes_on.arrived _ came)) reads_it plain_it (bound ∙ own_is) in
        let start = starts-as_peer w net lawful near.said from other there addr socket here back never.begun theirs in
        let same = since.same_start in
        let taken = near.taken from other there in
        let between = all-between w since.part since.begins most
        (omega (arith, start, same, taken, ap length since.goes_on.accepted))
        (silent-below w since.part most none) emission offset
        (part-emitted w other.history since emission packet among reads plain) named in
        let at = read-between (after_items w h.opening front) packet 0 most
        (omega (arith, state.top), omega (arith, state.top)) (omega (arith, state.first), omega (arith, state.first)) in
        both-close 0 most offset _ (omega (arith, few)) (omega (arith, between.0)) between.1 at.0 at.1

    plain-near : (addr : Addr) (socket : Enrolled C) → StandsAt net addr socket
        → (front : List Item) (item : Item) (rest : List Item)
        (from : Addr) (raw : List ℕ) → socket.history.items ≡ front ++ item ∷ rest → item.event.act ≡ Arrive from raw
        → (was : WasSaid w net from addr raw) (packet : Packet) (offset : ℕ) → read raw ≡ Ok packet → is_handshake packet ≡ false
        → Contains was.emission.offsets offset
        → IsClose offset (read_by (after_items w socket.history.opening front) packet)
    plain-near addr socket here front item rest from raw joined arrives was packet offset reads plain named =
        let other = was.socket in
        let own_is = near.bound addr socket here (datagram_from from raw)
        (arrives-at front item rest socket.history.items from raw joined arrives) packet reads plain in
        let back = subst (λ (id : ℕ). own_peer w other.history ≡ Some (record { addr = addr; id = id })) own_is
        (said-bound w net lawful from addr raw was packet reads (packet-bound packet plain)) in
        elim (stands-connects w net lawful from other was.stands) [
          | inl idle ↦ absurd (never-emits w other.history idle.never was.emission packet was.emits
              (ap read was.same ∙ reads) plain)
          | inr theirs ↦ elim (stands-connects w net lawful addr socket here) [
            | inl idle ↦ idle-near addr socket here idle front (item ∷ rest) joined from other was.stands back theirs
                was.emission packet offset was.emits (ap read was.same ∙ reads) plain named
            | inr mine ↦
                let names = names-back w net lawful near.said from other was.stands addr socket here back mine in
                let since = connects-part w net lawful addr socket here mine in
                let other_since = connects-part w net lawful from other was.stands theirs in
                let connected = parts-connected w net lawful near.said from other was.stands addr socket here back
                names theirs mine in
                let there = connected-back w from other.own other_since.part addr socket.own since.part connected in
                let starts = connected.same_start in
                let between = names-near from other was.stands addr socket here names other_since since connected
                was.emission offset
                (part-emitted w other.history other_since was.emission packet was.emits (ap read was.same ∙ reads) plain) named in
                let state = state-near addr socket here from other was.stands back since other_since there front
                (item ∷ rest) joined in
                let low = start_of socket.history in
                let start = since.same_start in
                let other_start = other_since.same_start in
                let at = read-between (after_items w socket.history.opening front) packet low (low + most) state.0 state.1 in
                both-close low (low + most) offset _ (omega (arith, few)) (omega (arith, between.0, starts, start, other_start))
                (omega (arith, between.1, starts, start, other_start)) at.0 at.1
          ]
        ]

    -- each arrival lies near the state in which it comes
    was-near : (addr : Addr) (socket : Enrolled C) → StandsAt net addr socket
        → (front : List Item) (item : Item) (rest : List Item)
        (from : Addr) (raw : List ℕ) → socket.history.items ≡ front ++ item ∷ rest → item.event.act ≡ Arrive from raw
        → (was : WasSaid w net from addr raw) (packet : Packet) (offset : ℕ) → read raw ≡ Ok packet
        → Contains was.emission.offsets offset
        → IsClose offset (read_by (after_items w socket.history.opening front) packet)
    was-near addr socket here front item rest from raw joined arrives was packet offset reads named =
        elim (is_handshake packet) as (λ shakes. is_handshake packet ≡ shakes
        → IsClose offset (read_by (after_items w socket.history.opening front) packet)) [
          | true ↦ λ shakes.
              absurd (shake-names_none was.socket (stands-socket w net lawful from was.socket was.stands) was.emission packet
              offset was.emits (ap read was.same ∙ reads) shakes named)
          | false ↦ λ plain. plain-near addr socket here front item rest from raw joined arrives was packet
              offset reads plain named
        ] refl

  pub near-honest : (net : List (EndpointRecord C)) (most : ℕ) → AreLawful w net → most < 2 ^ 30 → AreNear net most
      → IsHonest w net
  near-honest net most lawful few near addr socket here =
      items-honest net addr socket.history.opening socket.history.items (λ front item rest from raw joined arrives.
      let was = near.said addr socket here (datagram_from from raw)
      (arrives-at front item rest socket.history.items from raw joined arrives) in
      record {
        socket = was.socket;
        emission = was.emission;
        stands = was.stands;
        emits = was.emits;
        datagram = datagram-is was.emission.datagram addr raw was.sent_to was.same;
        close = λ packet offset reads named.
            was-near net most lawful few near addr socket here front item rest from raw joined arrives was packet
            offset reads named;
      })
