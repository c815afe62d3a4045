-- A socket that has heard of its peer, handshakes aside, is connected to the socket there, and that one to it.
use Rattle.std.proofs.Common.{◌≡◌, ℕ, true, false, List, ◌++◌, Some, Ok, refl, ap, ◌∙◌, sym, subst, inl, inr, arith}
use Rattle.std.proofs.lemmas.Option.{same_Some}
use Rattle.std.specs.List.{Contains}
use Rattle.udt_model.specs.declared.addresses.Addr.{Addr}
use Rattle.udt_model.specs.declared.answers.Origin.{Origin}
use Rattle.udt_model.specs.declared.answers.Origin.TheVariants as origin
use Rattle.udt_model.specs.declared.answers.Peer.{Peer}
use Rattle.udt_model.specs.Emissions.{emitted}
use Rattle.udt_model.specs.History.{Item, after_items}
use Rattle.udt_model.specs.Honest.{WasEmitted, IsHonest}
use Rattle.udt_model.specs.Phases as phase
use Rattle.udt_model.specs.Rate.{Ways}
use Rattle.udt_model.specs.Records.{Enrolled, EndpointRecord, IsSocket, PeerPair, StandsAt, own_peer, peer_by, AreLawful}
use Rattle.udt_model.specs.State.{State, Datagram, Emission}
use Rattle.udt_model.specs.Wire.{Packet, is_handshake, destination, read}
use Rattle.udt_laws.specs.Laws.{AcceptsAck, HasHeard, MutualAdoption}
use Rattle.udt_model.proofs.PeerLemmas.{IsKnown, KnowsPeer, config_by, has_peer, items-known, own_peer-stays, standing_of, start_by, way-known}
use Rattle.udt_model.proofs.StepLemmas.{after_items-keeps_name}
use Rattle.udt_laws.proofs.adoption.Agreement.{agree, connects-part}
use Rattle.udt_laws.proofs.adoption.Hears.{AllHear, ack-came, acked-shows, placed-shows, dropped-shows, items-hear}
use Rattle.udt_laws.proofs.adoption.NamesBack.{named-by}
use Rattle.udt_laws.proofs.adoption.PeersMeet.{names-so, Connects, stands-socket, stands-connects}
use Rattle.udt_model.proofs.Members.{none-contained}
use Rattle.udt_laws.proofs.sockets.Begins.{begins_settled, last_peer}
use Rattle.udt_laws.proofs.sockets.ConnectedParts.{ConnectedPart, NeverConnected, socket-own, part-acked, never-acked, never-emits, never-stands}
use Rattle.udt_laws.proofs.sockets.OneSocket.{packet-bound, emitter-names}
use Rattle.udt_laws.proofs.sockets.WasSaid.{AllSaid, honest-said}

-- whoever has a peer names it
named-peer : (from : Origin) (peer : Peer) → has_peer from ≡ true
    → peer_by from peer ≡ Some (record { addr = peer.addr; id = peer.id })
named-peer origin.Nobody peer has = absurd (cc)
named-peer _ peer has = refl

-- a socket that is connected by some of its items has its own peer from then on
front-peer : {C : Type 0} (w : Ways C) (socket : Enrolled C) → IsSocket w socket → (front rest : List Item)
    → socket.history.items ≡ front ++ rest → (after_items w socket.history.opening front).phase ≡ phase.Connected
    → (at : Addr) (id : ℕ) → own_peer w socket.history ≡ Some (record { addr = at; id = id })
    → (after_items w socket.history.opening front).peer.addr ≡ at
front-peer w socket is front rest joined stands at id names =
    let h = socket.history in
    let s = after_items w h.opening front in
    let begun = subst (IsKnown w (config_by w socket.way) (start_by w socket.way)) (sym is.opened) (way-known w socket.own socket.way) in
    let known = items-known w (config_by w socket.way) (start_by w socket.way) h.opening front begun in
    let knows = subst (KnowsPeer (standing_of s)) stands known.knows in
    let stays = own_peer-stays w socket.own socket.way h.opening front rest (record { addr = s.peer.addr; id = s.peer.id }) is.opened
    (named-peer s.origin s.peer knows) in
    let same = ap (λ (items : List Item). own_peer w (record { opening = h.opening; items = items })) joined ∙ stays in
    ap (λ (pair : PeerPair). pair.addr) (same_Some _ _ (sym same ∙ names))

module _ {C : Type 0} (w : Ways C) (net : List (EndpointRecord C)) (lawful : AreLawful w net) where
  -- a connected socket of this address and ID names this one, and has emitted a packet for it that is no handshake
  pub record IsHeardOf (addr : Addr) (socket : Enrolled C) (at : Addr) (id : ℕ) : Type 0 where
    pub other : Enrolled C
    pub there : StandsAt net at other
    pub connects : Connects w net there.endpoint other
    pub own_is : other.own ≡ id
    pub back : own_peer w other.history ≡ Some (record { addr = addr; id = socket.own })
    pub emission : Emission
    pub packet : Packet
    pub emits : Contains (emitted w other.history) emission
    pub reads : read emission.datagram.bytes ≡ Ok packet
    pub plain : is_handshake packet ≡ false

  module _ (said : AllSaid w net) (addr : Addr) (socket : Enrolled C) (here : StandsAt net addr socket) (at : Addr)
      (id : ℕ)
      (names : own_peer w socket.history ≡ Some (record { addr = at; id = id }))
      (mine : Connects w net here.endpoint socket) where
    -- who emitted what arrives from the peer's address for this socket
    emitter-heard : (s : State C) (sender : Addr) (bytes : List ℕ) (packet : Packet) → sender ≡ at
        → WasEmitted w net s sender addr bytes
        → read bytes ≡ Ok packet → is_handshake packet ≡ false → destination packet ≡ socket.own
        → IsHeardOf addr socket at id
    emitter-heard s sender bytes packet from_is was reads plain own_is =
        let other = was.socket in
        let there = subst (λ (a : Addr). StandsAt net a other) from_is was.stands in
        let reads_so = ap (λ (d : Datagram). read d.bytes) was.datagram ∙ reads in
        let back = subst (λ (n : ℕ). own_peer w other.history ≡ Some (record { addr = addr; id = n })) own_is
        (emitter-names w net lawful addr s sender bytes packet was reads (packet-bound packet plain)) in
        elim (stands-connects w net lawful at other there) [
          | inl idle ↦ absurd (never-emits w other.history idle.never was.emission packet was.emits reads_so plain)
          | inr theirs ↦ record {
            other = other;
            there = there;
            connects = theirs;
            own_is = named-by w net lawful said addr socket here at id other there names back mine theirs;
            back = back;
            emission = was.emission;
            packet = packet;
            emits = was.emits;
            reads = reads_so;
            plain = plain;
          }
        ]

    -- so whatever shows what such a socket shows, all arrivals since the connection show
    pub part-hears : (X : Type 0) → IsHonest w net → (IsHeardOf addr socket at id → X)
        → AllHear w X (connects-part w net lawful addr socket here mine).part.opening
        (connects-part w net lawful addr socket here mine).part.items
    part-hears X honest shows =
        let since = connects-part w net lawful addr socket here mine in
        let h = since.part in
        let so = names-so w socket.history (record { addr = at; id = id }) names in
        let peer_is = sym (last_peer w h since.begins) ∙ ap (λ (s : State C). s.peer) (sym since.goes_on.ends) in
        items-hear w X net addr socket.own at h.opening h.items
        (λ s sender bytes packet from_is was reads plain own_is. shows
        (emitter-heard s sender bytes packet from_is was reads plain own_is))
        (begins_settled w h since.begins) (since.name.own ∙ socket-own w socket
        (stands-socket w net lawful addr socket here))
        (ap (λ (p : Peer). p.addr) peer_is ∙ so.addr_is) (since.goes_on.honest net addr (honest addr socket here))

    -- who emitted an ACK that was accepted
    accepted-heard : IsHonest w net → (item : Item) → Contains socket.history.items item → AcceptsAck item
        → IsHeardOf addr socket at id
    accepted-heard honest item among accepts =
        let h = socket.history in
        let is = stands-socket w net lawful addr socket here in
        let came = ack-came w net addr h.opening h.items item is.legal (honest addr socket here) among accepts in
        let s = after_items w h.opening came.front in
        let own_is = (after_items-keeps_name w h.opening came.front).own ∙ socket-own w socket is in
        emitter-heard s came.from came.bytes came.packet
        (came.sender ∙ front-peer w socket is came.front came.rest came.joined came.stands at id names) came.was came.reads
        came.plain (came.dest ∙ own_is)

    -- what was placed or dropped since, or is acknowledged, shows that there is one
    heard-shows : (X : Type 0) → (since : ConnectedPart w socket.history)
        → AllHear w X since.part.opening since.part.items
        → ((item : Item) → Contains socket.history.items item → AcceptsAck item → X) → HasHeard w socket.history → X
    heard-shows X since hear accepted (inl placed) =
        placed-shows w X since.part.opening since.part.items placed.0 since.begins.legal hear
        (subst (λ (offsets : List ℕ). Contains offsets placed.0) since.goes_on.placed placed.1)
    heard-shows X since hear accepted (inr (inl dropped)) =
        dropped-shows w X since.part.opening since.part.items dropped.0 since.begins.legal hear
        (subst (λ (offsets : List ℕ). Contains offsets dropped.0) since.goes_on.dropped dropped.1)
    heard-shows X since hear accepted (inr (inr (inl some))) =
        elim (acked-shows w X since.part.opening since.part.items hear) [
          | inl same ↦ absurd (omega (arith, some, same, part-acked w socket.history since))
          | inr shown ↦ shown
        ]
    heard-shows X since hear accepted (inr (inr (inr ack))) = accepted ack.0 ack.1 ack.2

    adopted : IsHonest w net → HasHeard w socket.history → IsHeardOf addr socket at id
    adopted honest heard =
        heard-shows (IsHeardOf addr socket at id) (connects-part w net lawful addr socket here mine)
        (part-hears (IsHeardOf addr socket at id) honest (λ of. of)) (accepted-heard honest) heard

  -- a socket that was never connected has heard of nobody
  never-heard : (addr : Addr) (socket : Enrolled C) → StandsAt net addr socket → IsHonest w net
      → NeverConnected w socket.history → HasHeard w socket.history → ⊥
  never-heard addr socket here honest never (inl placed) = none-contained placed.0
      (subst (λ (offsets : List ℕ). Contains offsets placed.0) never.quiet.placed placed.1)
  never-heard addr socket here honest never (inr (inl dropped)) =
      none-contained dropped.0 (subst (λ (offsets : List ℕ). Contains offsets dropped.0) never.quiet.dropped dropped.1)
  never-heard addr socket here honest never (inr (inr (inl some))) =
      omega (arith, some, never-acked w socket.history never)
  never-heard addr socket here honest never (inr (inr (inr ack))) =
      let h = socket.history in
      let is = stands-socket w net lawful addr socket here in
      let came = ack-came w net addr h.opening h.items ack.0 is.legal (honest addr socket here) ack.1 ack.2 in
      never-stands w h never came.front came.rest came.joined came.stands

pub mutual_adoption : {C : Type 0} (w : Ways C) → MutualAdoption w
mutual_adoption w net addr socket peer lawful honest here names heard =
    let said = honest-said w net honest in
    elim (stands-connects w net lawful addr socket here) [
      | inl idle ↦ absurd (never-heard w net lawful addr socket here honest idle.never heard)
      | inr mine ↦
          let of = adopted w net lawful said addr socket here peer.addr peer.id names mine honest heard in
          let named = subst (λ (n : ℕ). own_peer w socket.history ≡ Some (record { addr = peer.addr; id = n }))
          (sym of.own_is) names in
          let so = agree w net lawful said addr socket here peer.addr of.other of.there named of.back mine
          of.connects in
          record {
            other = of.other;
            stands = of.there;
            own_is = of.own_is;
            back = of.back;
            kind = so.kind;
            start = so.start;
            isn = so.isn;
            back_isn = so.back_isn;
          }
    ]
