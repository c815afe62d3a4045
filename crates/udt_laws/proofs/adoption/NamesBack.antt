-- Where a socket of lawful records names a peer, and the socket there is connected, that one names it as its peer.
use Rattle.std.proofs.Common.{◌≡◌, ℕ, true, false, List, Some, Ok, ap, ◌∙◌, sym, subst, inl, inr}
use Rattle.std.specs.List.{Contains}
use Rattle.std.proofs.lemmas.Option.{same_Some}
use Rattle.udt_model.specs.declared.addresses.Addr.{Addr}
use Rattle.udt_model.specs.declared.answers.Peer.{Peer}
use Rattle.udt_model.specs.declared.packets.Config.{Config}
use Rattle.udt_model.specs.declared.packets.Shake.{Shake}
use Rattle.udt_model.specs.Emissions.{emitted}
use Rattle.udt_model.specs.Handshakes.{asked}
use Rattle.udt_model.specs.History.{History, state_of}
use Rattle.udt_model.specs.Opening.{opening, IsOpening}
use Rattle.udt_model.specs.Rate.{Ways}
use Rattle.udt_model.specs.Records.{Opened, Enrolled, EndpointRecord, StandsAt, PeerPair, own_peer, IsPaired, is_answer, names_sender, AreLawful}
use Rattle.udt_model.specs.State.{Emission}
use Rattle.udt_model.specs.Wire.{Handshake, read}
use Rattle.udt_model.proofs.ConnectedBy.{opened-met}
use Rattle.udt_laws.proofs.adoption.OneAddress.{asked-there}
use Rattle.udt_laws.proofs.adoption.PeersMeet.{names-has, names-so, so-names, Connects, ByHandshake, ForRequest, AsPair, IsIdle, stands-socket, stands-connects, has_met, introduced_by, requested_by}
use Rattle.udt_laws.proofs.sent_blocks.SentBlocks.{begins-answers}
use Rattle.udt_laws.proofs.sockets.Begins.{Begins, last_peer}
use Rattle.udt_laws.proofs.sockets.OneSocket.{same-socket, same-peer}
use Rattle.udt_laws.proofs.sockets.Opened.{AreConnected, opened_peer, opening-begins, names-peer, paired-connected}
use Rattle.udt_laws.proofs.sockets.WasSaid.{AllSaid}

module _ {C : Type 0} (w : Ways C) (net : List (EndpointRecord C)) (lawful : AreLawful w net) where
  -- ---- sockets that were opened as connected

  -- the other socket of a pair
  pub record IsMate (addr : Addr) (socket : Enrolled C) : Type 0 where
    pub at : Addr
    pub other : Enrolled C
    pub stands : StandsAt net at other
    pub connected : AreConnected w addr socket.own socket.history at other.own other.history

  module _ (addr : Addr) (socket : Enrolled C) (here : StandsAt net addr socket) where
    pub mate_of : IsPaired net here.endpoint.addr socket → IsMate addr socket
    mate_of paired = record {
      at = paired.other_addr;
      other = paired.other;
      stands = paired.stands;
      connected = subst (λ (a : Addr). AreConnected w a socket.own socket.history paired.other_addr paired.other.own
          paired.other.history) here.addr_is
          (paired-connected w here.endpoint.addr socket paired.other_addr paired.other
          (stands-socket w net lawful addr socket here)
          (stands-socket w net lawful paired.other_addr paired.other paired.stands) paired.paired);
    }

    -- a socket that was made for a request begins as connected to the one that asked
    pub request-begins : (config : Config) (peer : Peer) (now : ℕ) → IsOpening socket.own config peer 0
        → socket.history.opening ≡ opening w socket.own config peer now 0 → Begins w socket.history
    request-begins config peer now in_range opens =
        opening-begins w socket.own config peer now 0 socket.history opens in_range
        (stands-socket w net lawful addr socket here).legal

    pub request-peer : (config : Config) (peer : Peer) (now : ℕ) → IsOpening socket.own config peer 0
        → socket.history.opening ≡ opening w socket.own config peer now 0 → (state_of w socket.history).peer ≡ peer
    request-peer config peer now in_range opens =
        last_peer w socket.history (request-begins config peer now in_range opens)
        ∙ opened_peer w socket.own config peer now 0 socket.history opens

  -- a socket that asks, or says that it wants to meet, wasn't opened as connected
  pub asks-not_begun : (h : History C) (emission : Emission) (stamp dest : ℕ) (shake : Shake) → Begins w h
      → Contains (emitted w h) emission
      → read emission.datagram.bytes ≡ Ok (Handshake stamp dest shake) → is_answer (asked shake.ask) ≡ false → ⊥
  asks-not_begun h emission stamp dest shake begins among reads no_answer =
      let answers = begins-answers w h begins emission stamp dest shake among reads in
      cc

  module _ (said : AllSaid w net) where
    -- ---- a socket that asks, or says that it wants to meet

    module _ (addr : Addr) (socket : Enrolled C) (here : StandsAt net addr socket) (at : Addr) (other : Enrolled C)
        (there : StandsAt net at other)
        (names : own_peer w socket.history ≡ Some (record { addr = at; id = other.own })) where
      module _ (emission : Emission) (stamp dest : ℕ) (shake : Shake)
          (among : Contains (emitted w other.history) emission)
          (reads : read emission.datagram.bytes ≡ Ok (Handshake stamp dest shake))
          (sent_to : emission.datagram.addr ≡ addr)
          (no_answer : is_answer (asked shake.ask) ≡ false) (tells : names_sender dest (asked shake.ask) ≡ true) where
        -- where it did so to this address, and a socket here has it as its peer, it has this one, where it is
        -- connected
        asks-back : Connects w net there.endpoint other → own_peer w other.history
            ≡ Some (record { addr = addr; id = socket.own })
        asks-back (ByHandshake isn config now in_range opens connected_at) =
            let g = other.history in
            let met = has_met w net lawful said at other there isn config now in_range opens connected_at in
            let has = (opened-met w other.own isn config now g.opening in_range opens g.items connected_at).has in
            let there_is = asked-there w other.own (Opened isn config now) g.opening opens stamp dest shake no_answer
            tells g.items emission among reads has
            ∙ sent_to in
            let stands = subst (λ (a : Addr). StandsAt net a met.socket) there_is met.stands in
            let same = same-peer w net lawful addr met.socket socket (record { addr = at; id = other.own }) stands
            here met.back names in
            so-names w g addr socket.own has
            (record { addr_is = there_is; id_is = sym met.own_is ∙ ap (λ (x : Enrolled C). x.own) same })
        asks-back (ForRequest config peer now in_range opens request) =
            absurd (asks-not_begun other.history emission stamp dest shake
            (request-begins at other there config peer now in_range opens)
            among reads no_answer)
        asks-back (AsPair paired) =
            absurd (asks-not_begun other.history emission stamp dest shake
            (mate_of at other there paired).connected.begins among reads no_answer)

      -- ---- each socket

      -- a socket with the peer's address and ID is the other one
      pub peer-is : (found : Enrolled C) → StandsAt net (state_of w socket.history).peer.addr found
          → found.own ≡ (state_of w socket.history).peer.id
          → found ≡ other
      peer-is found stands own_is =
          let so = names-so w socket.history (record { addr = at; id = other.own }) names in
          same-socket w net lawful at found other (subst (λ (a : Addr). StandsAt net a found) so.addr_is stands) there
          (own_is ∙ so.id_is)

      idle-back : IsIdle w socket → Connects w net there.endpoint other
          → own_peer w other.history ≡ Some (record { addr = addr; id = socket.own })
      idle-back idle connects =
          let has = names-has w socket.history _ names in
          let found = introduced_by w net lawful said addr socket here idle.isn idle.config idle.now idle.in_range
          idle.opens has in
          let told = found.1 in
          let same = peer-is found.0 told.stands told.own_is in
          let among = subst (λ (x : Enrolled C). Contains (emitted w x.history) told.emission) same told.emits in
          elim told.asks [
            | inl meets ↦ asks-back told.emission told.stamp told.dest told.shake among told.reads told.sent_to
                (ap is_answer meets)
                (ap (names_sender told.dest) meets) connects
            | inr answers ↦
                let bound = (lawful.each there.endpoint there.among).addressed other told.emission
                (Handshake told.stamp told.dest told.shake)
                there.enrolled among told.reads (ap is_answer answers.0) in
                subst (λ (n : ℕ). own_peer w other.history ≡ Some (record { addr = addr; id = n })) answers.1
                (subst (λ (a : Addr). own_peer w other.history ≡ Some (record { addr = a; id = told.dest }))
                told.sent_to bound)
          ]

      connects-back : Connects w net here.endpoint socket → Connects w net there.endpoint other
          → own_peer w other.history ≡ Some (record { addr = addr; id = socket.own })
      connects-back (ByHandshake isn config now in_range opens connected_at) connects =
          let met = has_met w net lawful said addr socket here isn config now in_range opens connected_at in
          subst (λ (x : Enrolled C). own_peer w x.history ≡ Some (record { addr = addr; id = socket.own }))
          (peer-is met.socket met.stands met.own_is)
          met.back
      connects-back (ForRequest config peer now in_range opens request) connects =
          let found = requested_by w net lawful said addr socket here config peer request in
          let told = found.1 in
          let peer_is = request-peer addr socket here config peer now in_range opens in
          let same = peer-is found.0 (subst (λ (p : Peer). StandsAt net p.addr found.0) (sym peer_is) told.stands)
          (told.own_is ∙ ap (λ (p : Peer). p.id) (sym peer_is)) in
          asks-back told.emission told.stamp 0 told.shake (subst
          (λ (x : Enrolled C). Contains (emitted w x.history) told.emission) same told.emits)
          told.reads told.sent_to (ap is_answer told.asks) (ap (names_sender 0) told.asks) connects
      connects-back (AsPair paired) connects =
          let mate = mate_of addr socket here paired in
          let are = mate.connected in
          let last = last_peer w socket.history are.begins in
          let same = peer-is mate.other (subst (λ (a : Addr). StandsAt net a mate.other)
          (sym are.peer_addr ∙ ap (λ (p : Peer). p.addr) (sym last)) mate.stands)
          (sym are.peer_id ∙ ap (λ (p : Peer). p.id) (sym last)) in
          subst (λ (x : Enrolled C). own_peer w x.history ≡ Some (record { addr = addr; id = socket.own })) same
          (names-peer w mate.other.history addr socket.own are.other_begins are.back_addr are.back_id)

      -- so the other one, where it is connected, names this one
      pub names-back : Connects w net there.endpoint other
          → own_peer w other.history ≡ Some (record { addr = addr; id = socket.own })
      names-back connects = elim (stands-connects w net lawful addr socket here) [
        | inl idle ↦ idle-back idle connects
        | inr mine ↦ connects-back mine connects
      ]

    -- ---- who names a socket

    module _ (addr : Addr) (socket : Enrolled C) (here : StandsAt net addr socket) (at : Addr) (id : ℕ)
        (other : Enrolled C) (there : StandsAt net at other)
        (names : own_peer w socket.history ≡ Some (record { addr = at; id = id }))
        (back : own_peer w other.history ≡ Some (record { addr = addr; id = socket.own })) where
      -- the ID of this socket's peer, where it is that of the other
      own-named : own_peer w socket.history ≡ Some (record { addr = at; id = other.own }) → other.own ≡ id
      own-named is = ap (λ (p : PeerPair). p.id) (same_Some _ _ (sym is ∙ names))

      -- a socket of this address and ID is this one
      this-is : (found : Enrolled C) → StandsAt net (state_of w other.history).peer.addr found
          → found.own ≡ (state_of w other.history).peer.id
          → found ≡ socket
      this-is found stands own_is =
          let so = names-so w other.history (record { addr = addr; id = socket.own }) back in
          same-socket w net lawful addr found socket (subst (λ (a : Addr). StandsAt net a found) so.addr_is stands)
          here (own_is ∙ so.id_is)

      -- where this one was made for a request
      request-named : Begins w socket.history → Connects w net there.endpoint other → other.own ≡ id
      request-named begins (ByHandshake isn config now in_range opens connected_at) =
          let met = has_met w net lawful said at other there isn config now in_range opens connected_at in
          own-named (subst (λ (x : Enrolled C). own_peer w x.history ≡ Some (record { addr = at; id = other.own }))
          (this-is met.socket met.stands met.own_is) met.back)
      request-named begins (ForRequest config peer now in_range opens request) =
          let found = requested_by w net lawful said at other there config peer request in
          let told = found.1 in
          let peer_is = request-peer at other there config peer now in_range opens in
          let same = this-is found.0 (subst (λ (p : Peer). StandsAt net p.addr found.0) (sym peer_is) told.stands)
          (told.own_is ∙ ap (λ (p : Peer). p.id) (sym peer_is)) in
          absurd (asks-not_begun socket.history told.emission told.stamp 0 told.shake begins
          (subst (λ (x : Enrolled C). Contains (emitted w x.history) told.emission) same told.emits) told.reads
          (ap is_answer told.asks))
      request-named begins (AsPair paired) =
          let mate = mate_of at other there paired in
          let are = mate.connected in
          let last = last_peer w other.history are.begins in
          let same = this-is mate.other (subst (λ (a : Addr). StandsAt net a mate.other)
          (sym are.peer_addr ∙ ap (λ (p : Peer). p.addr) (sym last)) mate.stands)
          (sym are.peer_id ∙ ap (λ (p : Peer). p.id) (sym last)) in
          own-named (subst (λ (x : Enrolled C). own_peer w x.history ≡ Some (record { addr = at; id = other.own })) same
          (names-peer w mate.other.history at other.own are.other_begins are.back_addr are.back_id))

      -- a connected socket at the address of this one's peer that names this one has the peer's ID
      pub named-by : Connects w net here.endpoint socket → Connects w net there.endpoint other → other.own ≡ id
      named-by (ByHandshake isn config now in_range opens connected_at) connects =
          let met = has_met w net lawful said addr socket here isn config now in_range opens connected_at in
          let so = names-so w socket.history (record { addr = at; id = id }) names in
          let stands = subst (λ (a : Addr). StandsAt net a met.socket) so.addr_is met.stands in
          let same = same-peer w net lawful at met.socket other (record { addr = addr; id = socket.own }) stands there
          met.back back in
          ap (λ (x : Enrolled C). x.own) (sym same) ∙ met.own_is ∙ so.id_is
      named-by (ForRequest config peer now in_range opens request) connects =
          request-named (request-begins addr socket here config peer now in_range opens) connects
      named-by (AsPair paired) connects =
          let mate = mate_of addr socket here paired in
          let are = mate.connected in
          let last = last_peer w socket.history are.begins in
          let so = names-so w socket.history (record { addr = at; id = id }) names in
          let stands = subst (λ (a : Addr). StandsAt net a mate.other)
          (sym are.peer_addr ∙ ap (λ (p : Peer). p.addr) (sym last) ∙ so.addr_is) mate.stands in
          let mate_back = names-peer w mate.other.history addr socket.own are.other_begins are.back_addr are.back_id in
          let same = same-peer w net lawful at mate.other other (record { addr = addr; id = socket.own }) stands there
          mate_back back in
          ap (λ (x : Enrolled C). x.own) (sym same) ∙ sym are.peer_id ∙ ap (λ (p : Peer). p.id) (sym last) ∙ so.id_is
