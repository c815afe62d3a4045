-- What two sockets of lawful records agree on that name each other as peer, and are connected.
use Rattle.std.proofs.Common.{◌≡◌, ℕ, List, Some, ap, ◌∙◌, sym, subst}
use Rattle.std.specs.List.{Contains}
use Rattle.udt_model.specs.declared.addresses.Addr.{Addr}
use Rattle.udt_model.specs.declared.answers.Peer.{Peer}
use Rattle.udt_model.specs.declared.packets.Config.{Config}
use Rattle.udt_model.specs.Emissions.{emitted}
use Rattle.udt_model.specs.History.{History, state_of, start_of}
use Rattle.udt_model.specs.Rate.{Ways}
use Rattle.udt_model.specs.Opening.{opened, opening, IsOpened, IsOpening}
use Rattle.udt_model.specs.Records.{Enrolled, EndpointRecord, StandsAt, own_peer, IsPaired, IsRequested, is_answer, AreLawful}
use Rattle.udt_model.specs.State.{State}
use Rattle.udt_model.specs.Wire.{read}
use Rattle.udt_laws.proofs.adoption.NamesBack.{mate_of, request-begins, request-peer, asks-not_begun, peer-is}
use Rattle.udt_laws.proofs.adoption.PeersMeet.{names-has, names-so, Connects, ByHandshake, ForRequest, AsPair, stands-socket}
use Rattle.udt_laws.proofs.adoption.PeersMeet.{met_kind, introduced_by, requested_by}
use Rattle.udt_model.proofs.SettlingLemmas.{IsConnectedAt}
use Rattle.udt_laws.proofs.sockets.Begins.{Begins, last_peer}
use Rattle.udt_laws.proofs.sockets.ConnectedParts.{ConnectedPart, begins-part, connected_part, opened_start, socket-own}
use Rattle.udt_laws.proofs.sockets.ConnectedParts.{part-emitted}
use Rattle.udt_laws.proofs.sockets.OneSocket.{ComesNear, from-sender}
use Rattle.udt_laws.proofs.sockets.Opened.{AreConnected, opened_start as opening_start}
use Rattle.udt_laws.proofs.sockets.WasSaid.{AllSaid}

module _ {C : Type 0} (w : Ways C) where
  -- the peer's initial sequence number is that of the other history, and both begin at one offset and carry the same
  pub record Agree (h g : History C) : Type 0 where
    pub isn : (state_of w h).peer.isn ≡ g.opening.isn
    pub back_isn : (state_of w g).peer.isn ≡ h.opening.isn
    pub start : start_of g ≡ start_of h
    pub kind : g.opening.kind ≡ h.opening.kind

  -- where the directions begin, and what the sockets carry
  record BeginSo (h g : History C) : Type 0 where
    start : start_of g ≡ start_of h
    kind : g.opening.kind ≡ h.opening.kind

  begin-back : (h g : History C) → BeginSo h g → BeginSo g h
  begin-back h g so = record { start = sym so.start; kind = sym so.kind }

  module _ (net : List (EndpointRecord C)) (lawful : AreLawful w net) where
    -- a socket that is connected has a part since then
    pub connects-part : (addr : Addr) (socket : Enrolled C) → (here : StandsAt net addr socket)
        → Connects w net here.endpoint socket
        → ConnectedPart w socket.history
    connects-part addr socket here (ByHandshake isn config now in_range opens at) =
        connected_part w socket.own isn config now socket.history in_range opens
        (stands-socket w net lawful addr socket here).legal at
    connects-part addr socket here (ForRequest config peer now in_range opens request) =
        begins-part w socket.history (request-begins w net lawful addr socket here config peer now in_range opens)
    connects-part addr socket here (AsPair paired) =
        begins-part w socket.history (mate_of w net lawful addr socket here paired).connected.begins

    module _ (said : AllSaid w net) where
      module _ (addr : Addr) (socket : Enrolled C) (here : StandsAt net addr socket) (at : Addr) (other : Enrolled C)
          (there : StandsAt net at other)
          (names : own_peer w socket.history ≡ Some (record { addr = at; id = other.own })) where
        told-isn : Connects w net here.endpoint socket → (state_of w socket.history).peer.isn
            ≡ other.history.opening.isn
        told-isn (ByHandshake isn config now in_range opens connected_at) =
            let has = names-has w socket.history _ names in
            let found = introduced_by w net lawful said addr socket here isn config now in_range opens has in
            let same = peer-is w net lawful said addr socket here at other there names found.0 found.1.stands
            found.1.own_is in
            sym found.1.isn_is ∙ ap (λ (x : Enrolled C). x.history.opening.isn) same
        told-isn (ForRequest config peer now in_range opens request) =
            let found = requested_by w net lawful said addr socket here config peer request in
            let told = found.1 in
            let is = request-peer w net lawful addr socket here config peer now in_range opens in
            let same = peer-is w net lawful said addr socket here at other there names found.0
            (subst (λ (p : Peer). StandsAt net p.addr found.0) (sym is) told.stands)
            (told.own_is ∙ ap (λ (p : Peer). p.id) (sym is)) in
            ap (λ (p : Peer). p.isn) is ∙ sym told.isn_is ∙ ap (λ (x : Enrolled C). x.history.opening.isn) same
        told-isn (AsPair paired) =
            let mate = mate_of w net lawful addr socket here paired in
            let are = mate.connected in
            let last = last_peer w socket.history are.begins in
            let same = peer-is w net lawful said addr socket here at other there names mate.other
            (subst (λ (a : Addr). StandsAt net a mate.other)
            (sym are.peer_addr ∙ ap (λ (p : Peer). p.addr) (sym last)) mate.stands)
            (sym are.peer_id ∙ ap (λ (p : Peer). p.id) (sym last)) in
            ap (λ (p : Peer). p.isn) last ∙ are.isn ∙ ap (λ (x : Enrolled C). x.history.opening.isn) same

        -- the two of a pair begin at one offset, and carry the same
        pair-begin : IsPaired net here.endpoint.addr socket → BeginSo socket.history other.history
        pair-begin paired =
            let mate = mate_of w net lawful addr socket here paired in
            let are = mate.connected in
            let last = last_peer w socket.history are.begins in
            let same = peer-is w net lawful said addr socket here at other there names mate.other
            (subst (λ (a : Addr). StandsAt net a mate.other)
            (sym are.peer_addr ∙ ap (λ (p : Peer). p.addr) (sym last)) mate.stands)
            (sym are.peer_id ∙ ap (λ (p : Peer). p.id) (sym last)) in
            subst (λ (x : Enrolled C). BeginSo socket.history x.history) same
            (record { start = are.same_start; kind = are.same_kind })

        -- and so do a socket that a handshake connected and its peer
        handshake-kind : (isn : ℕ) (config : Config) (now : ℕ) → IsOpened socket.own isn config
            → (opens : socket.history.opening ≡ opened w socket.own isn config now)
            → IsConnectedAt w config 0 socket.history.opening socket.history.items
            → other.history.opening.kind ≡ socket.history.opening.kind
        handshake-kind isn config now in_range opens connected_at =
            let so = names-so w socket.history (record { addr = at; id = other.own }) names in
            met_kind w net lawful said addr socket here isn config now in_range opens connected_at other
            (subst (λ (a : Addr). StandsAt net a other) (sym so.addr_is) there) (sym so.id_is)

      -- a socket that wasn't made as one of a pair begins at 0
      handshake-start : (addr : Addr) (socket : Enrolled C) → StandsAt net addr socket
          → (isn : ℕ) (config : Config) (now : ℕ)
          → IsOpened socket.own isn config → socket.history.opening ≡ opened w socket.own isn config now
          → start_of socket.history ≡ 0
      handshake-start addr socket here isn config now in_range opens =
          opened_start w socket.own isn config now socket.history in_range opens
          (stands-socket w net lawful addr socket here).legal

      request-start : (socket : Enrolled C) (config : Config) (peer : Peer) (now : ℕ)
          → socket.history.opening ≡ opening w socket.own config peer now 0 → start_of socket.history ≡ 0
      request-start socket config peer now opens = opening_start w socket.own config peer now 0 socket.history opens

      -- a connected socket whose peer begins at 0 does so too
      pub starts-as_peer : (addr : Addr) (socket : Enrolled C) (here : StandsAt net addr socket) (at : Addr) (other : Enrolled C)
          → StandsAt net at other → own_peer w socket.history ≡ Some (record { addr = at; id = other.own })
          → start_of other.history ≡ 0 → Connects w net here.endpoint socket → start_of socket.history ≡ 0
      starts-as_peer addr socket here at other there names zero (ByHandshake isn config now in_range opens connected_at) =
          handshake-start addr socket here isn config now in_range opens
      starts-as_peer addr socket here at other there names zero (ForRequest config peer now in_range opens request) =
          request-start socket config peer now opens
      starts-as_peer addr socket here at other there names zero (AsPair paired) =
          sym (pair-begin addr socket here at other there names paired).start ∙ zero

      module _ (addr : Addr) (socket : Enrolled C) (here : StandsAt net addr socket) (at : Addr) (other : Enrolled C)
          (there : StandsAt net at other)
          (names : own_peer w socket.history ≡ Some (record { addr = at; id = other.own }))
          (back : own_peer w other.history ≡ Some (record { addr = addr; id = socket.own })) where
        -- two sockets that were both made for a request don't name each other: neither of them asked
        requests-apart : (config : Config) (peer : Peer) (now : ℕ) → IsOpening socket.own config peer 0
            → socket.history.opening ≡ opening w socket.own config peer now 0 → IsRequested here.endpoint config peer
            → Begins w other.history → ⊥
        requests-apart config peer now in_range opens request begins =
            let found = requested_by w net lawful said addr socket here config peer request in
            let told = found.1 in
            let is = request-peer w net lawful addr socket here config peer now in_range opens in
            let same = peer-is w net lawful said addr socket here at other there names found.0
            (subst (λ (p : Peer). StandsAt net p.addr found.0) (sym is) told.stands)
            (told.own_is ∙ ap (λ (p : Peer). p.id) (sym is)) in
            asks-not_begun w net lawful other.history told.emission told.stamp 0 told.shake begins
            (subst (λ (x : Enrolled C). Contains (emitted w x.history) told.emission) same told.emits) told.reads
            (ap is_answer told.asks)

        begin-so : Connects w net here.endpoint socket → Connects w net there.endpoint other
            → BeginSo socket.history other.history
        begin-so (AsPair paired) theirs = pair-begin addr socket here at other there names paired
        begin-so (ByHandshake isn config now in_range opens connected_at) (AsPair paired) =
            begin-back other.history socket.history (pair-begin at other there addr socket here back paired)
        begin-so (ForRequest config peer now in_range opens request) (AsPair paired) =
            begin-back other.history socket.history (pair-begin at other there addr socket here back paired)
        begin-so (ByHandshake isn config now in_range opens connected_at)
            (ByHandshake isn' config' now' in_range' opens' connected_at') = record {
              start = handshake-start at other there isn' config' now' in_range' opens'
                  ∙ sym (handshake-start addr socket here isn config now in_range opens);
              kind = handshake-kind addr socket here at other there names isn config now in_range opens connected_at;
            }
        begin-so (ByHandshake isn config now in_range opens connected_at)
            (ForRequest config' peer' now' in_range' opens' request') = record {
              start = request-start other config' peer' now' opens'
                  ∙ sym (handshake-start addr socket here isn config now in_range opens);
              kind = handshake-kind addr socket here at other there names isn config now in_range opens connected_at;
            }
        begin-so (ForRequest config peer now in_range opens request)
            (ByHandshake isn' config' now' in_range' opens' connected_at') = record {
              start = handshake-start at other there isn' config' now' in_range' opens'
                  ∙ sym (request-start socket config peer now opens);
              kind = sym (handshake-kind at other there addr socket here back isn' config' now' in_range' opens'
                  connected_at');
            }
        begin-so (ForRequest config peer now in_range opens request)
            (ForRequest config' peer' now' in_range' opens' request') =
            absurd (requests-apart config peer now in_range opens request
            (request-begins w net lawful at other there config' peer' now' in_range' opens'))

        -- so two sockets that name each other and are connected agree
        pub agree : Connects w net here.endpoint socket → Connects w net there.endpoint other
            → Agree socket.history other.history
        agree mine theirs =
            let so = begin-so mine theirs in
            record {
              isn = told-isn addr socket here at other there names mine;
              back_isn = told-isn at other there addr socket here back theirs;
              start = so.start;
              kind = so.kind;
            }

        -- and since they were connected their histories begin as connected to each other
        pub parts-connected : (mine : Connects w net here.endpoint socket)
            (theirs : Connects w net there.endpoint other)
            → AreConnected w addr socket.own (connects-part addr socket here mine).part at other.own
            (connects-part at other there theirs).part
        parts-connected mine theirs =
            let agreed = agree mine theirs in
            let since = connects-part addr socket here mine in
            let other_since = connects-part at other there theirs in
            let so = names-so w socket.history (record { addr = at; id = other.own }) names in
            let back_so = names-so w other.history (record { addr = addr; id = socket.own }) back in
            let peer_is = sym (last_peer w since.part since.begins)
            ∙ ap (λ (s : State C). s.peer) (sym since.goes_on.ends) in
            let back_is = sym (last_peer w other_since.part other_since.begins)
            ∙ ap (λ (s : State C). s.peer) (sym other_since.goes_on.ends) in
            record {
              begins = since.begins;
              other_begins = other_since.begins;
              own_is = since.name.own ∙ socket-own w socket (stands-socket w net lawful addr socket here);
              other_own_is = other_since.name.own ∙ socket-own w other (stands-socket w net lawful at other there);
              peer_addr = ap (λ (p : Peer). p.addr) peer_is ∙ so.addr_is;
              peer_id = ap (λ (p : Peer). p.id) peer_is ∙ so.id_is;
              back_addr = ap (λ (p : Peer). p.addr) back_is ∙ back_so.addr_is;
              back_id = ap (λ (p : Peer). p.id) back_is ∙ back_so.id_is;
              isn = ap (λ (p : Peer). p.isn) peer_is ∙ agreed.isn ∙ sym other_since.name.isn;
              back_isn = ap (λ (p : Peer). p.isn) back_is ∙ agreed.back_isn ∙ sym since.name.isn;
              same_start = other_since.same_start ∙ agreed.start ∙ sym since.same_start;
              same_kind = other_since.name.kind ∙ agreed.kind ∙ sym since.name.kind;
            }

        -- what comes from the other for this one was emitted by it since then
        pub part-comes : (theirs : Connects w net there.endpoint other)
            → ComesNear w net addr socket.own at (connects-part at other there theirs).part
        part-comes theirs s sender bytes packet from_is was reads plain own_is =
            let near = from-sender w net lawful addr at socket.own other there back s sender bytes packet from_is was
            reads plain own_is in
            record {
              emission = near.emission;
              among = part-emitted w other.history (connects-part at other there theirs) near.emission packet
                  near.among (ap read near.same ∙ reads) plain;
              same = near.same;
              close = near.close;
            }
