-- How a socket of lawful records came to be connected, and which socket it met there: the one at which it names its
-- peer, and which names it as its peer where that one is connected too.
use Rattle.std.proofs.Common.{◌≡◌, ℕ, true, List, Some, Ok, refl, ap, ◌∙◌, sym, subst, inl, inr, ◌⊎◌, arith}
use Rattle.std.specs.List.{Contains}
use Rattle.std.proofs.lemmas.Option.{same_Some}
use Rattle.udt_model.specs.declared.addresses.Addr.{Addr}
use Rattle.udt_model.specs.declared.answers.Origin.{Origin}
use Rattle.udt_model.specs.declared.answers.Origin.TheVariants as origin
use Rattle.udt_model.specs.declared.answers.Peer.{Peer}
use Rattle.udt_model.specs.declared.handshakes.Asked.{Asked}
use Rattle.udt_model.specs.declared.handshakes.Asked.TheVariants as asks
use Rattle.udt_model.specs.declared.packets.Config.{Config}
use Rattle.udt_model.specs.declared.packets.Kind.{Kind}
use Rattle.udt_model.specs.declared.packets.Kind.TheVariants as kind
use Rattle.udt_model.specs.declared.packets.Shake.{Shake}
use Rattle.udt_model.specs.Emissions.{emitted}
use Rattle.udt_model.specs.Events.{Act, Arrive, at_moment}
use Rattle.udt_model.specs.Handshakes.{asked, kind_number}
use Rattle.udt_model.specs.History.{History, after_items, state_of, IsLegal}
use Rattle.udt_model.specs.Opening.{opened, opening, IsOpened, IsOpening}
use Rattle.udt_model.specs.Rate.{Ways}
use Rattle.udt_model.specs.Records.{Way, Opened, Paired, PairedAt, IsWay, opened_by, Enrolled, IsSocket, EndpointRecord, StandsAt, PeerPair, peer_by, own_peer, IsPaired, IsRequested, IsAsked, is_answer, is_bound, names_sender, AreLawful}
use Rattle.udt_model.specs.State.{Emission}
use Rattle.udt_model.specs.Step.{step}
use Rattle.udt_model.specs.Wire.{Handshake, read}
use Rattle.udt_model.proofs.ConnectedBy.{IsMet, opened-nobody, opened-met}
use Rattle.udt_model.proofs.StepLemmas.{after_items-keeps_name}
use Rattle.udt_model.proofs.PeerLemmas.{IsKnown, has_peer, way-known, peer-introduced}
use Rattle.udt_model.proofs.ShakeLemmas.{has-names, pair-same}
use Rattle.udt_model.proofs.SettlingLemmas.{IsConnectedAt, items-begin}
use Rattle.udt_laws.proofs.adoption.Requests.{promised-request}
use Rattle.udt_laws.proofs.sockets.ConnectedParts.{NeverConnected, linked-peer, opened_name, opened_start, begins_unlinked, suited}
use Rattle.udt_laws.proofs.sockets.OneSocket.{same-socket}
use Rattle.udt_laws.proofs.sockets.WasSaid.{datagram_from, AllSaid, said-bound, said-own, said-kind, arrives-at, arrives-among}

-- ---- the peer that a history names

named-has : (from : Origin) (peer : Peer) (pair : PeerPair) → peer_by from peer ≡ Some pair → has_peer from ≡ true
named-has origin.Nobody peer pair is = absurd (cc)
named-has _ peer pair is = refl

-- the two ways in which a peer is said
pub record NamesSo (addr : Addr) (id : ℕ) (peer : Peer) : Type 0 where
  pub addr_is : peer.addr ≡ addr
  pub id_is : peer.id ≡ id

module _ {C : Type 0} (w : Ways C) where
  pub names-has : (h : History C) (pair : PeerPair) → own_peer w h ≡ Some pair → has_peer (state_of w h).origin ≡ true
  names-has h pair is = named-has (state_of w h).origin (state_of w h).peer pair is

  pub names-so : (h : History C) (pair : PeerPair) → own_peer w h ≡ Some pair
      → NamesSo pair.addr pair.id (state_of w h).peer
  names-so h pair is =
      let s = state_of w h in
      let same = same_Some _ _ (sym (has-names s.origin s.peer (names-has h pair is)) ∙ is) in
      record { addr_is = ap (λ (p : PeerPair). p.addr) same; id_is = ap (λ (p : PeerPair). p.id) same }

  pub so-names : (h : History C) (addr : Addr) (id : ℕ) → has_peer (state_of w h).origin ≡ true
      → NamesSo addr id (state_of w h).peer
      → own_peer w h ≡ Some (record { addr = addr; id = id })
  so-names h addr id has so =
      let s = state_of w h in
      has-names s.origin s.peer has
      ∙ ap (λ (p : PeerPair). Some p) (pair-same s.peer.addr addr s.peer.id id so.addr_is so.id_is)

-- what a socket carries is told by its number
same-kind : (a b : Kind) → kind_number a ≡ kind_number b → a ≡ b
same-kind kind.Stream kind.Stream is = refl
same-kind kind.Message kind.Message is = refl
same-kind kind.Stream kind.Message is = absurd (omega (arith, is))
same-kind kind.Message kind.Stream is = absurd (omega (arith, is))

-- an answer is bound for the peer, and tells whose it is
answer-bound : (stamp dest : ℕ) (shake : Shake) → is_answer (asked shake.ask) ≡ true
    → is_bound (Handshake stamp dest shake) ≡ true
answer-bound stamp dest shake is = is

answer-names : (dest : ℕ) (a : Asked) → is_answer a ≡ true → names_sender dest a ≡ true
answer-names dest asks.Answers is = refl
answer-names dest asks.Agrees is = refl
answer-names dest _ is = absurd (cc)

either-answers : (a : Asked) → (a ≡ asks.Answers) ⊎ (a ≡ asks.Agrees) → is_answer a ≡ true
either-answers a (inl is) = ap is_answer is
either-answers a (inr is) = ap is_answer is

-- an arrival comes from one address
same-from : (act : Act) (a : Addr) (m : List ℕ) (b : Addr) (n : List ℕ) → act ≡ Arrive a m → act ≡ Arrive b n → a ≡ b
same-from act a m b n is is_too = cc

module _ {C : Type 0} (w : Ways C) where
  -- ---- how a socket was connected

  -- by a handshake, for a request that a listener of its endpoint promised a place, or as one of a pair
  pub data Connects (net : List (EndpointRecord C)) (endpoint : EndpointRecord C) (socket : Enrolled C) : Type 0 where
    ByHandshake : (isn : ℕ) → (config : Config) → (now : ℕ) → IsOpened socket.own isn config
        → socket.history.opening ≡ opened w socket.own isn config now
        → IsConnectedAt w config 0 socket.history.opening socket.history.items → Connects net endpoint socket
    ForRequest : (config : Config) → (peer : Peer) → (now : ℕ) → IsOpening socket.own config peer 0
        → socket.history.opening ≡ opening w socket.own config peer now 0 → IsRequested endpoint config peer
        → Connects net endpoint socket
    AsPair : IsPaired net endpoint.addr socket → Connects net endpoint socket

  -- a socket that was opened without a connection, and never connected
  pub record IsIdle (socket : Enrolled C) : Type 0 where
    pub isn : ℕ
    pub config : Config
    pub now : ℕ
    pub in_range : IsOpened socket.own isn config
    pub opens : socket.history.opening ≡ opened w socket.own isn config now
    pub never : NeverConnected w socket.history

  way-connects : (net : List (EndpointRecord C)) (endpoint : EndpointRecord C) (socket : Enrolled C) (way : Way)
      → IsWay socket.own way
      → socket.history.opening ≡ opened_by w socket.own way → IsLegal w socket.history → IsAsked net endpoint socket way
      → IsIdle socket ⊎ Connects net endpoint socket
  way-connects net endpoint socket (Opened isn config now) in_range opens legal met =
      let h = socket.history in
      elim (items-begin w config 0 h.opening h.items (begins_unlinked w socket.own isn config now h in_range opens
      legal) legal) [
        | inl never ↦ inl (record {
          isn = isn;
          config = config;
          now = now;
          in_range = in_range;
          opens = opens;
          never = record {
            config = config;
            quiet = never.1;
            begins = begins_unlinked w socket.own isn config now h in_range opens legal;
            still = never.0;
            begun = opened_start w socket.own isn config now h in_range opens legal;
          };
        })
        | inr at ↦ inr (ByHandshake isn config now in_range opens at)
      ]
  way-connects net endpoint socket (Paired config peer now) in_range opens legal met = inr
      (ForRequest config peer now in_range opens met)
  way-connects net endpoint socket (PairedAt config peer now start) in_range opens legal met = inr (AsPair met)

  module _ (net : List (EndpointRecord C)) (lawful : AreLawful w net) where
    -- a socket of the records is what its record says
    pub stands-socket : (addr : Addr) (socket : Enrolled C) → StandsAt net addr socket → IsSocket w socket
    stands-socket addr socket here = (lawful.each here.endpoint here.among).sockets socket here.enrolled

    pub stands-connects : (addr : Addr) (socket : Enrolled C) → (here : StandsAt net addr socket)
        → IsIdle socket ⊎ Connects net here.endpoint socket
    stands-connects addr socket here =
        let is = stands-socket addr socket here in
        way-connects net here.endpoint socket socket.way is.in_range is.opened is.legal
        ((lawful.each here.endpoint here.among).met socket here.enrolled)

  -- ---- whom it met

  module _ (net : List (EndpointRecord C)) (lawful : AreLawful w net) (said : AllSaid w net) where
    -- a socket at the peer's address with its ID, which names this one, and carries the same
    pub record HasMet (addr : Addr) (own : ℕ) (k : Kind) (peer : Peer) : Type 0 where
      pub socket : Enrolled C
      pub stands : StandsAt net peer.addr socket
      pub own_is : socket.own ≡ peer.id
      pub back : own_peer w socket.history ≡ Some (record { addr = addr; id = own })
      pub kind : socket.history.opening.kind ≡ k

    -- a socket at the peer's address with its ID, of its initial sequence number
    pub record IsTold (peer : Peer) : Type 0 where
      pub socket : Enrolled C
      pub stands : StandsAt net peer.addr socket
      pub own_is : socket.own ≡ peer.id
      pub isn_is : socket.history.opening.isn ≡ peer.isn

    module _ (addr : Addr) (socket : Enrolled C) (here : StandsAt net addr socket) (isn : ℕ) (config : Config) (now : ℕ)
        (in_range : IsOpened socket.own isn config) (opens : socket.history.opening
        ≡ opened w socket.own isn config now) where
      abbrev last_peer_of : Peer
      last_peer_of = (state_of w socket.history).peer

      legal : IsLegal w socket.history
      legal = (stands-socket net lawful addr socket here).legal

      own_of : socket.history.opening.own ≡ socket.own
      own_of = opened_name w socket.own isn config now socket.history in_range opens legal

      module _ (at : IsConnectedAt w config 0 socket.history.opening socket.history.items) where
        met_by : IsMet w config socket.history.opening socket.history.items at
        met_by = opened-met w socket.own isn config now socket.history.opening in_range opens socket.history.items at

        -- the handshake that connected this one was emitted by a socket with the peer's ID that carries the same
        pub met_kind : (other : Enrolled C) → StandsAt net last_peer_of.addr other → other.own ≡ last_peer_of.id
            → other.history.opening.kind ≡ socket.history.opening.kind
        met_kind other there own_is =
            let h = socket.history in
            let by = met_by.by in
            let stays = met_by.stays in
            let suits = suited w socket.own isn config now h in_range opens legal at in
            let among = arrives-at at.front at.item at.rest h.items at.linked.from at.linked.raw at.joined
            at.linked.arrives in
            let was = said addr socket here (datagram_from at.linked.from at.linked.raw) among in
            let names = answer-names suits.dest (asked suits.shake.ask) suits.answers in
            let named = said-own w net lawful at.linked.from addr at.linked.raw was suits.stamp suits.dest suits.shake
            suits.reads names in
            let carries = said-kind w net lawful at.linked.from addr at.linked.raw was suits.stamp suits.dest
            suits.shake suits.reads names in
            let from_is : at.linked.from ≡ by.from = same-from at.item.event.act at.linked.from at.linked.raw by.from
            by.raw at.linked.arrives by.arrives in
            let t = after_items w h.opening at.front in
            let peer_is = linked-peer w (at_moment t at.item.event.now) at.linked.peer at.linked.from_whom
            at.linked.emissions
            (step w t at.item.event) at.linked.outcome_is in
            let stands = subst (λ (a : Addr). StandsAt net a was.socket)
            (from_is ∙ by.addr ∙ ap (λ (p : Peer). p.addr) (sym stays.peer)) was.stands in
            let id_is : was.socket.own ≡ last_peer_of.id =
            sym named.0 ∙ suits.id ∙ ap (λ (p : Peer). p.id) (sym peer_is) ∙ ap (λ (p : Peer). p.id) (sym stays.peer) in
            let same = same-socket w net lawful last_peer_of.addr was.socket other stands there (id_is ∙ sym own_is) in
            let front_kind = (after_items-keeps_name w h.opening at.front).kind in
            subst (λ (x : Enrolled C). x.history.opening.kind ≡ h.opening.kind) same
            (same-kind _ _ (sym carries ∙ suits.kind) ∙ front_kind)

        -- and it names this one
        pub has_met : HasMet addr socket.own socket.history.opening.kind last_peer_of
        has_met =
            let h = socket.history in
            let by = met_by.by in
            let stays = met_by.stays in
            let among = arrives-at at.front at.item at.rest h.items by.from by.raw at.joined by.arrives in
            let was = said addr socket here (datagram_from by.from by.raw) among in
            let answers = either-answers (asked by.shake.ask) by.answers in
            let named = said-own w net lawful by.from addr by.raw was by.stamp by.dest by.shake by.reads
            (answer-names by.dest _ answers) in
            let bound = said-bound w net lawful by.from addr by.raw was (Handshake by.stamp by.dest by.shake) by.reads
            answers in
            let dest_is : by.dest ≡ socket.own = by.own ∙ (after_items-keeps_name w h.opening at.front).own ∙ own_of in
            let from_is : by.from ≡ last_peer_of.addr = by.addr ∙ ap (λ (p : Peer). p.addr) (sym stays.peer) in
            let id_is : was.socket.own ≡ last_peer_of.id = sym named.0 ∙ by.id
            ∙ ap (λ (p : Peer). p.id) (sym stays.peer) in
            let stands = subst (λ (a : Addr). StandsAt net a was.socket) from_is was.stands in
            record {
              socket = was.socket;
              stands = stands;
              own_is = id_is;
              back = subst (λ (n : ℕ). own_peer w was.socket.history ≡ Some (record { addr = addr; id = n })) dest_is
                  bound;
              kind = met_kind was.socket stands id_is;
            }

      -- the handshake that told of the peer was emitted by a socket with its ID and its initial sequence number, to
      -- this address. It is for this socket, or says that its socket wants to meet
      pub record IsIntroducedBy (other : Enrolled C) : Type 0 where
        pub emission : Emission
        pub stamp : ℕ
        pub dest : ℕ
        pub shake : Shake
        pub stands : StandsAt net last_peer_of.addr other
        pub own_is : other.own ≡ last_peer_of.id
        pub isn_is : other.history.opening.isn ≡ last_peer_of.isn
        pub emits : Contains (emitted w other.history) emission
        pub sent_to : emission.datagram.addr ≡ addr
        pub reads : read emission.datagram.bytes ≡ Ok (Handshake stamp dest shake)
        pub asks : (asked shake.ask ≡ asks.Meets) ⊎ ((asked shake.ask ≡ asks.Answers) × (dest ≡ socket.own))

      introduced-names : (dest : ℕ) (a : Asked) → (a ≡ asks.Meets) ⊎ ((a ≡ asks.Answers) × (dest ≡ socket.own))
          → names_sender dest a ≡ true
      introduced-names dest a (inl is) = ap (names_sender dest) is
      introduced-names dest a (inr is) = ap (names_sender dest) is.0

      pub introduced_by : has_peer (state_of w socket.history).origin ≡ true
          → (other : Enrolled C) × IsIntroducedBy other
      introduced_by has =
          let h = socket.history in
          let begun = subst (IsKnown w config 0) (sym opens) (way-known w socket.own (Opened isn config now)) in
          let nobody = opened-nobody w socket.own isn config now h.opening in_range opens in
          let at = peer-introduced w config 0 h.opening h.items begun nobody has in
          let told = at.introduced in
          let among = arrives-at at.front at.item at.rest h.items told.from told.raw at.joined told.arrives in
          let was = said addr socket here (datagram_from told.from told.raw) among in
          let own_now = (after_items-keeps_name w h.opening at.front).own ∙ own_of in
          let asks_so : (asked told.shake.ask ≡ asks.Meets) ⊎
          ((asked told.shake.ask ≡ asks.Answers) × (told.dest ≡ socket.own)) =
          elim told.asks [ inl meets ↦ inl meets | inr answers ↦ inr (answers.0, answers.1 ∙ own_now) ] in
          let named = said-own w net lawful told.from addr told.raw was told.stamp told.dest told.shake told.reads
          (introduced-names told.dest (asked told.shake.ask) asks_so) in
          let from_is : told.from ≡ last_peer_of.addr = told.addr ∙ ap (λ (p : Peer). p.addr) (sym at.stays.peer) in (
            was.socket,
            record {
              emission = was.emission;
              stamp = told.stamp;
              dest = told.dest;
              shake = told.shake;
              stands = subst (λ (a : Addr). StandsAt net a was.socket) from_is was.stands;
              own_is = sym named.0 ∙ told.id ∙ ap (λ (p : Peer). p.id) (sym at.stays.peer);
              isn_is = sym named.1 ∙ told.isn ∙ ap (λ (p : Peer). p.isn) (sym at.stays.peer);
              emits = was.emits;
              sent_to = was.sent_to;
              reads = ap read was.same ∙ told.reads;
              asks = asks_so;
            },
          )

    -- a request at a listener of an endpoint was emitted by a socket with the peer's ID and initial sequence number,
    -- to the endpoint
    pub record IsRequestOf (addr : Addr) (peer : Peer) (other : Enrolled C) : Type 0 where
      pub emission : Emission
      pub stamp : ℕ
      pub shake : Shake
      pub stands : StandsAt net peer.addr other
      pub own_is : other.own ≡ peer.id
      pub isn_is : other.history.opening.isn ≡ peer.isn
      pub emits : Contains (emitted w other.history) emission
      pub sent_to : emission.datagram.addr ≡ addr
      pub reads : read emission.datagram.bytes ≡ Ok (Handshake stamp 0 shake)
      pub asks : asked shake.ask ≡ asks.Requests

    pub requested_by : (addr : Addr) (socket : Enrolled C) → (here : StandsAt net addr socket)
        → (config : Config) (peer : Peer)
        → IsRequested here.endpoint config peer → (other : Enrolled C) × IsRequestOf addr peer other
    requested_by addr socket here config peer request =
        let listener = request.listener in
        let stands : StandsAt net addr listener =
        record { endpoint = here.endpoint; among = here.among; addr_is = here.addr_is; enrolled = request.among } in
        let is = stands-socket net lawful addr listener stands in
        let among = arrives-among listener.history.items request.item peer.addr request.bytes request.happened
        request.arrives in
        let was = said addr listener stands (datagram_from peer.addr request.bytes) among in
        let asks_so = promised-request w listener.history.opening listener.history.items request.item peer.addr
        request.bytes request.stamp 0
        request.shake is.legal request.happened request.arrives request.reads request.promised in
        let named = said-own w net lawful peer.addr addr request.bytes was request.stamp 0 request.shake request.reads
        (ap (names_sender 0) asks_so) in (
          was.socket,
          record {
            emission = was.emission;
            stamp = request.stamp;
            shake = request.shake;
            stands = was.stands;
            own_is = sym named.0 ∙ request.id_is;
            isn_is = sym named.1 ∙ request.isn_is;
            emits = was.emits;
            sent_to = was.sent_to;
            reads = ap read was.same ∙ request.reads;
            asks = asks_so;
          },
        )
