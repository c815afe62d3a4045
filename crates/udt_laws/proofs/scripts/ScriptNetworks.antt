-- The network of a script: how its sockets were opened and who asked for them. It stays one where sockets change or are added.
use Rattle.std.proofs.Common.{◌≡◌, ℕ, ◌+◌, ◌≤◌, List, [], ◌∷◌, ◌++◌, length, Some, Ok, refl, ap, ◌∙◌, sym, subst, inl, inr, ◌⊎◌, arith}
use Rattle.std.specs.Prelude.{slice_get, slice_set, map}
use Rattle.std.specs.List.{Contains}
use Rattle.std.proofs.lemmas.Bool.{cases_eq}
use Rattle.std.proofs.lemmas.List.{length-append, length-set, map-append}
use Rattle.std.proofs.lemmas.List.Elements.{Contains-append_left, Contains-push_cases}
use Rattle.std.proofs.lemmas.Option.{slice_get_within}
use Rattle.udt_model.specs.declared.addresses.Addr.{Addr}
use Rattle.udt_model.specs.declared.answers.Heard.TheVariants as heard
use Rattle.udt_model.specs.declared.answers.Peer.{Peer}
use Rattle.udt_model.specs.declared.packets.Config.{Config}
use Rattle.udt_model.specs.declared.packets.Shake.{Shake}
use Rattle.udt_model.specs.Events.{Arrive, DidHear}
use Rattle.udt_model.specs.History.{Item, History, after_items, IsLegal}
use Rattle.udt_model.specs.Network.{ScriptHost, ScriptSocket, ScriptDatagram, Network, first_host, second_host}
use Rattle.udt_model.specs.Opening.{opening}
use Rattle.udt_model.specs.Rate.{Ways}
use Rattle.udt_model.specs.Records.{Way, Opened, Paired, PairedAt, IsSocket, ArePaired, PeerPair, peer_by, own_peer}
use Rattle.udt_model.specs.State.{State}
use Rattle.udt_model.specs.Wire.{Handshake, read}
use Rattle.udt_model.proofs.PeerLemmas.{own_peer-stays}
use Rattle.udt_laws.specs.Scripts.{enrolled_at}
use Rattle.udt_laws.proofs.scripts.EachSocket.{Each, each-set, each-more}
use Rattle.udt_laws.proofs.scripts.KeptPeers.{HaveOwnPeers, MayTake, set-keeps_peers}
use Rattle.udt_laws.proofs.scripts.ReplacedOne.{set-other, set-same, append-first, found-once}

-- a host of pairs
abbrev pub IsFixed : Addr → Type 0
IsFixed addr = (addr ≡ first_host) ⊎ (addr ≡ second_host)

abbrev pub IsPairedAt : Way → Type 0
IsPairedAt (PairedAt config peer now start) = Unit {0}
IsPairedAt other = ⊥

-- the addresses of all hosts
abbrev pub named_addresses : List ScriptHost → List Addr
named_addresses hosts = map (λ (host : ScriptHost). host.addr) hosts

abbrev pub addresses : List ScriptHost → List Addr
addresses hosts = (first_host ∷ second_host ∷ []) ++ named_addresses hosts

-- what names one pair names one ID
pub same-id : (a b : PeerPair) → Some a ≡ Some b → a.id ≡ b.id
same-id a b is = cc

-- ways stay as they are, and others may follow
abbrev pub WaysGrow : List Way → List Way → Type 0
WaysGrow ways more = (k : ℕ) (way : Way) → slice_get ways k ≡ Some way → slice_get more k ≡ Some way

module _ {C : Type 0} where
  -- a listener at this host, of this kind, has promised a place to a request of this peer
  pub record WasRequested (sockets : List (ScriptSocket C)) (host : Addr) (config : Config) (peer : Peer) : Type 0 where
    pub place : ℕ
    pub listener : ScriptSocket C
    pub at : slice_get sockets place ≡ Some listener
    pub host_is : listener.host ≡ host
    pub item : Item
    pub bytes : List ℕ
    pub stamp : ℕ
    pub shake : Shake
    pub same_kind : listener.history.opening.kind ≡ config.kind
    pub happened : Contains listener.history.items item
    pub arrives : item.event.act ≡ Arrive peer.addr bytes
    pub promised : item.reply ≡ DidHear heard.Request
    pub reads : read bytes ≡ Ok (Handshake stamp 0 shake)
    pub id_is : shake.id ≡ peer.id
    pub isn_is : shake.isn ≡ peer.isn

  -- the other half of a socket of a pair
  pub record HasMate (ways : List Way) (sockets : List (ScriptSocket C)) (k : ℕ) (host : Addr) (way : Way) : Type 0 where
    pub place : ℕ
    pub other : ScriptSocket C
    pub other_way : Way
    pub at : slice_get sockets place ≡ Some other
    pub way_at : slice_get ways place ≡ Some other_way
    pub are : ArePaired host (k + 1) way other.host (place + 1) other_way

  -- why a socket at this place and host may be opened as it was
  abbrev pub WasAsked : List Way → List (ScriptSocket C) → ℕ → Addr → Way → Type 0
  WasAsked ways sockets k host (Opened isn config now) = Unit {0}
  WasAsked ways sockets k host (Paired config peer now) = WasRequested sockets host config peer
  WasAsked ways sockets k host (PairedAt config peer now start) = HasMate ways sockets k host (PairedAt config peer now start)

  -- ---- what sockets become

  -- at this place stands what this socket has become
  pub record StillThere (sockets : List (ScriptSocket C)) (k : ℕ) (socket : ScriptSocket C) : Type 0 where
    pub found : ScriptSocket C
    pub at : slice_get sockets k ≡ Some found
    pub host : found.host ≡ socket.host
    pub opening : found.history.opening ≡ socket.history.opening
    pub longer : (item : Item) → Contains socket.history.items item → Contains found.history.items item

  abbrev pub Grow : List (ScriptSocket C) → List (ScriptSocket C) → Type 0
  Grow sockets more = Each sockets (StillThere more)

  requested-still : (sockets more : List (ScriptSocket C)) (host : Addr) (config : Config) (peer : Peer) → Grow sockets more
      → WasRequested sockets host config peer → WasRequested more host config peer
  requested-still sockets more host config peer grow was =
      let still = grow was.place was.listener was.at in
      record {
        place = was.place;
        listener = still.found;
        at = still.at;
        host_is = still.host ∙ was.host_is;
        item = was.item;
        bytes = was.bytes;
        stamp = was.stamp;
        shake = was.shake;
        same_kind = ap (λ (s : State C). s.kind) still.opening ∙ was.same_kind;
        happened = still.longer was.item was.happened;
        arrives = was.arrives;
        promised = was.promised;
        reads = was.reads;
        id_is = was.id_is;
        isn_is = was.isn_is;
      }

  mate-still : (ways more_ways : List Way) (sockets more : List (ScriptSocket C)) (k : ℕ) (host : Addr) (way : Way)
      → WaysGrow ways more_ways
      → Grow sockets more → HasMate ways sockets k host way → HasMate more_ways more k host way
  mate-still ways more_ways sockets more k host way ways_grow grow mate =
      let still = grow mate.place mate.other mate.at in
      record {
        place = mate.place;
        other = still.found;
        other_way = mate.other_way;
        at = still.at;
        way_at = ways_grow mate.place mate.other_way mate.way_at;
        are = subst (λ (addr : Addr). ArePaired host (k + 1) way addr (mate.place + 1) mate.other_way) (sym still.host) mate.are;
      }

  asked-still : (ways more_ways : List Way) (sockets more : List (ScriptSocket C)) (k : ℕ) (host : Addr) (way : Way)
      → WaysGrow ways more_ways
      → Grow sockets more → WasAsked ways sockets k host way → WasAsked more_ways more k host way
  asked-still ways more_ways sockets more k host (Opened isn config now) ways_grow grow was = tt
  asked-still ways more_ways sockets more k host (Paired config peer now) ways_grow grow was =
      requested-still sockets more host config peer grow was
  asked-still ways more_ways sockets more k host (PairedAt config peer now start) ways_grow grow was =
      mate-still ways more_ways sockets more k host (PairedAt config peer now start) ways_grow grow was

module _ {C : Type 0} (w : Ways C) where
  -- ---- networks

  pub record HasWay (hosts : List ScriptHost) (ways : List Way) (sockets : List (ScriptSocket C)) (k : ℕ)
      (socket : ScriptSocket C) : Type 0 where
    pub way : Way
    pub at : slice_get ways k ≡ Some way
    pub is : IsSocket w (enrolled_at k way socket)
    pub asked : WasAsked ways sockets k socket.host way
    pub fixed : IsFixed socket.host → IsPairedAt way
    pub housed : Contains (addresses hosts) socket.host

  pub record IsNetwork (n : Network C) : Type 0 where
    pub ways : List Way
    pub count : length ways ≡ length n.sockets
    pub sockets : Each n.sockets (HasWay n.hosts ways n.sockets)
    pub peers : HaveOwnPeers w n.sockets
    pub apart : (addr : Addr) → Contains (named_addresses n.hosts) addr → IsFixed addr → ⊥

  way-still : (hosts more_hosts : List ScriptHost) (ways more_ways : List Way) (sockets more : List (ScriptSocket C)) (k : ℕ)
      (socket : ScriptSocket C)
      → ((addr : Addr) → Contains (addresses hosts) addr → Contains (addresses more_hosts) addr) → WaysGrow ways more_ways
      → Grow sockets more → HasWay hosts ways sockets k socket → HasWay more_hosts more_ways more k socket
  way-still hosts more_hosts ways more_ways sockets more k socket hosts_grow ways_grow grow has = record {
    way = has.way;
    at = ways_grow k has.way has.at;
    is = has.is;
    asked = asked-still ways more_ways sockets more k socket.host has.way ways_grow grow has.asked;
    fixed = has.fixed;
    housed = hosts_grow socket.host has.housed;
  }

  -- ---- a socket becomes another

  module _ (n : Network C) (place : ℕ) (old new : ScriptSocket C) (at : slice_get n.sockets place ≡ Some old)
      (host : new.host ≡ old.host)
      (opening : new.history.opening ≡ old.history.opening) (legal : IsLegal w new.history)
      (longer : (item : Item) → Contains old.history.items item → Contains new.history.items item) where
    abbrev replaced : List (ScriptSocket C)
    replaced = slice_set n.sockets place new

    grown : Grow n.sockets replaced
    grown k socket found = elim (cases_eq place k) [
      | inl same ↦
          let here = subst (λ (j : ℕ). slice_get n.sockets j ≡ Some old) same at in
          subst (StillThere replaced k) (found-once n.sockets k old socket here found) (record {
            found = new;
            at = subst (λ (j : ℕ). slice_get replaced j ≡ Some new) same (set-same n.sockets place old new at);
            host = host;
            opening = opening;
            longer = longer;
          })
      | inr other ↦ record {
        found = socket;
        at = set-other n.sockets place k new other ∙ found;
        host = refl;
        opening = refl;
        longer = λ item among. among;
      }
    ]

    new-way : (is : IsNetwork n) → HasWay n.hosts is.ways replaced place new
    new-way is =
        let has = is.sockets place old at in
        let asked = asked-still is.ways is.ways n.sockets replaced place old.host has.way (λ k way found. found)
        grown has.asked in
        record {
          way = has.way;
          at = has.at;
          is = record { in_range = has.is.in_range; opened = opening ∙ has.is.opened; legal = legal };
          asked = subst (λ (addr : Addr). WasAsked is.ways replaced place addr has.way) (sym host) asked;
          fixed = subst (λ (addr : Addr). IsFixed addr → IsPairedAt has.way) (sym host) has.fixed;
          housed = subst (Contains (addresses n.hosts)) (sym host) has.housed;
        }

    pub set-keeps : (datagrams : List ScriptDatagram) → MayTake w n.sockets place new → IsNetwork n
        → IsNetwork (record n { sockets = slice_set n.sockets place new; datagrams = datagrams })
    set-keeps datagrams may is = record {
      ways = is.ways;
      count = is.count ∙ sym (length-set n.sockets place new);
      sockets = each-set n.sockets place old new (HasWay n.hosts is.ways replaced) at
          (λ k socket found. way-still n.hosts n.hosts is.ways is.ways n.sockets replaced k socket (λ addr among. among)
          (λ j way there. there) grown
          (is.sockets k socket found))
          (new-way is);
      peers = set-keeps_peers w n.sockets place old new at may is.peers;
      apart = is.apart;
    }

  -- ---- sockets and hosts are added

  more-grown : (sockets added : List (ScriptSocket C)) → Grow sockets (sockets ++ added)
  more-grown sockets added k socket found = record {
    found = socket;
    at = append-first sockets added k socket found;
    host = refl;
    opening = refl;
    longer = λ item among. among;
  }

  pub add-keeps : (n : Network C) (is : IsNetwork n) (added_ways : List Way) (added : List (ScriptSocket C))
      → length added_ways ≡ length added
      → Each added (λ j socket. HasWay n.hosts (is.ways ++ added_ways) (n.sockets ++ added) (length n.sockets + j) socket)
      → HaveOwnPeers w (n.sockets ++ added) → IsNetwork (record n { sockets = n.sockets ++ added })
  add-keeps n is added_ways added same each peers = record {
    ways = is.ways ++ added_ways;
    count = omega (arith, is.count, same, length-append is.ways added_ways, length-append n.sockets added);
    sockets = each-more n.sockets added (HasWay n.hosts (is.ways ++ added_ways) (n.sockets ++ added))
        (λ k socket found. way-still n.hosts n.hosts is.ways (is.ways ++ added_ways) n.sockets (n.sockets ++ added) k socket
        (λ addr among. among)
        (λ j way there. append-first is.ways added_ways j way there) (more-grown n.sockets added) (is.sockets k socket found))
        each;
    peers = peers;
    apart = is.apart;
  }

  same-grown : (sockets : List (ScriptSocket C)) → Grow sockets sockets
  same-grown sockets k socket found =
      record { found = socket; at = found; host = refl; opening = refl; longer = λ item among. among }

  more-addresses : (hosts : List ScriptHost) (host : ScriptHost) (addr : Addr) → Contains (addresses hosts) addr
      → Contains (addresses (hosts ++ host ∷ [])) addr
  more-addresses hosts host addr among =
      let longer = Contains-append_left (addresses hosts) (host.addr ∷ []) addr among in
      let same = map-append (λ (h : ScriptHost). h.addr) hosts (host ∷ []) in
      subst (λ (l : List Addr). Contains ((first_host ∷ second_host ∷ []) ++ l) addr) (sym same) longer

  pub host-keeps : (n : Network C) (host : ScriptHost) → (IsFixed host.addr → ⊥) → IsNetwork n
      → IsNetwork (record n { hosts = n.hosts ++ host ∷ [] })
  host-keeps n host other is = record {
    ways = is.ways;
    count = is.count;
    sockets = λ k socket found. way-still n.hosts (n.hosts ++ host ∷ []) is.ways is.ways n.sockets n.sockets k socket
        (more-addresses n.hosts host)
        (λ j way there. there) (same-grown n.sockets) (is.sockets k socket found);
    peers = is.peers;
    apart = λ addr among. elim (Contains-push_cases (named_addresses n.hosts) host.addr addr
        (subst (λ (l : List Addr). Contains l addr) (map-append (λ (h : ScriptHost). h.addr) n.hosts (host ∷ [])) among)) [
          | inl old ↦ is.apart addr old
          | inr new ↦ subst (λ (a : Addr). IsFixed a → ⊥) new other
        ];
  }

  -- ---- whom a socket of a pair has as its peer

  pub paired-peer : (own : ℕ) (config : Config) (peer : Peer) (now start : ℕ) (h : History C)
      → h.opening ≡ opening w own config peer now start
      → own_peer w h ≡ Some (record { addr = peer.addr; id = peer.id })
  unfolding after_items opening
  paired-peer own config peer now start h is =
      own_peer-stays w own (PairedAt config peer now start) h.opening [] h.items (record { addr = peer.addr; id = peer.id }) is
      (ap (λ (s : State C). peer_by s.origin s.peer) is)

  mate-below : (n : Network C) (is : IsNetwork n) (k : ℕ) (socket : ScriptSocket C) (peer : PeerPair) (way : Way) → IsPairedAt way
      → IsSocket w (enrolled_at k way socket)
      → WasAsked is.ways n.sockets k socket.host way → own_peer w socket.history ≡ Some peer → peer.id ≤ length n.sockets
  mate-below n is k socket peer (Opened isn config now) paired socket_is asked names = absurd paired
  mate-below n is k socket peer (Paired config its now) paired socket_is asked names = absurd paired
  mate-below n is k socket peer (PairedAt config its now start) paired socket_is asked names =
      below asked.other_way asked.are
    where
      below : (other_way : Way)
          → ArePaired socket.host (k + 1) (PairedAt config its now start) asked.other.host (asked.place + 1) other_way
          → peer.id ≤ length n.sockets
      below (PairedAt other_config other_peer other_now other_start) are =
          let mine = paired-peer (k + 1) config its now start socket.history socket_is.opened in
          omega (arith, are.1, same-id _ _ (sym mine ∙ names), slice_get_within n.sockets asked.place asked.other asked.at)
      below (Opened isn config now) are = absurd are
      below (Paired config peer now) are = absurd are

  -- at a host of pairs each socket has one of the sockets as its peer
  pub fixed-below : (n : Network C) → IsNetwork n → (k : ℕ) (socket : ScriptSocket C) (peer : PeerPair)
      → slice_get n.sockets k ≡ Some socket
      → IsFixed socket.host → own_peer w socket.history ≡ Some peer → peer.id ≤ length n.sockets
  fixed-below n is k socket peer at fixed names =
      let has = is.sockets k socket at in
      mate-below n is k socket peer has.way (has.fixed fixed) has.is has.asked names
