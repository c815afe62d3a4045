-- The records of a script's sockets, one record for each address of a host, are lawful.
use Rattle.std.proofs.Common.{◌≡◌, ℕ, suc, zero, ◌+◌, true, false, Bool, List, [], ◌∷◌, Some, refl, ap, ◌∙◌, sym, subst, inl, inr, ◌⊎◌, arith}
use Rattle.std.specs.Prelude.{slice_get, map}
use Rattle.std.specs.List.{Contains}
use Rattle.std.proofs.lemmas.List.Elements.{Contains-append_left, Contains-append_right, Contains-append_cases, Contains-push, Contains-push_cases}
use Rattle.udt_model.specs.declared.addresses.Addr.{Addr}
use Rattle.udt_model.specs.declared.answers.Peer.{Peer}
use Rattle.udt_model.specs.declared.packets.Config.{Config}
use Rattle.udt_model.specs.Addresses.{same_addr}
use Rattle.udt_model.specs.Network.{ScriptSocket, Network}
use Rattle.udt_model.specs.Rate.{Ways}
use Rattle.udt_model.specs.Records.{Way, Opened, Paired, PairedAt, Enrolled, EndpointRecord, StandsAt, IsPaired, IsRequested, IsAsked, ArePaired, IsSocket, own_peer, IsLawful, AreLawful}
use Rattle.udt_model.specs.Script.{network_after}
use Rattle.udt_model.proofs.AddressLemmas.{same_addr-is}
use Rattle.udt_laws.specs.Scripts.{enrolled_at, IsAmong, HasLawfulRecords, ScriptLawful}
use Rattle.udt_laws.proofs.scripts.KeepsNetwork.{script-network}
use Rattle.udt_laws.proofs.scripts.ReplacedOne.{found-once, map-among, among-map}
use Rattle.udt_laws.proofs.scripts.ScriptNetworks.{addresses, WasRequested, HasMate, WasAsked, HasWay, IsNetwork}
use Rattle.udt_laws.proofs.scripts.UnadoptedPair.{same-addr}
use Rattle.udt_laws.proofs.sent_blocks.SocketsSend.{addressed, named}

module _ {C : Type 0} where
  -- the sockets at an address, with the IDs after their places, from this place on
  abbrev onto_those : Bool → Enrolled C → List (Enrolled C) → List (Enrolled C)
  onto_those true enrolled others = enrolled ∷ others
  onto_those false enrolled others = others

  those_at : ℕ → Addr → List Way → List (ScriptSocket C) → List (Enrolled C)
  those_at k addr [] sockets = []
  those_at k addr (way ∷ ways) [] = []
  those_at k addr (way ∷ ways) (socket ∷ sockets) =
      onto_those (same_addr socket.host addr) (enrolled_at k way socket) (those_at (suc k) addr ways sockets)

  -- one of these sockets with the way that it was opened
  record IsOne (k : ℕ) (addr : Addr) (ways : List Way) (sockets : List (ScriptSocket C)) (enrolled : Enrolled C) : Type 0 where
    place : ℕ
    way : Way
    socket : ScriptSocket C
    way_at : slice_get ways place ≡ Some way
    at : slice_get sockets place ≡ Some socket
    host : socket.host ≡ addr
    is : enrolled ≡ enrolled_at (k + place) way socket

  onto-cases : (is : Bool) (one enrolled : Enrolled C) (others : List (Enrolled C)) → Contains (onto_those is one others) enrolled
      → ((is ≡ true) × (one ≡ enrolled)) ⊎ Contains others enrolled
  onto-cases false one enrolled others among = inr among
  onto-cases true one enrolled others among = elim (Contains-append_cases (one ∷ []) others enrolled among) [
    | inl here ↦ elim (Contains-push_cases [] one enrolled here) [
      | inl none ↦ absurd (omega (arith, none.1))
      | inr same ↦ inl (refl, same)
    ]
    | inr there ↦ inr there
  ]

  later : (k : ℕ) (addr : Addr) (way : Way) (ways : List Way) (socket : ScriptSocket C) (sockets : List (ScriptSocket C))
      (enrolled : Enrolled C)
      → IsOne (suc k) addr ways sockets enrolled → IsOne k addr (way ∷ ways) (socket ∷ sockets) enrolled
  later k addr way ways socket sockets enrolled one =
      let place : suc k + one.place ≡ k + suc one.place = omega arith in
      record {
        place = suc one.place;
        way = one.way;
        socket = one.socket;
        way_at = one.way_at;
        at = one.at;
        host = one.host;
        is = one.is ∙ ap (λ (j : ℕ). enrolled_at j one.way one.socket) place;
      }

  is-one : (k : ℕ) (addr : Addr) (ways : List Way) (sockets : List (ScriptSocket C)) (enrolled : Enrolled C)
      → Contains (those_at k addr ways sockets) enrolled → IsOne k addr ways sockets enrolled
  unfolding those_at
  is-one k addr [] sockets enrolled among = absurd (omega (arith, among.1))
  is-one k addr (way ∷ ways) [] enrolled among = absurd (omega (arith, among.1))
  is-one k addr (way ∷ ways) (socket ∷ sockets) enrolled among =
      elim (onto-cases (same_addr socket.host addr) (enrolled_at k way socket) enrolled (those_at (suc k) addr ways sockets)
      among) [
        | inl here ↦
            let place : k ≡ k + 0 = omega arith in
            record {
              place = 0;
              way = way;
              socket = socket;
              way_at = refl;
              at = refl;
              host = same_addr-is socket.host addr here.0;
              is = sym here.1 ∙ ap (λ (j : ℕ). enrolled_at j way socket) place;
            }
        | inr there ↦ later k addr way ways socket sockets enrolled (is-one (suc k) addr ways sockets enrolled there)
      ]

  onto-here : (is : Bool) (one : Enrolled C) (others : List (Enrolled C)) → is ≡ true → Contains (onto_those is one others) one
  onto-here true one others test = Contains-append_left (one ∷ []) others one (Contains-push [] one)
  onto-here false one others test = absurd (cc)

  onto-there : (is : Bool) (one enrolled : Enrolled C) (others : List (Enrolled C)) → Contains others enrolled
      → Contains (onto_those is one others) enrolled
  onto-there true one enrolled others among = Contains-append_right (one ∷ []) others enrolled among
  onto-there false one enrolled others among = among

  one-is : (k : ℕ) (addr : Addr) (ways : List Way) (sockets : List (ScriptSocket C)) (place : ℕ) (way : Way)
      (socket : ScriptSocket C)
      → slice_get ways place ≡ Some way → slice_get sockets place ≡ Some socket → socket.host ≡ addr
      → Contains (those_at k addr ways sockets) (enrolled_at (k + place) way socket)
  unfolding those_at
  one-is k addr [] sockets place way socket way_at at host = absurd (cc)
  one-is k addr (first_way ∷ ways) [] place way socket way_at at host = absurd (cc)
  one-is k addr (first_way ∷ ways) (first ∷ sockets) zero way socket way_at at host =
      let way_is : first_way ≡ way = cc in
      let is : first ≡ socket = cc in
      let test : same_addr first.host addr ≡ true = ap (λ (a : Addr). same_addr a addr)
      (ap (λ (s : ScriptSocket C). s.host) is ∙ host) ∙ same-addr addr in
      let place : k ≡ k + 0 = omega arith in
      let all = those_at k addr (first_way ∷ ways) (first ∷ sockets) in
      let here = onto-here (same_addr first.host addr) (enrolled_at k first_way first) (those_at (suc k) addr ways sockets)
      test in
      subst (λ (s : ScriptSocket C). Contains all (enrolled_at (k + 0) way s)) is
      (subst (λ (x : Way). Contains all (enrolled_at (k + 0) x first)) way_is
      (subst (λ (j : ℕ). Contains all (enrolled_at j first_way first)) place here))
  one-is k addr (first_way ∷ ways) (first ∷ sockets) (suc place) way socket way_at at host =
      let there = one-is (suc k) addr ways sockets place way socket way_at at host in
      let same : suc k + place ≡ k + suc place = omega arith in
      onto-there (same_addr first.host addr) (enrolled_at k first_way first) _ (those_at (suc k) addr ways sockets)
      (subst (λ (j : ℕ). Contains (those_at (suc k) addr ways sockets) (enrolled_at j way socket)) same there)

module _ {C : Type 0} (w : Ways C) (n : Network C) (is : IsNetwork w n) where
  -- ---- the records

  abbrev record_at : Addr → EndpointRecord C
  record_at addr = record { addr = addr; sockets = those_at 0 addr is.ways n.sockets }

  abbrev net : List (EndpointRecord C)
  net = map record_at (addresses n.hosts)

  -- the socket at a place, as the records have it
  record IsHeld (addr : Addr) (enrolled : Enrolled C) : Type 0 where
    place : ℕ
    socket : ScriptSocket C
    at : slice_get n.sockets place ≡ Some socket
    host : socket.host ≡ addr
    has : HasWay w n.hosts is.ways n.sockets place socket
    is_it : enrolled ≡ enrolled_at place has.way socket

  held : (addr : Addr) (enrolled : Enrolled C) → Contains (record_at addr).sockets enrolled → IsHeld addr enrolled
  held addr enrolled among =
      let one = is-one 0 addr is.ways n.sockets enrolled among in
      let has = is.sockets one.place one.socket one.at in
      let place : 0 + one.place ≡ one.place = omega arith in
      let way = found-once is.ways one.place one.way has.way one.way_at has.at in
      record {
        place = one.place;
        socket = one.socket;
        at = one.at;
        host = one.host;
        has = has;
        is_it = one.is ∙ ap (λ (j : ℕ). enrolled_at j one.way one.socket) place
            ∙ ap (λ (x : Way). enrolled_at one.place x one.socket) way;
      }

  holds : (place : ℕ) (way : Way) (socket : ScriptSocket C) → slice_get is.ways place ≡ Some way
      → slice_get n.sockets place ≡ Some socket
      → Contains (record_at socket.host).sockets (enrolled_at place way socket)
  holds place way socket way_at at =
      let same : 0 + place ≡ place = omega arith in
      subst (λ (j : ℕ). Contains (record_at socket.host).sockets (enrolled_at j way socket)) same
      (one-is 0 socket.host is.ways n.sockets place way socket way_at at refl)

  stands-at : (place : ℕ) (way : Way) (socket : ScriptSocket C) → slice_get is.ways place ≡ Some way
      → slice_get n.sockets place ≡ Some socket
      → StandsAt net socket.host (enrolled_at place way socket)
  stands-at place way socket way_at at = record {
    endpoint = record_at socket.host;
    among = among-map record_at (addresses n.hosts) socket.host (is.sockets place socket at).housed;
    addr_is = refl;
    enrolled = holds place way socket way_at at;
  }

  -- ---- they are lawful

  same-held : (addr : Addr) (enrolled other : Enrolled C) (a : IsHeld addr enrolled) (b : IsHeld addr other)
      → a.place ≡ b.place → enrolled ≡ other
  same-held addr enrolled other a b same =
      let here = subst (λ (j : ℕ). slice_get n.sockets j ≡ Some a.socket) same a.at in
      let socket = found-once n.sockets b.place a.socket b.socket here b.at in
      let way_here = subst (λ (j : ℕ). slice_get is.ways j ≡ Some a.has.way) same a.has.at in
      let way = found-once is.ways b.place a.has.way b.has.way way_here b.has.at in
      a.is_it ∙ ap (λ (j : ℕ). enrolled_at j a.has.way a.socket) same ∙ ap (λ (x : Way). enrolled_at b.place x a.socket) way
      ∙ ap (enrolled_at b.place b.has.way) socket ∙ sym b.is_it

  requested : (addr : Addr) (host : Addr) (config : Config) (peer : Peer) → host ≡ addr → WasRequested n.sockets host config peer
      → IsRequested (record_at addr) config peer
  requested addr host config peer at_host was =
      let has = is.sockets was.place was.listener was.at in
      record {
        listener = enrolled_at was.place has.way was.listener;
        item = was.item;
        bytes = was.bytes;
        stamp = was.stamp;
        shake = was.shake;
        among = subst (λ (a : Addr). Contains (record_at a).sockets (enrolled_at was.place has.way was.listener))
            (was.host_is ∙ at_host)
            (holds was.place has.way was.listener has.at was.at);
        same_kind = was.same_kind;
        happened = was.happened;
        arrives = was.arrives;
        promised = was.promised;
        reads = was.reads;
        id_is = was.id_is;
        isn_is = was.isn_is;
      }

  mated : (place : ℕ) (socket : ScriptSocket C) (addr : Addr) (way : Way) → socket.host ≡ addr
      → HasMate is.ways n.sockets place socket.host way
      → IsPaired net addr (enrolled_at place way socket)
  mated place socket addr way at_host mate =
      record {
        other_addr = mate.other.host;
        other = enrolled_at mate.place mate.other_way mate.other;
        stands = stands-at mate.place mate.other_way mate.other mate.way_at mate.at;
        paired = subst (λ (a : Addr). ArePaired a (place + 1) way mate.other.host (mate.place + 1) mate.other_way)
            at_host mate.are;
      }

  asked-for : (place : ℕ) (socket : ScriptSocket C) (addr : Addr) (way : Way) → socket.host ≡ addr
      → WasAsked is.ways n.sockets place socket.host way
      → IsAsked net (record_at addr) (enrolled_at place way socket) way
  asked-for place socket addr (Opened isn config now) at_host was = tt
  asked-for place socket addr (Paired config peer now) at_host was = requested addr socket.host config peer at_host was
  asked-for place socket addr (PairedAt config peer now start) at_host was = mated place socket addr
      (PairedAt config peer now start) at_host was

  socket-is : (addr : Addr) (enrolled : Enrolled C) → Contains (record_at addr).sockets enrolled → IsSocket w enrolled
  socket-is addr enrolled among =
      let a = held addr enrolled among in
      subst (IsSocket w) (sym a.is_it) a.has.is

  same-own : (one other : Enrolled C) (k m : ℕ) → one.own ≡ k + 1 → other.own ≡ m + 1 → one.own ≡ other.own → k ≡ m
  same-own one other k m first second same = omega (arith, first, second, same)

  record-lawful : (addr : Addr) → IsLawful w net (record_at addr)
  record-lawful addr = record {
    sockets = socket-is addr;
    ids = λ socket other among other_among own.
        let a = held addr socket among in
        let b = held addr other other_among in
        let place = same-own socket other a.place b.place (ap (λ (e : Enrolled C). e.own) a.is_it)
        (ap (λ (e : Enrolled C). e.own) b.is_it) own in
        same-held addr socket other a b place;
    peers = λ socket other peer among other_among names other_names.
        let a = held addr socket among in
        let b = held addr other other_among in
        let first = subst (λ (e : Enrolled C). own_peer w e.history ≡ Some peer) a.is_it names in
        let second = subst (λ (e : Enrolled C). own_peer w e.history ≡ Some peer) b.is_it other_names in
        same-held addr socket other a b
        (is.peers a.place b.place a.socket b.socket peer a.at b.at (a.host ∙ sym b.host) first second);
    addressed = λ socket emission packet among. addressed w socket emission packet (socket-is addr socket among);
    named = λ socket emission stamp dest shake among. named w socket emission stamp dest shake (socket-is addr socket among);
    met = λ socket among.
        let a = held addr socket among in
        subst (λ (e : Enrolled C). IsAsked net (record_at addr) e e.way) (sym a.is_it)
        (asked-for a.place a.socket addr a.has.way a.host a.has.asked);
  }

  records-lawful : AreLawful w net
  records-lawful = record {
    each = λ endpoint among.
        let found = map-among record_at (addresses n.hosts) endpoint among in
        subst (IsLawful w net) found.2 (record-lawful found.0);
    addresses = λ endpoint other among other_among same.
        let one = map-among record_at (addresses n.hosts) endpoint among in
        let two = map-among record_at (addresses n.hosts) other other_among in
        let addr : one.0 ≡ two.0 = ap (λ (e : EndpointRecord C). e.addr) one.2 ∙ same
        ∙ sym (ap (λ (e : EndpointRecord C). e.addr) two.2) in
        sym one.2 ∙ ap record_at addr ∙ two.2;
  }

  is-among : (addr : Addr) (enrolled : Enrolled C) → StandsAt net addr enrolled → IsAmong n addr enrolled
  is-among addr enrolled stands =
      let found = map-among record_at (addresses n.hosts) stands.endpoint stands.among in
      let among = subst (λ (e : EndpointRecord C). Contains e.sockets enrolled) (sym found.2) stands.enrolled in
      let a = held found.0 enrolled among in
      record {
        place = a.place;
        socket = a.socket;
        at = a.at;
        host_is = a.host ∙ ap (λ (e : EndpointRecord C). e.addr) found.2 ∙ stands.addr_is;
        own_is = ap (λ (e : Enrolled C). e.own) a.is_it;
        history_is = ap (λ (e : Enrolled C). e.history) a.is_it;
      }

  pub network-lawful : HasLawfulRecords w n
  network-lawful = record {
    net = net;
    lawful = records-lawful;
    stands = λ place socket at.
        let has = is.sockets place socket at in
        record { way = has.way; stands = stands-at place has.way socket has.at at };
    among = is-among;
  }

module _ {C : Type 0} (w : Ways C) where
  pub script_lawful : ScriptLawful w
  script_lawful lines = network-lawful w (network_after w lines) (script-network w lines)
