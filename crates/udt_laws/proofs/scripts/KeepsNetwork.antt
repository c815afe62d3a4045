-- Whatever the lines of a script say, its network is one: each change keeps it.
use Rattle.std.proofs.Common.{◌≡◌, ℕ, ◌+◌, ◌<◌, ◌≤◌, true, false, List, [], ◌∷◌, ◌++◌, length, Some, refl, ap, ◌∙◌, sym, subst, inl, inr, arith}
use Rattle.std.specs.Prelude.{slice_get, slice_set, ◌||◌, if◌then◌else◌}
use Rattle.std.specs.List.{Contains, list_any}
use Rattle.std.proofs.lemmas.Bool.{cases_eq, or_parts}
use Rattle.std.proofs.lemmas.List.{append_assoc}
use Rattle.std.proofs.lemmas.List.Elements.{Contains-append_left, Contains-append_right, Contains-push}
use Rattle.std.proofs.lemmas.Option.{same_Some}
use Rattle.udt_model.specs.declared.limits.TheConstants.{MOST_SOCKETS}
use Rattle.udt_model.specs.declared.addresses.Addr.{Addr}
use Rattle.udt_model.specs.declared.answers.Origin.TheVariants as origin
use Rattle.udt_model.specs.declared.packets.Shake.{Shake}
use Rattle.udt_model.specs.Addresses.{same_addr}
use Rattle.udt_model.specs.Connections.{config_of}
use Rattle.udt_model.specs.Events.{Act, Arrive, Event, event, at_moment}
use Rattle.udt_model.specs.Handshakes.{peer_in}
use Rattle.udt_model.specs.History.{History, state_of, happened, item_of, after_items, AreLegal}
use Rattle.udt_model.specs.Lines.{Pairing, OpeningLine, is_arrival}
use Rattle.udt_model.specs.Network.{ScriptHost, ScriptSocket, ScriptDatagram, Network, empty_network, first_host, second_host, is_host, address_of_host}
use Rattle.udt_model.specs.Opening.{opened, opening, CanPair}
use Rattle.udt_model.specs.Rate.{Ways}
use Rattle.udt_model.specs.Records.{Way, Opened, Paired, PairedAt, Enrolled, IsSocket, PeerPair, opened_by, peer_by, own_peer}
use Rattle.udt_model.specs.Routes.{handshake_in}
use Rattle.udt_model.specs.Script.{pair_config, peer_of, open_config, paired_socket, with_socket, paired, event_at, made_for, network_after}
use Rattle.udt_model.specs.State.{State}
use Rattle.udt_model.specs.Step.{step}
use Rattle.udt_model.specs.Wire.{read}
use Rattle.udt_model.specs.Words.{is_word}
use Rattle.udt_model.proofs.HistoryLemmas.{IsLegal-happened, state_of-happened}
use Rattle.udt_model.proofs.PeerLemmas.{has_peer, IsIntroduced}
use Rattle.udt_model.proofs.ShakeLemmas.{pair-same, has-names}
use Rattle.udt_model.proofs.StepLemmas.{after_items-keeps_name}
use Rattle.udt_laws.specs.Scripts.{enrolled_at}
use Rattle.udt_laws.proofs.scripts.EachSocket.{each-one, each-two}
use Rattle.udt_laws.proofs.scripts.EventPeer.{event-peer}
use Rattle.udt_laws.proofs.scripts.KeptByLines.{arrival_of, opened_socket, IsMadeFor, Comes, GetsPlace, KeptByLines, event-here, event-elsewhere, event-count, lines-keep}
use Rattle.udt_laws.proofs.scripts.KeptPeers.{HaveOwnPeers, MayTake, add-keeps_peers}
use Rattle.udt_laws.proofs.scripts.LineRanges.{IsPairing, IsOpeningLine}
use Rattle.udt_laws.proofs.scripts.MadeSockets.{same-bytes, no-peer, is-promised}
use Rattle.udt_laws.proofs.scripts.ReplacedOne.{append-first, append-second, append-found, found-once}
use Rattle.udt_laws.proofs.scripts.ScriptNetworks.{IsFixed, IsPairedAt, named_addresses, addresses, HasWay, IsNetwork, set-keeps, add-keeps, host-keeps, same-id, paired-peer, fixed-below}
use Rattle.udt_laws.proofs.scripts.UnadoptedPair.{same-addr, unadopted}

-- ---- addresses

not-fixed : (hosts : List ScriptHost) (addr : Addr) → is_host hosts addr ≡ false → IsFixed addr → ⊥
not-fixed hosts addr unknown fixed =
    let one = same_addr addr first_host in
    let two = same_addr addr second_host in
    let others = or_parts (one || two) (list_any (λ (host : ScriptHost). same_addr addr host.addr) hosts) unknown in
    let both = or_parts one two others.0 in
    elim fixed [
      | inl first ↦
          let test : same_addr addr first_host ≡ true = ap (same_addr addr) (sym first) ∙ same-addr addr in
          let none : same_addr addr first_host ≡ false = both.0 in
          cc
      | inr second ↦
          let test : same_addr addr second_host ≡ true = ap (same_addr addr) (sym second) ∙ same-addr addr in
          let none : same_addr addr second_host ≡ false = both.1 in
          cc
    ]

-- the address of a named host is among theirs
named-among : (name : List ℕ) (hosts : List ScriptHost) (addr : Addr) → address_of_host name hosts ≡ Some addr
    → Contains (named_addresses hosts) addr
named-among name [] addr is = absurd (cc)
named-among name (host ∷ hosts) addr is =
    elim (is_word host.name name) as (λ same. (if same then Some host.addr else address_of_host name hosts) ≡ Some addr
    → Contains (named_addresses (host ∷ hosts)) addr) [
      | true ↦ λ e. subst (Contains (named_addresses (host ∷ hosts))) (same_Some _ _ e)
          (Contains-append_left (host.addr ∷ []) (named_addresses hosts) host.addr (Contains-push [] host.addr))
      | false ↦ λ e. Contains-append_right (host.addr ∷ []) (named_addresses hosts) addr (named-among name hosts addr e)
    ] is

first-among : (hosts : List ScriptHost) → Contains (addresses hosts) first_host
first-among hosts = Contains-append_left (first_host ∷ second_host ∷ []) (named_addresses hosts) first_host
    (Contains-append_left (first_host ∷ []) (second_host ∷ []) first_host (Contains-push [] first_host))

second-among : (hosts : List ScriptHost) → Contains (addresses hosts) second_host
second-among hosts = Contains-append_left (first_host ∷ second_host ∷ []) (named_addresses hosts) second_host
    (Contains-push (first_host ∷ []) second_host)

none-found : {X : Type 0} (k : ℕ) (x : X) → slice_get [] k ≡ Some x → ⊥
none-found k x found = cc

hosts-apart : first_host ≡ second_host → ⊥
hosts-apart same = let ip : same_addr first_host second_host ≡ true = ap (same_addr first_host) (sym same)
    ∙ same-addr first_host in cc

arrives-not : (act : Act) (from : Addr) (bytes : List ℕ) → act ≡ Arrive from bytes → is_arrival act ≡ false → ⊥
arrives-not act from bytes is calls = cc

same-from : (one other : Addr) (a b : List ℕ) → Arrive one a ≡ Arrive other b → one ≡ other
same-from one other a b is = cc

module _ {C : Type 0} (w : Ways C) where
  -- ---- events

  made-has : (place : ℕ) (socket : ScriptSocket C) (datagram : ScriptDatagram) → IsMadeFor w place socket datagram
      → has_peer (state_of w socket.history).origin ≡ true
  unfolding after_items opening
  made-has place socket datagram begun = ap (λ (h : History C). has_peer (state_of w h).origin) begun.begins

  event-keeps : (n : Network C) (place : ℕ) (socket : ScriptSocket C) (event : Event) → slice_get n.sockets place ≡ Some socket
      → ((is : IsNetwork w n)
      → IsIntroduced (at_moment (state_of w socket.history) event.now) event.act
      (step w (state_of w socket.history) event).after
      → MayTake w n.sockets place (record socket { history = happened w socket.history 0 event }))
      → IsNetwork w n → IsNetwork w (event_at w n place socket event).network
  unfolding event_at
  event-keeps n place socket event at new is =
      let has = is.sockets place socket at in
      let may : MayTake w n.sockets place (record socket { history = happened w socket.history 0 event }) =
      elim (event-peer w (enrolled_at place has.way socket) 0 event has.is) [
        | inl same ↦ record {
          alone = λ m other peer found host mine its.
              is.peers m place other socket peer found at host its (sym same ∙ mine);
        }
        | inr introduced ↦ new is introduced
      ] in
      set-keeps w n place socket (record socket { history = happened w socket.history 0 event }) at refl refl
      (IsLegal-happened w socket.history 0 event has.is.legal)
      (λ item among. Contains-append_left socket.history.items _ item among) _ may is

  call-keeps : (n : Network C) (place : ℕ) (socket : ScriptSocket C) (event : Event) → slice_get n.sockets place ≡ Some socket
      → is_arrival event.act ≡ false → IsNetwork w n → IsNetwork w (event_at w n place socket event).network
  call-keeps n place socket event at calls is = event-keeps n place socket event at
      (λ made introduced. absurd (arrives-not event.act introduced.from introduced.raw introduced.arrives calls)) is

  -- the pair that an event made the own peer
  introduced-pair : (s t : State C) (from : Addr) (bytes : List ℕ) (introduced : IsIntroduced s (Arrive from bytes) t)
      (peer : PeerPair)
      → peer_by t.origin t.peer ≡ Some peer → peer ≡ record { addr = from; id = introduced.shake.id }
  introduced-pair s t from bytes introduced peer names =
      let named = same_Some _ _ (sym names ∙ has-names t.origin t.peer introduced.has) in
      let addr : t.peer.addr ≡ from = sym introduced.addr
      ∙ sym (same-from from introduced.from bytes introduced.raw introduced.arrives) in
      named ∙ pair-same t.peer.addr from t.peer.id introduced.shake.id addr (sym introduced.id)

  arrival-keeps : (n : Network C) (now place : ℕ) (socket : ScriptSocket C) (datagram : ScriptDatagram)
      → Comes w (Unit {0}) n place socket datagram
      → IsNetwork w n → IsNetwork w (event_at w n place socket (arrival_of now datagram)).network
  arrival-keeps n now place socket datagram comes is = event-keeps n place socket (arrival_of now datagram) comes.at
      (λ made introduced. elim comes.why [
        | inl goes ↦ record {
          alone = λ m other peer found host mine its.
              let bytes : datagram.bytes ≡ introduced.raw =
              same-bytes datagram.from introduced.from datagram.bytes introduced.raw introduced.arrives in
              let reads : handshake_in (read datagram.bytes) ≡ Some introduced.shake = ap (λ (l : List ℕ). handshake_in (read l))
              bytes
              ∙ ap handshake_in introduced.reads in
              let names = ap (λ (u : State C). peer_by u.origin u.peer)
              (sym (state_of-happened w socket.history 0 (arrival_of now datagram))) ∙ mine in
              let pair = introduced-pair _ _ datagram.from datagram.bytes introduced peer names in
              absurd (unadopted w n datagram place socket introduced.shake goes reads introduced.none_before m other found
              (host ∙ comes.host)
              (its ∙ ap Some pair));
        }
        | inr begun ↦
            let has : has_peer (state_of w socket.history).origin ≡ true = made-has place socket datagram begun in
            let none = introduced.none_before in
            absurd (cc)
      ]) is

  -- ---- openings

  legal-none : (s : State C) → AreLegal w s []
  unfolding AreLegal
  legal-none s = tt

  socket-keeps : (n : Network C) (o : OpeningLine) (addr : Addr) → IsOpeningLine o → length n.sockets < MOST_SOCKETS
      → address_of_host o.host n.hosts ≡ Some addr → IsNetwork w n → IsNetwork w (with_socket n (opened_socket w n o addr))
  unfolding after_items opened
  socket-keeps n o addr in_range room at is =
      let among = named-among o.host n.hosts addr at in
      let way : Way = Opened o.isn (open_config o) 0 in
      let new : ScriptSocket C = opened_socket w n o addr in
      add-keeps w n is (way ∷ []) (new ∷ []) refl
      (each-one new (λ j socket. HasWay w n.hosts (is.ways ++ way ∷ []) (n.sockets ++ new ∷ []) (length n.sockets + j) socket)
      (record {
        way = way;
        at = append-second is.ways (way ∷ []) (length n.sockets + 0) 0 way (omega (arith, is.count)) refl;
        is = record {
          in_range = record {
            values = record {
              payload = in_range.payload;
              most_payload = in_range.most_payload;
              snd_blocks = in_range.blocks;
              most_snd_blocks = in_range.most_blocks;
              rcv_blocks = in_range.blocks;
              most_rcv_blocks = in_range.most_blocks;
            };
            own_fits = omega (arith, room);
            isn_fits = in_range.isn;
          };
          opened = ap (λ (k : ℕ). opened w (k + 1) o.isn (open_config o) 0) (omega arith);
          legal = legal-none _;
        };
        asked = tt;
        fixed = λ fixed. absurd (is.apart addr among fixed);
        housed = Contains-append_right (first_host ∷ second_host ∷ []) (named_addresses n.hosts) addr among;
      }))
      (add-keeps_peers w n.sockets new (λ m other peer found host mine its. cc) is.peers)

  pair-somebody : (socket : Enrolled C) → IsSocket w socket → (way : Way) → IsPairedAt way
      → socket.history.opening ≡ opened_by w socket.own way
      → (state_of w socket.history).origin ≡ origin.Nobody → ⊥
  pair-somebody socket is (PairedAt config peer now start) paired opened nobody =
      no-peer (state_of w socket.history).origin (state_of w socket.history).peer nobody _
      (paired-peer w socket.own config peer now start socket.history opened)
  pair-somebody socket is (Opened isn config now) paired opened nobody = absurd paired
  pair-somebody socket is (Paired config peer now) paired opened nobody = absurd paired

  made-keeps : (n : Network C) (now place : ℕ) (listener : ScriptSocket C) (datagram : ScriptDatagram) (shake : Shake)
      → GetsPlace w (Unit {0}) n now place listener datagram shake → IsNetwork w n
      → IsNetwork w (event_at w n place listener (arrival_of now datagram)).network
      → IsNetwork w (with_socket (event_at w n place listener (arrival_of now datagram)).network
      (made_for w (event_at w n place listener (arrival_of now datagram)).network listener datagram.from shake))
  unfolding after_items opening event_at
  made-keeps n now place listener datagram shake gets before is =
      let arrival = arrival_of now datagram in
      let m : Network C = (event_at w n place listener arrival).network in
      let at = gets.comes.at in
      let has = before.sockets place listener at in
      let s : State C = state_of w listener.history in
      let promised = is-promised w (enrolled_at place has.way listener)
      now datagram.from datagram.bytes has.is gets.promised shake gets.reads in
      let way : Way = Paired (config_of s) (peer_in (config_of s) datagram.from shake) 0 in
      let new : ScriptSocket C = made_for w m listener datagram.from shake in
      let told : ScriptSocket C = record listener { history = happened w listener.history 0 arrival } in
      let count = event-count w n place listener arrival at in
      add-keeps w m is (way ∷ []) (new ∷ []) refl
      (each-one new (λ j socket. HasWay w m.hosts (is.ways ++ way ∷ []) (m.sockets ++ new ∷ []) (length m.sockets + j) socket)
      (record {
        way = way;
        at = append-second is.ways (way ∷ []) (length m.sockets + 0) 0 way (omega (arith, is.count)) refl;
        is = record {
          in_range = promised.opens (length m.sockets + 0 + 1) (omega (arith, gets.room, count));
          opened = ap (λ (k : ℕ). opening w (k + 1) (config_of s) (peer_in (config_of s) datagram.from shake) 0 0) (omega arith);
          legal = legal-none _;
        };
        asked = record {
          place = place;
          listener = told;
          at = append-first m.sockets (new ∷ []) place told (event-here w n place listener arrival at);
          host_is = refl;
          item = item_of w s 0 arrival;
          bytes = datagram.bytes;
          stamp = promised.stamp;
          shake = shake;
          same_kind = sym (after_items-keeps_name w listener.history.opening listener.history.items).kind;
          happened = Contains-push listener.history.items (item_of w s 0 arrival);
          arrives = refl;
          promised = gets.promised;
          reads = promised.reads;
          id_is = refl;
          isn_is = refl;
        };
        fixed = λ fixed. absurd
            (pair-somebody (enrolled_at place has.way listener) has.is has.way (has.fixed fixed) has.is.opened promised.nobody);
        housed = has.housed;
      }))
      (add-keeps_peers w m.sockets new (λ k other peer found host mine its. elim (cases_eq place k) [
        | inl same ↦
            let here = subst (λ (j : ℕ). slice_get m.sockets j ≡ Some told) same (event-here w n place listener arrival at) in
            let other_is = found-once m.sockets k other told found here in
            promised.still_nobody peer (subst (λ (x : ScriptSocket C). own_peer w x.history ≡ Some peer) other_is its)
        | inr apart ↦
            let there = sym (event-elsewhere w n place listener arrival at k apart) ∙ found in
            unadopted w n datagram place listener shake gets.goes gets.reads (ap has_peer promised.nobody) k other there
            (host ∙ gets.comes.host)
            (its ∙ sym mine)
      ]) is.peers)

  -- ---- pairs

  module _ (n : Network C) (p : Pairing) (in_range : IsPairing p) (room : length n.sockets + 2 ≤ MOST_SOCKETS)
      (is : IsNetwork w n) where
    abbrev a : ScriptSocket C
    a = paired_socket w p p.a first_host (length n.sockets + 1) second_host (length n.sockets + 2)

    abbrev b : ScriptSocket C
    b = paired_socket w p p.b second_host (length n.sockets + 2) first_host (length n.sockets + 1)

    abbrev first_way : Way
    first_way = PairedAt (pair_config p) (peer_of p second_host (length n.sockets + 2)) 0 p.start

    abbrev second_way : Way
    second_way = PairedAt (pair_config p) (peer_of p first_host (length n.sockets + 1)) 0 p.start

    abbrev both_ways : List Way
    both_ways = is.ways ++ first_way ∷ second_way ∷ []

    abbrev with_both : List (ScriptSocket C)
    with_both = n.sockets ++ a ∷ b ∷ []

    can_pair : (host : Addr) (id : ℕ) → CanPair (pair_config p) (peer_of p host id) p.start
    can_pair host id = record {
      config_fits = record {
        payload = in_range.payload;
        most_payload = in_range.most_payload;
        snd_blocks = in_range.blocks;
        most_snd_blocks = in_range.most_blocks;
        rcv_blocks = in_range.blocks;
        most_rcv_blocks = in_range.most_blocks;
      };
      peer_payload = in_range.payload;
      within = in_range.start;
    }

    first-has : HasWay w n.hosts both_ways with_both (length n.sockets + 0) a
    first-has = record {
      way = first_way;
      at = append-second is.ways _ (length n.sockets + 0) 0 first_way (omega (arith, is.count)) refl;
      is = record {
        in_range = record {
          values = can_pair second_host (length n.sockets + 2);
          own_fits = omega (arith, room);
          id_fits = omega (arith, room);
          isn_fits = in_range.isn;
        };
        opened = ap (λ (own : ℕ). opening w own (pair_config p) (peer_of p second_host (length n.sockets + 2)) 0 p.start)
            (omega arith);
        legal = legal-none _;
      };
      asked = record {
        place = length n.sockets + 1;
        other = b;
        other_way = second_way;
        at = append-second n.sockets _ (length n.sockets + 1) 1 b (omega arith) refl;
        way_at = append-second is.ways _ (length n.sockets + 1) 1 second_way (omega (arith, is.count)) refl;
        are = (refl, omega arith, refl, omega arith, refl, refl, refl);
      };
      fixed = λ fixed. tt;
      housed = first-among n.hosts;
    }

    second-has : HasWay w n.hosts both_ways with_both (length n.sockets + 1) b
    second-has = record {
      way = second_way;
      at = append-second is.ways _ (length n.sockets + 1) 1 second_way (omega (arith, is.count)) refl;
      is = record {
        in_range = record {
          values = can_pair first_host (length n.sockets + 1);
          own_fits = omega (arith, room);
          id_fits = omega (arith, room);
          isn_fits = in_range.isn;
        };
        opened = ap (λ (own : ℕ). opening w own (pair_config p) (peer_of p first_host (length n.sockets + 1)) 0 p.start)
            (omega arith);
        legal = legal-none _;
      };
      asked = record {
        place = length n.sockets;
        other = a;
        other_way = first_way;
        at = append-second n.sockets _ (length n.sockets) 0 a (omega arith) refl;
        way_at = append-second is.ways _ (length n.sockets) 0 first_way (omega (arith, is.count)) refl;
        are = (refl, refl, refl, omega arith, refl, refl, refl);
      };
      fixed = λ fixed. tt;
      housed = second-among n.hosts;
    }

    first-alone : (m : ℕ) (other : ScriptSocket C) (peer : PeerPair) → slice_get n.sockets m ≡ Some other
        → other.host ≡ first_host
        → own_peer w a.history ≡ Some peer → own_peer w other.history ≡ Some peer → ⊥
    unfolding after_items opening
    first-alone m other peer found host mine its =
        let id = same-id (record { addr = second_host; id = length n.sockets + 2 }) peer mine in
        let below = fixed-below w n is m other peer found (inl host) its in
        omega (arith, id, below)

    second-alone : (m : ℕ) (other : ScriptSocket C) (peer : PeerPair) → slice_get (n.sockets ++ a ∷ []) m ≡ Some other
        → other.host ≡ second_host
        → own_peer w b.history ≡ Some peer → own_peer w other.history ≡ Some peer → ⊥
    unfolding after_items opening
    second-alone m other peer found host mine its = elim (append-found n.sockets (a ∷ []) m other found) [
      | inl old ↦
          let id = same-id (record { addr = first_host; id = length n.sockets + 1 }) peer mine in
          let below = fixed-below w n is m other peer old (inr host) its in
          omega (arith, id, below)
      | inr past ↦ each-one a (λ j x. x.host ≡ second_host → ⊥) (λ same. hosts-apart same) past.0 other past.2 host
    ]

    pub pair-keeps : IsNetwork w (paired w n p).network
    unfolding paired
    pair-keeps = add-keeps w n is (first_way ∷ second_way ∷ []) (a ∷ b ∷ []) refl
        (each-two a b (λ j socket. HasWay w n.hosts both_ways with_both (length n.sockets + j) socket) first-has second-has)
        (subst (HaveOwnPeers w) (append_assoc n.sockets (a ∷ []) (b ∷ []))
        (add-keeps_peers w (n.sockets ++ a ∷ []) b second-alone (add-keeps_peers w n.sockets a first-alone is.peers)))

  -- ---- all changes

  name-keeps : (n : Network C) (place : ℕ) (socket : ScriptSocket C) (name : List ℕ) → slice_get n.sockets place ≡ Some socket
      → IsNetwork w n → IsNetwork w (record n { sockets = slice_set n.sockets place (record socket { name = name }) })
  name-keeps n place socket name at is =
      set-keeps w n place socket (record socket { name = name }) at refl refl (is.sockets place socket at).is.legal
      (λ item among. among) n.datagrams
      (record { alone = λ m other peer found host mine its. is.peers m place other socket peer found at host its mine }) is

  empty-is : IsNetwork w empty_network
  empty-is = record {
    ways = [];
    count = refl;
    sockets = λ k socket at. absurd (none-found k socket at);
    peers = λ k m socket other peer at other_at host mine its. absurd (none-found k socket at);
    apart = λ addr among fixed. omega (arith, among.1);
  }

  network-kept : KeptByLines w (Unit {0}) (λ size n. IsNetwork w n)
  network-kept = record {
    empty = empty-is;
    more = λ size bytes n is. is;
    pair = λ size n p in_range room is. pair-keeps n p in_range room is;
    host = λ size n name addr unknown is. host-keeps w n (record { name = name; addr = addr }) (not-fixed n.hosts addr unknown)
        is;
    socket = λ size n o addr in_range room at is. socket-keeps n o addr in_range room at is;
    call = λ size n place socket event at calls is. call-keeps n place socket event at calls is;
    name = λ size n place socket name at is. name-keeps n place socket name at is;
    arrival = λ size n now place socket datagram comes is. arrival-keeps n now place socket datagram comes is;
    made = λ size n now place listener datagram shake gets before is. made-keeps n now place listener datagram shake gets
        before is;
  }

  pub script-network : (lines : List (List ℕ)) → IsNetwork w (network_after w lines)
  script-network lines = lines-keep w (Unit {0}) (λ size n. IsNetwork w n) network-kept lines (inl tt)
