-- What the lines of a script do to its network, one kind of change after another: what each of them keeps holds after all lines.
use Rattle.std.proofs.Common.{◌≡◌, ℕ, suc, ◌+◌, ◌-◌, ◌<◌, ◌≤◌, true, false, List, [], ◌∷◌, length, Some, None, Ok, Option, refl, ◌∙◌, subst, inl, inr, ◌⊎◌, arith}
use Rattle.std.specs.Prelude.{slice_get, slice_set, is_some, option_map, nat_lt, ◌||◌, if◌then◌else◌}
use Rattle.std.specs.List.{Contains}
use Rattle.std.proofs.lemmas.Bool.{and_parts, leb-true, ltb-true, not-true}
use Rattle.std.proofs.lemmas.List.{length-set}
use Rattle.std.proofs.lemmas.List.Sums.{sum_by-cons}
use Rattle.std.proofs.lemmas.List.Elements.{Contains-append_left}
use Rattle.std.proofs.lemmas.Option.{slice_get_within}
use Rattle.udt_model.specs.declared.limits.TheConstants.{MOST_SOCKETS}
use Rattle.udt_model.specs.declared.addresses.Addr.{Addr}
use Rattle.udt_model.specs.declared.answers.Heard.TheVariants as heard
use Rattle.udt_model.specs.declared.packets.Config.{Config}
use Rattle.udt_model.specs.declared.packets.Shake.{Shake}
use Rattle.udt_model.specs.Connections.{config_of}
use Rattle.udt_model.specs.Events.{Act, Listen, Meet, Accept, Offer, Withdraw, Arrive, Event, event, Reply, Accepted, DidHear}
use Rattle.udt_model.specs.Handshakes.{peer_in}
use Rattle.udt_model.specs.History.{state_of, happened}
use Rattle.udt_model.specs.Lines.{Pairing, OpeningLine, Line, Silent, PairLine, HostLine, OpenLine, AcceptLine, CallLine, DeliverLine, RawLine, is_arrival, read_line, is_raw, AreEmitted}
use Rattle.udt_model.specs.Network.{ScriptSocket, ScriptDatagram, Network, empty_network, is_host, address_of_host, place_of, is_taken, first_id, holds_listener, holds_meeting, holds_any_meeting, Route, ToSocket, Nowhere, route}
use Rattle.udt_model.specs.Opening.{opened, opening}
use Rattle.udt_model.specs.Rate.{Ways}
use Rattle.udt_model.specs.Routes.{handshake_in}
use Rattle.udt_model.specs.Script.{Printed, size_of, open_config, may_pair, may_host, may_open, with_host, with_socket, named_at, with_name, and_then, left_by, paired, event_at, event_there, call_by, call_at, with_place, with_socket_of, named_by, accept_at, made_for, offered, followed_by, arrived, delivery, opened_at, on_line, played_line, network_from, network_after}
use Rattle.udt_model.specs.Step.{step}
use Rattle.udt_model.specs.Texts.{listen_twice_text, meet_taken_text}
use Rattle.udt_model.specs.Wire.{read}
use Rattle.udt_model.specs.Words.{◌>>=◌}
use Rattle.udt_laws.proofs.scripts.HostReached.{host-reached}
use Rattle.udt_laws.proofs.scripts.LineRanges.{size_of_act, IsPairing, IsOpeningLine, IsInRange, line-in_range}
use Rattle.udt_laws.proofs.scripts.ReplacedOne.{set-other, set-same, append-first, append-second, found-among}

-- the arrival of a datagram
abbrev pub arrival_of : ℕ → ScriptDatagram → Event
arrival_of now datagram = event now (Arrive datagram.from datagram.bytes)

module _ {C : Type 0} (w : Ways C) where
  -- the socket that an open line makes
  abbrev pub opened_socket : Network C → OpeningLine → Addr → ScriptSocket C
  opened_socket n o host = record {
    name = o.name;
    host = host;
    history = record { opening = opened w (length n.sockets + 1) o.isn (open_config o) 0; items = [] };
  }

  -- a socket at this place was just made for the request that this datagram is
  pub record IsMadeFor (place : ℕ) (socket : ScriptSocket C) (datagram : ScriptDatagram) : Type 0 where
    pub config : Config
    pub shake : Shake
    pub reads : handshake_in (read datagram.bytes) ≡ Some shake
    pub begins : socket.history
        ≡ record { opening = opening w (place + 1) config (peer_in config datagram.from shake) 0 0; items = [] }

  -- this datagram arrives at the socket at this place: it was emitted, unless lines may give bytes of their own, and it is routed
  -- there, or the socket was made for it
  pub record Comes (Raw : Type 0) (n : Network C) (place : ℕ) (socket : ScriptSocket C) (datagram : ScriptDatagram) : Type 0 where
    pub at : slice_get n.sockets place ≡ Some socket
    pub host : socket.host ≡ datagram.to
    pub came : Raw ⊎ Contains n.datagrams datagram
    pub why : (route w n datagram ≡ ToSocket place socket) ⊎ IsMadeFor place socket datagram

  -- a listener promises a place to the request that this datagram is, and there is room for a socket
  pub record GetsPlace (Raw : Type 0) (n : Network C) (now place : ℕ) (listener : ScriptSocket C) (datagram : ScriptDatagram)
      (shake : Shake) : Type 0 where
    pub comes : Comes Raw n place listener datagram
    pub goes : route w n datagram ≡ ToSocket place listener
    pub reads : handshake_in (read datagram.bytes) ≡ Some shake
    pub promised : (step w (state_of w listener.history) (arrival_of now datagram)).reply ≡ DidHear heard.Request
    pub room : length n.sockets < MOST_SOCKETS

  -- P, of the bytes of the lines and of the network that they make, holds at the start, at more bytes, and after each change.
  -- Each event counts as a byte, and so does each byte that a call gives
  pub record KeptByLines (Raw : Type 0) (P : ℕ → Network C → Type 0) : Type 0 where
    pub empty : P 0 empty_network
    pub more : (size bytes : ℕ) (n : Network C) → P size n → P (size + bytes) n
    pub pair : (size : ℕ) (n : Network C) (p : Pairing) → IsPairing p → length n.sockets + 2 ≤ MOST_SOCKETS → P size n
        → P size (paired w n p).network
    pub host : (size : ℕ) (n : Network C) (name : List ℕ) (addr : Addr) → is_host n.hosts addr ≡ false → P size n
        → P size (with_host n name addr).network
    pub socket : (size : ℕ) (n : Network C) (o : OpeningLine) (addr : Addr) → IsOpeningLine o → length n.sockets < MOST_SOCKETS
        → address_of_host o.host n.hosts ≡ Some addr → P size n → P size (with_socket n (opened_socket n o addr))
    -- a call, or a listener's socket that is offered, or that isn't
    pub call : (size : ℕ) (n : Network C) (place : ℕ) (socket : ScriptSocket C) (event : Event)
        → slice_get n.sockets place ≡ Some socket
        → is_arrival event.act ≡ false → P size n → P (size + size_of_act event.act + 1) (event_at w n place socket event).network
    -- a connection that was accepted gets a name
    pub name : (size : ℕ) (n : Network C) (place : ℕ) (socket : ScriptSocket C) (name : List ℕ)
        → slice_get n.sockets place ≡ Some socket
        → P size n → P size (record n { sockets = slice_set n.sockets place (record socket { name = name }) })
    pub arrival : (size : ℕ) (n : Network C) (now place : ℕ) (socket : ScriptSocket C) (datagram : ScriptDatagram)
        → Comes Raw n place socket datagram → P size n
        → P (size + 1) (event_at w n place socket (arrival_of now datagram)).network
    -- the socket for a request, after its arrival at the listener
    pub made : (size : ℕ) (n : Network C) (now place : ℕ) (listener : ScriptSocket C) (datagram : ScriptDatagram) (shake : Shake)
        → GetsPlace Raw n now place listener datagram shake → P size n
        → P (size + 1) (event_at w n place listener (arrival_of now datagram)).network
        → P (size + 1) (with_socket (event_at w n place listener (arrival_of now datagram)).network
        (made_for w (event_at w n place listener (arrival_of now datagram)).network listener datagram.from shake))

  -- ---- what an event leaves

  module _ (n : Network C) (place : ℕ) (socket : ScriptSocket C) (event : Event) (at : slice_get n.sockets place ≡ Some socket)
    where
      pub event-here : slice_get (event_at w n place socket event).network.sockets place
          ≡ Some (record socket { history = happened w socket.history 0 event })
      unfolding event_at
      event-here = set-same n.sockets place socket _ at

      pub event-elsewhere : (k : ℕ) → (place ≡ k → ⊥)
          → slice_get (event_at w n place socket event).network.sockets k ≡ slice_get n.sockets k
      unfolding event_at
      event-elsewhere k apart = set-other n.sockets place k _ apart

      pub event-count : length (event_at w n place socket event).network.sockets ≡ length n.sockets
      unfolding event_at
      event-count = length-set n.sockets place _

      pub event-datagrams : (datagram : ScriptDatagram) → Contains n.datagrams datagram
          → Contains (event_at w n place socket event).network.datagrams datagram
      unfolding event_at
      event-datagrams datagram among = Contains-append_left n.datagrams _ datagram among

      there : event_there w n place event ≡ event_at w n place socket event
      there = rw at refl

  -- ---- lines

  module _ (Raw : Type 0) (P : ℕ → Network C → Type 0) (keeps : KeptByLines Raw P) where
    raised : (small big : ℕ) (n : Network C) → small ≤ big → P small n → P big n
    raised small big n fits is =
        let sum : small + (big - small) ≡ big = omega (arith, fits) in
        subst (λ (k : ℕ). P k n) sum (keeps.more small (big - small) n is)

    still-came : (n : Network C) (place : ℕ) (socket : ScriptSocket C) (event : Event)
        (at : slice_get n.sockets place ≡ Some socket)
        (datagram : ScriptDatagram) → Raw ⊎ Contains n.datagrams datagram
        → Raw ⊎ Contains (event_at w n place socket event).network.datagrams datagram
    still-came n place socket event at datagram (inl raw) = inl raw
    still-came n place socket event at datagram (inr among) = inr (event-datagrams n place socket event at datagram among)

    -- a socket that was made is offered, and gets the request
    module _ (m : Network C) (size now place : ℕ) (listener told : ScriptSocket C) (datagram : ScriptDatagram) (shake : Shake)
        (at : slice_get m.sockets place ≡ Some told) (host : listener.host ≡ datagram.to)
        (came : Raw ⊎ Contains m.datagrams datagram)
        (reads : handshake_in (read datagram.bytes) ≡ Some shake) where
      abbrev new : ScriptSocket C
      new = made_for w m listener datagram.from shake

      abbrev offer : Event
      offer = event now (Offer (length m.sockets + 1))

      abbrev more : Network C
      more = with_socket m new

      still-told : slice_get more.sockets place ≡ Some told
      still-told = append-first m.sockets (new ∷ []) place told at

      last-new : slice_get more.sockets (length m.sockets) ≡ Some new
      last-new = append-second m.sockets (new ∷ []) (length m.sockets) 0 new (omega arith) refl

      abbrev offered_there : Network C
      offered_there = (event_at w more place told offer).network

      new-there : slice_get offered_there.sockets (length m.sockets) ≡ Some new
      new-there =
          let below = slice_get_within m.sockets place told at in
          event-elsewhere more place told offer still-told (length m.sockets) (λ same. omega (arith, same, below)) ∙ last-new

      new-comes : Comes Raw offered_there (length m.sockets) new datagram
      new-comes = record {
        at = new-there;
        host = host;
        came = still-came more place told offer still-told datagram came;
        why = inr (record { config = config_of (state_of w listener.history); shake = shake; reads = reads; begins = refl });
      }

      connected-kept : (big : ℕ) → size + 2 ≤ big → P size more → P big (and_then (event_there w more place offer)
          (λ (n : Network C). event_there w n (length m.sockets) (arrival_of now datagram))).network
      connected-kept big fits is =
          let one = keeps.call size more place told offer still-told refl is in
          let two = keeps.arrival (size + 0 + 1) offered_there now (length m.sockets) new datagram new-comes one in
          rw (
            there more place told offer still-told,
            there offered_there (length m.sockets) new (arrival_of now datagram)
                new-there,
          )
          (raised (size + 0 + 1 + 1) big (event_at w offered_there (length m.sockets) new (arrival_of now datagram)).network
          (omega (arith, fits)) two)

    -- a place was promised
    module _ (size : ℕ) (n : Network C) (now place : ℕ) (listener : ScriptSocket C) (datagram : ScriptDatagram)
        (comes : Comes Raw n place listener datagram) (goes : route w n datagram ≡ ToSocket place listener) (before : P size n)
      where
        abbrev arrival : Event
        arrival = arrival_of now datagram

        abbrev told : ScriptSocket C
        told = record listener { history = happened w listener.history 0 arrival }

        abbrev after : Network C
        after = (event_at w n place listener arrival).network

        after-kept : P (size + 1) after
        after-kept = keeps.arrival size n now place listener datagram comes before

        told-there : slice_get after.sockets place ≡ Some told
        told-there = event-here n place listener arrival comes.at

        still-comes : Raw ⊎ Contains after.datagrams datagram
        still-comes = still-came n place listener arrival comes.at datagram comes.came

        withdraw-kept : P (size + 3) (event_there w after place (event now Withdraw)).network
        withdraw-kept =
            let one = keeps.call (size + 1) after place told (event now Withdraw) told-there refl after-kept in
            rw (there after place told (event now Withdraw) told-there)
            (raised (size + 1 + 0 + 1) (size + 3) (event_at w after place told (event now Withdraw)).network (omega arith) one)

        offered-kept : (shake : Shake) → handshake_in (read datagram.bytes) ≡ Some shake
            → (step w (state_of w listener.history) (arrival_of now datagram)).reply ≡ DidHear heard.Request
            → P (size + 3) (offered w after now place listener datagram shake).network
        offered-kept shake reads promised =
            elim (nat_lt (length after.sockets) MOST_SOCKETS) as (λ room. nat_lt (length after.sockets) MOST_SOCKETS ≡ room
            → P (size + 3) (if room
            then and_then
            (event_there w (with_socket after (made_for w after listener datagram.from shake)) place
            (event now (Offer (length after.sockets + 1))))
            (λ (m : Network C). event_there w m (length after.sockets) (event now (Arrive datagram.from datagram.bytes)))
            else event_there w after place (event now Withdraw)).network) [
              | true ↦ λ test.
                  let count : length after.sockets ≡ length n.sockets = event-count n place listener arrival comes.at in
                  let gets : GetsPlace Raw n now place listener datagram shake = record {
                    comes = comes;
                    goes = goes;
                    reads = reads;
                    promised = promised;
                    room = omega (arith, count, ltb-true (length after.sockets) MOST_SOCKETS test);
                  } in
                  let made = keeps.made size n now place listener datagram shake gets before after-kept in
                  connected-kept after (size + 1) now place listener told datagram shake told-there comes.host still-comes reads
                  (size + 3) (omega arith) made
              | false ↦ λ test. withdraw-kept
            ] refl

        followed-kept : (shake : Option Shake) (reply : Reply) → handshake_in (read datagram.bytes) ≡ shake
            → (step w (state_of w listener.history) (arrival_of now datagram)).reply ≡ reply
            → P (size + 3) (followed_by w (event_at w n place listener arrival) now place listener datagram shake reply).network
        followed-kept (Some shake) (DidHear heard.Request) reads promised = offered-kept shake reads promised
        followed-kept shake reply reads promised = raised (size + 1) (size + 3) after (omega arith) after-kept

    arrived-kept : (size : ℕ) (n : Network C) (now : ℕ) (datagram : ScriptDatagram) (r : Route C) → route w n datagram ≡ r
        → Raw ⊎ Contains n.datagrams datagram → P size n → P (size + 3) (arrived w n now datagram r).network
    arrived-kept size n now datagram (ToSocket place socket) goes came before =
        let reached = host-reached w n datagram place socket goes in
        let comes : Comes Raw n place socket datagram =
        record { at = reached.0; host = reached.1; came = came; why = inl goes } in
        followed-kept size n now place socket datagram comes goes before (handshake_in (read datagram.bytes)) _ refl refl
    arrived-kept size n now datagram (Nowhere word) goes came before = keeps.more size 3 n before

    -- ---- calls

    pub call-kept : (size : ℕ) (n : Network C) (place : ℕ) (socket : ScriptSocket C) (now : ℕ) (act : Act)
        → slice_get n.sockets place ≡ Some socket
        → is_arrival act ≡ false → P size n → P (size + size_of_act act + 1) (call_by w n place socket now act).network
    call-kept size n place socket now (Listen most secret) at calls is =
        elim (is_some (first_id (holds_listener w socket.host) n.sockets)) as (λ held. P (size + 0 + 1) (
        if held then record { network = n; text = listen_twice_text socket.name } else event_at w n place socket
        (event now (Listen most secret))).network) [
          | true ↦ raised size (size + 0 + 1) n (omega arith) is
          | false ↦ keeps.call size n place socket (event now (Listen most secret)) at calls is
        ]
    call-kept size n place socket now (Meet to) at calls is =
        elim (is_some (first_id (holds_meeting w socket.host to) n.sockets) || holds_any_meeting w socket) as
        (λ held. P (size + 0 + 1) (
        if held then record { network = n; text = meet_taken_text socket.name } else event_at w n place socket
        (event now (Meet to))).network) [
          | true ↦ raised size (size + 0 + 1) n (omega arith) is
          | false ↦ keeps.call size n place socket (event now (Meet to)) at calls is
        ]
    call-kept size n place socket now act at calls is = keeps.call size n place socket (event now act) at calls is

    with_name-kept : (size : ℕ) (n : Network C) (id : ℕ) (name : List ℕ) → P size n → P size (with_name n id name)
    with_name-kept size n id name is = named-kept (slice_get n.sockets (id - 1)) refl
      where
        named-kept : (found : Option (ScriptSocket C)) → slice_get n.sockets (id - 1) ≡ found
            → P size (named_at n (id - 1) name found)
        named-kept None at = is
        named-kept (Some socket) at = keeps.name size n (id - 1) socket name at is

    named_by-kept : (size : ℕ) (printed : Printed C) (name accepted : List ℕ) (reply : Reply) → P size printed.network
        → P size (named_by w printed name accepted reply).network
    named_by-kept size printed name accepted (Accepted (Ok id)) is = with_name-kept size printed.network id accepted is
    named_by-kept size printed name accepted reply is = is

    accept-kept : (size : ℕ) (n : Network C) (now : ℕ) (accepted : List ℕ) (place : ℕ) (socket : ScriptSocket C)
        → slice_get n.sockets place ≡ Some socket → P size n → P (size + 0 + 1) (accept_at w n now accepted place socket).network
    accept-kept size n now accepted place socket at is =
        named_by-kept (size + 0 + 1) (event_at w n place socket (event now Accept)) socket.name accepted _
        (keeps.call size n place socket (event now Accept) at refl is)

    -- what is done with the socket of a name
    with_place-kept : (size big : ℕ) (n : Network C) (does : ℕ → ScriptSocket C → Printed C)
        → ((place : ℕ) (socket : ScriptSocket C) → slice_get n.sockets place ≡ Some socket → P big (does place socket).network)
        → P big n → (found : Option ℕ) → P big (left_by n (with_place w n does found))
    with_place-kept size big n does each is None = is
    with_place-kept size big n does each is (Some place) = placed-kept (slice_get n.sockets place) refl
      where
        placed-kept : (found : Option (ScriptSocket C)) → slice_get n.sockets place ≡ found
            → P big (left_by n (option_map (does place) found))
        placed-kept None at = is
        placed-kept (Some socket) at = each place socket at

    -- ---- forms

    pair-kept : (size : ℕ) (n : Network C) (p : Pairing) → IsPairing p → P size n
        → P size (left_by n (if may_pair n p then Some (paired w n p) else None))
    pair-kept size n p in_range is =
        elim (may_pair n p) as (λ may. may_pair n p ≡ may → P size (left_by n (if may then Some (paired w n p) else None))) [
          | true ↦ λ test.
              let room = leb-true (length n.sockets + 2) MOST_SOCKETS
              (and_parts _ _ (and_parts _ _ (and_parts _ _ test).0).0).0 in
              keeps.pair size n p in_range room is
          | false ↦ λ test. is
        ] refl

    host-kept : (size : ℕ) (n : Network C) (name : List ℕ) (addr : Addr) → P size n
        → P size (left_by n (if may_host n name addr then Some (with_host n name addr) else None))
    host-kept size n name addr is =
        elim (may_host n name addr) as (λ may. may_host n name addr ≡ may
        → P size (left_by n (if may then Some (with_host n name addr) else None))) [
          | true ↦ λ test. keeps.host size n name addr (not-true _ (and_parts _ _ test).1) is
          | false ↦ λ test. is
        ] refl

    opened-kept : (size : ℕ) (n : Network C) (o : OpeningLine) (found : Option Addr) → address_of_host o.host n.hosts ≡ found
        → IsOpeningLine o → length n.sockets < MOST_SOCKETS → P size n → P size (left_by n (opened_at w n o found))
    opened-kept size n o None at in_range room is = is
    opened-kept size n o (Some addr) at in_range room is = keeps.socket size n o addr in_range room at is

    open-kept : (size : ℕ) (n : Network C) (o : OpeningLine) → IsOpeningLine o → P size n
        → P size (left_by n (if may_open n o.name then opened_at w n o (address_of_host o.host n.hosts) else None))
    open-kept size n o in_range is =
        elim (may_open n o.name) as (λ may. may_open n o.name ≡ may
        → P size (left_by n (if may then opened_at w n o (address_of_host o.host n.hosts) else None))) [
          | true ↦ λ test. opened-kept size n o (address_of_host o.host n.hosts) refl in_range
              (ltb-true (length n.sockets) MOST_SOCKETS (and_parts _ _ test).0) is
          | false ↦ λ test. is
        ] refl

    delivered-kept : (size : ℕ) (n : Network C) (number now : ℕ) (found : Option ScriptDatagram)
        → slice_get n.datagrams number ≡ found
        → P size n → P (size + 3) (left_by n (delivery w n now found))
    delivered-kept size n number now None at is = keeps.more size 3 n is
    delivered-kept size n number now (Some datagram) at is =
        arrived-kept size n now datagram (route w n datagram) refl (inr (found-among n.datagrams number datagram at)) is

    may-raw : (now : ℕ) (datagram : ScriptDatagram) → Raw ⊎ (is_raw (Some (RawLine now datagram)) ≡ false) → Raw
    may-raw now datagram (inl raw) = raw
    may-raw now datagram (inr none) = absurd (cc)

    form-kept : (size bytes : ℕ) (n : Network C) (form : Line) → IsInRange bytes form → Raw ⊎ (is_raw (Some form) ≡ false)
        → P size n
        → P (size + (bytes + 1)) (left_by n (on_line w n form))
    form-kept size bytes n Silent in_range emitted is = keeps.more size (bytes + 1) n is
    form-kept size bytes n (PairLine p) in_range emitted is = keeps.more size (bytes + 1) _ (pair-kept size n p in_range is)
    form-kept size bytes n (HostLine name addr) in_range emitted is = keeps.more size (bytes + 1) _
        (host-kept size n name addr is)
    form-kept size bytes n (OpenLine o) in_range emitted is = keeps.more size (bytes + 1) _ (open-kept size n o in_range is)
    form-kept size bytes n (CallLine name e) in_range emitted is =
        with_place-kept size (size + (bytes + 1)) n (λ place socket. call_at w n place socket e)
        (λ place socket at. raised (size + size_of_act e.act + 1) (size + (bytes + 1)) _ (omega (arith, in_range.1))
        (call-kept size n place socket e.now e.act at in_range.0 is))
        (keeps.more size (bytes + 1) n is) (place_of name n.sockets)
    form-kept size bytes n (AcceptLine name now accepted) in_range emitted is =
        elim (is_taken accepted n) as (λ taken.
        P (size + (bytes + 1)) (left_by n (if taken then None else with_socket_of w n name (accept_at w n now accepted)))) [
          | true ↦ keeps.more size (bytes + 1) n is
          | false ↦ with_place-kept size (size + (bytes + 1)) n (accept_at w n now accepted)
              (λ place socket at. raised (size + 0 + 1) (size + (bytes + 1)) _ (omega arith)
              (accept-kept size n now accepted place socket at is))
              (keeps.more size (bytes + 1) n is) (place_of name n.sockets)
        ]
    form-kept size bytes n (DeliverLine number now) in_range emitted is =
        raised (size + 3) (size + (bytes + 1)) _ (omega (arith, in_range))
        (delivered-kept size n number now (slice_get n.datagrams number) refl is)
    form-kept size bytes n (RawLine now datagram) in_range emitted is =
        raised (size + 3) (size + (bytes + 1)) _ (omega (arith, in_range))
        (arrived-kept size n now datagram (route w n datagram) refl (inl (may-raw now datagram emitted)) is)

    read-kept : (size : ℕ) (n : Network C) (line : List ℕ) (form : Option Line) → read_line line ≡ form
        → Raw ⊎ (is_raw form ≡ false) → P size n
        → P (size + (length line + 1)) (left_by n (form >>= on_line w n))
    read-kept size n line None reads emitted is = keeps.more size (length line + 1) n is
    read-kept size n line (Some form) reads emitted is = form-kept size (length line) n form (line-in_range line form reads)
        emitted is

    line-kept : (size : ℕ) (n : Network C) (line : List ℕ) → Raw ⊎ (is_raw (read_line line) ≡ false) → P size n
        → P (size + (length line + 1)) (left_by n (played_line w n line))
    unfolding played_line
    line-kept size n line emitted is = read-kept size n line (read_line line) refl emitted is

    first-emitted : (line : List ℕ) (lines : List (List ℕ)) → Raw ⊎ AreEmitted (line ∷ lines)
        → Raw ⊎ (is_raw (read_line line) ≡ false)
    first-emitted line lines (inl raw) = inl raw
    first-emitted line lines (inr emitted) = inr (emitted 0 line (omega arith))

    others-emitted : (line : List ℕ) (lines : List (List ℕ)) → Raw ⊎ AreEmitted (line ∷ lines) → Raw ⊎ AreEmitted lines
    others-emitted line lines (inl raw) = inl raw
    others-emitted line lines (inr emitted) = inr
        (λ (k : ℕ) (d : List ℕ) (lt : k < length lines). emitted (suc k) d (omega arith))

    lines-kept : (size : ℕ) (n : Network C) (lines : List (List ℕ)) → Raw ⊎ AreEmitted lines → P size n
        → P (size + size_of lines) (network_from w n lines)
    unfolding network_from
    lines-kept size n [] emitted is = keeps.more size (size_of []) n is
    lines-kept size n (line ∷ lines) emitted is =
        let here = line-kept size n line (first-emitted line lines emitted) is in
        let next = left_by n (played_line w n line) in
        let after = lines-kept (size + (length line + 1)) next lines (others-emitted line lines emitted) here in
        let all = sum_by-cons (λ (l : List ℕ). length l + 1) line lines in
        let bytes : size + (length line + 1) + size_of lines ≡ size + size_of (line ∷ lines) = omega (arith, all) in
        subst (λ (k : ℕ). P k (network_from w next lines)) bytes after

    -- so it holds after all lines, where lines may give bytes of their own, or don't
    pub lines-keep : (lines : List (List ℕ)) → Raw ⊎ AreEmitted lines → P (size_of lines) (network_after w lines)
    lines-keep lines emitted =
        let none : 0 + size_of lines ≡ size_of lines = omega arith in
        subst (λ (k : ℕ). P k (network_after w lines)) none (lines-kept 0 empty_network lines emitted keeps.empty)
