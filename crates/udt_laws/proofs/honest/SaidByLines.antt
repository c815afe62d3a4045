-- What arrives at a socket of a script was emitted by one of them for its host, and none takes more bytes than the lines have.
use Rattle.std.proofs.Common.{◌≡◌, ◌⊎◌, ℕ, zero, suc, ◌+◌, ◌-◌, ◌≤◌, true, false, List, [], ◌∷◌, ◌++◌, length, Some, None, Ok}
use Rattle.std.proofs.Common.{Option, refl, ap, ◌∙◌, sym, subst, inl, inr, arith}
use Rattle.std.specs.Prelude.{◌==◌, slice_get, slice_set, map, if◌then◌else◌}
use Rattle.std.specs.List.{Contains}
use Rattle.std.proofs.lemmas.Bool.{cases_eq}
use Rattle.std.proofs.lemmas.List.{length-append}
use Rattle.std.proofs.lemmas.List.Elements.{Contains-append_left, Contains-append_right, Contains-append_cases}
use Rattle.udt_model.specs.declared.addresses.Addr.{Addr}
use Rattle.udt_model.specs.declared.packets.Shake.{Shake}
use Rattle.udt_model.specs.declared.routes.Routed.TheVariants.{ToSocket as RoutedTo, Id}
use Rattle.udt_model.specs.Emissions.{emitted, emitted_by, arrived_by_act, arrived_by, arrivals}
use Rattle.udt_model.specs.Events.{Act, Arrive, Event, outs_of}
use Rattle.udt_model.specs.History.{Item, History, taken_by, accepted_by, accepted, state_of, item_of, happened}
use Rattle.udt_model.specs.Lines.{is_arrival, AreEmitted}
use Rattle.udt_model.specs.Network.{ScriptSocket, ScriptDatagram, Network, known_at}
use Rattle.udt_model.specs.Rate.{Ways}
use Rattle.udt_model.specs.Routes.{Known, handshake_in, to_unnamed, to_named, to_target}
use Rattle.udt_model.specs.Script.{from_host, size_of, event_at, paired, network_after}
use Rattle.udt_model.specs.State.{Datagram, Emission}
use Rattle.udt_model.specs.Step.{step}
use Rattle.udt_model.specs.Wire.{Packet, Handshake, is_handshake, destination, read}
use Rattle.udt_model.proofs.HistoryLemmas.{accepted_by-append}
use Rattle.udt_model.proofs.RecordLemmas.{arrived_by-append, emitted_by-append, emission-of}
use Rattle.udt_model.proofs.WireLemmas.{target-of-read}
use Rattle.udt_model.proofs.Members.{contained-cases, none-contained}
use Rattle.udt_laws.proofs.scripts.EachSocket.{Each, each-set, each-more}
use Rattle.udt_laws.proofs.scripts.KeptByLines.{arrival_of, Comes, KeptByLines, lines-keep}
use Rattle.udt_laws.proofs.scripts.LineRanges.{size_of_act, taken-size}
use Rattle.udt_laws.proofs.scripts.ReplacedOne.{set-other, set-same, append-first, found-once, map-among}
use Rattle.udt_laws.proofs.scripts.RouteFinds.{route-finds}

abbrev datagram_between : Addr → Addr → List ℕ → ScriptDatagram
datagram_between from to bytes = record { from = from; to = to; bytes = bytes }

between-same : (from to other_from other_to : Addr) (bytes other_bytes : List ℕ) → from ≡ other_from → to ≡ other_to
    → bytes ≡ other_bytes → datagram_between from to bytes ≡ datagram_between other_from other_to other_bytes
between-same from to other_from other_to bytes other_bytes one two three = cc

-- ---- where a datagram goes that is no handshake

not-shake : (packet : Packet) → is_handshake packet ≡ false → handshake_in (Ok packet) ≡ None
not-shake (Handshake stamp dest shake) is = absurd (cc)
not-shake packet is = refl

enrolled-id : (k : Known) (from : Addr) (dest id : ℕ) → to_named k from (suc dest) None ≡ RoutedTo id → id - 1 + 1 ≡ suc dest
enrolled-id k from dest id is =
    elim (k.is_enrolled (suc dest)) as
    (λ enrolled. (if enrolled then RoutedTo (suc dest) else Id) ≡ RoutedTo id → id - 1 + 1 ≡ suc dest) [
      | true ↦ λ e.
          let same : suc dest ≡ id = cc in
          omega (arith, same)
      | false ↦ λ e. absurd (cc)
    ] is

named-id : (k : Known) (from : Addr) (dest id : ℕ) → to_target k from (Some dest) None ≡ RoutedTo id → id - 1 + 1 ≡ dest
named-id k from zero id is = absurd (cc)
named-id k from (suc dest) id is =
    elim (suc dest == 0) as (λ none. (if none then to_unnamed k from None else to_named k from (suc dest) None) ≡ RoutedTo id
    → id - 1 + 1 ≡ suc dest) [
      | true ↦ λ e. absurd (cc)
      | false ↦ λ e. enrolled-id k from dest id e
    ] is

no-arrival : (act : Act) (arrived : Datagram) → is_arrival act ≡ false → Contains (arrived_by_act act) arrived → ⊥
no-arrival (Arrive from bytes) arrived none among = absurd (cc)
no-arrival act arrived none among = none-contained arrived among

module _ {C : Type 0} (w : Ways C) where
  -- one of the sockets emitted the datagram
  pub record IsSaid (sockets : List (ScriptSocket C)) (datagram : ScriptDatagram) : Type 0 where
    pub place : ℕ
    pub socket : ScriptSocket C
    pub emission : Emission
    pub at : slice_get sockets place ≡ Some socket
    pub host : socket.host ≡ datagram.from
    pub emits : Contains (emitted w socket.history) emission
    pub sent_to : emission.datagram.addr ≡ datagram.to
    pub same : emission.datagram.bytes ≡ datagram.bytes

  -- what came to a socket at this place and host is one of the datagrams, and bound for its ID if it isn't a handshake
  pub record CameThere (datagrams : List ScriptDatagram) (host : Addr) (place : ℕ) (came : Datagram) : Type 0 where
    pub among : Contains datagrams (record { from = came.addr; to = host; bytes = came.bytes })
    pub bound : (packet : Packet) → read came.bytes ≡ Ok packet → is_handshake packet ≡ false → destination packet ≡ place + 1

  -- all that came to it did so, and it took no more bytes than this
  pub record IsServed (size : ℕ) (datagrams : List ScriptDatagram) (place : ℕ) (socket : ScriptSocket C) : Type 0 where
    pub came : (came : Datagram) → Contains (arrivals socket.history) came → CameThere datagrams socket.host place came
    pub taken : length (accepted socket.history) ≤ size

  pub record AreServed (size : ℕ) (n : Network C) : Type 0 where
    pub said : (datagram : ScriptDatagram) → Contains n.datagrams datagram → IsSaid n.sockets datagram
    pub each : Each n.sockets (IsServed size n.datagrams)

  -- ---- a history with one more event

  module _ (h : History C) (event : Event) where
    abbrev next : Item
    next = item_of w (state_of w h) 0 event

    emits-before : (emission : Emission) → Contains (emitted w h) emission → Contains (emitted w (happened w h 0 event)) emission
    emits-before emission among =
        subst (λ (l : List Emission). Contains l emission) (sym (emitted_by-append w h.opening h.items (next ∷ [])))
        (Contains-append_left _ _ emission among)

    emits-now : (emission : Emission) → Contains (step w (state_of w h) event).emissions emission
        → Contains (emitted w (happened w h 0 event)) emission
    unfolding emitted_by
    emits-now emission among =
        subst (λ (l : List Emission). Contains l emission) (sym (emitted_by-append w h.opening h.items (next ∷ [])))
        (Contains-append_right (emitted w h) _ emission
        (Contains-append_left (step w (state_of w h) event).emissions [] emission among))

    came-before : (came : Datagram) → Contains (arrivals (happened w h 0 event)) came
        → Contains (arrivals h) came ⊎ Contains (arrived_by_act event.act) came
    unfolding arrived_by
    came-before came among =
        elim (Contains-append_cases (arrivals h) (arrived_by (next ∷ [])) came
        (subst (λ (l : List Datagram). Contains l came) (arrived_by-append h.items (next ∷ [])) among)) [
          | inl old ↦ inl old
          | inr new ↦ elim (Contains-append_cases (arrived_by_act event.act) [] came new) [
            | inl here ↦ inr here
            | inr none ↦ absurd (none-contained came none)
          ]
        ]

    takes-more : length (accepted (happened w h 0 event)) ≤ length (accepted h) + size_of_act event.act
    unfolding accepted_by
    takes-more =
        omega (
          arith,
          ap length (accepted_by-append h.items (next ∷ [])),
          length-append (accepted h) (accepted_by (next ∷ [])),
          length-append (taken_by next.event.act next.reply) [],
          taken-size event.act next.reply,
        )

  -- ---- more bytes, datagrams and sockets

  served-more : (size more place : ℕ) (datagrams outs : List ScriptDatagram) (socket : ScriptSocket C)
      → IsServed size datagrams place socket
      → IsServed (size + more) (datagrams ++ outs) place socket
  served-more size more place datagrams outs socket is = record {
    came = λ came among.
        let there = is.came came among in
        record { among = Contains-append_left datagrams outs _ there.among; bound = there.bound };
    taken = omega (arith, is.taken);
  }

  sized-more : (size more place : ℕ) (datagrams : List ScriptDatagram) (socket : ScriptSocket C)
      → IsServed size datagrams place socket
      → IsServed (size + more) datagrams place socket
  sized-more size more place datagrams socket is = record { came = is.came; taken = omega (arith, is.taken) }

  fresh-served : (size place : ℕ) (datagrams : List ScriptDatagram) (socket : ScriptSocket C) → socket.history.items ≡ []
      → IsServed size datagrams place socket
  unfolding arrived_by accepted_by
  fresh-served size place datagrams socket fresh = record {
    came = λ came among. absurd (none-contained came (subst (λ (l : List Item). Contains (arrived_by l) came) fresh among));
    taken = omega (arith, ap (λ (l : List Item). length (accepted_by l)) fresh);
  }

  said-more : (sockets added : List (ScriptSocket C)) (datagram : ScriptDatagram) → IsSaid sockets datagram
      → IsSaid (sockets ++ added) datagram
  said-more sockets added datagram is = record {
    place = is.place;
    socket = is.socket;
    emission = is.emission;
    at = append-first sockets added is.place is.socket is.at;
    host = is.host;
    emits = is.emits;
    sent_to = is.sent_to;
    same = is.same;
  }

  -- sockets to which nothing happened are added
  added-served : (size : ℕ) (n : Network C) (added : List (ScriptSocket C))
      → Each added (λ place socket. socket.history.items ≡ [])
      → AreServed size n → AreServed size (record n { sockets = n.sockets ++ added })
  added-served size n added fresh is = record {
    said = λ datagram among. said-more n.sockets added datagram (is.said datagram among);
    each = each-more n.sockets added (IsServed size n.datagrams) is.each (λ k socket at.
        fresh-served size (length n.sockets + k) n.datagrams socket (fresh k socket at));
  }

  one-fresh : (one : ScriptSocket C) → one.history.items ≡ [] → Each (one ∷ []) (λ place socket. socket.history.items ≡ [])
  one-fresh one fresh zero socket at =
      let same : one ≡ socket = cc in
      ap (λ (s : ScriptSocket C). s.history.items) (sym same) ∙ fresh
  one-fresh one fresh (suc k) socket at = absurd (cc)

  two-fresh : (one two : ScriptSocket C) → one.history.items ≡ [] → two.history.items ≡ []
      → Each (one ∷ two ∷ []) (λ place socket. socket.history.items ≡ [])
  two-fresh one two fresh fresh_too zero socket at =
      let same : one ≡ socket = cc in
      ap (λ (s : ScriptSocket C). s.history.items) (sym same) ∙ fresh
  two-fresh one two fresh fresh_too (suc k) socket at = one-fresh two fresh_too k socket at

  -- ---- a socket is replaced

  module _ (sockets : List (ScriptSocket C)) (place : ℕ) (old new : ScriptSocket C) (at : slice_get sockets place ≡ Some old)
      (host : new.host ≡ old.host)
      (emits : (emission : Emission) → Contains (emitted w old.history) emission
      → Contains (emitted w new.history) emission) where
    set-said : (datagram : ScriptDatagram) → IsSaid sockets datagram → IsSaid (slice_set sockets place new) datagram
    set-said datagram said = elim (cases_eq place said.place) [
      | inl same ↦
          let found = subst (λ (k : ℕ). slice_get sockets k ≡ Some said.socket) (sym same) said.at in
          let is = found-once sockets place old said.socket at found in
          record {
            place = place;
            socket = new;
            emission = said.emission;
            at = set-same sockets place old new at;
            host = host ∙ ap (λ (s : ScriptSocket C). s.host) is ∙ said.host;
            emits = emits said.emission
                (subst (λ (s : ScriptSocket C). Contains (emitted w s.history) said.emission) (sym is) said.emits);
            sent_to = said.sent_to;
            same = said.same;
          }
      | inr apart ↦ record {
        place = said.place;
        socket = said.socket;
        emission = said.emission;
        at = set-other sockets place said.place new apart ∙ said.at;
        host = said.host;
        emits = said.emits;
        sent_to = said.sent_to;
        same = said.same;
      }
    ]

  -- ---- an event of the socket at a place

  module _ (size more : ℕ) (n : Network C) (place : ℕ) (socket : ScriptSocket C) (event : Event)
      (at : slice_get n.sockets place ≡ Some socket) (fits : size_of_act event.act ≤ more)
      (came : (came : Datagram) → Contains (arrived_by_act event.act) came → CameThere n.datagrams socket.host place came)
      (is : AreServed size n) where
    abbrev after : ScriptSocket C
    after = record socket { history = happened w socket.history 0 event }

    abbrev outs : List ScriptDatagram
    outs = map (from_host socket.host) (outs_of (step w (state_of w socket.history) event))

    now-said : (datagram : ScriptDatagram) → Contains outs datagram → IsSaid (slice_set n.sockets place after) datagram
    now-said datagram among =
        let out = map-among (from_host socket.host) (outs_of (step w (state_of w socket.history) event)) datagram among in
        let of = emission-of (step w (state_of w socket.history) event).emissions out.0 out.1 in
        record {
          place = place;
          socket = after;
          emission = of.emission;
          at = set-same n.sockets place socket after at;
          host = ap (λ (d : ScriptDatagram). d.from) out.2;
          emits = emits-now socket.history event of.emission of.among;
          sent_to = ap (λ (d : Datagram). d.addr) of.datagram_is ∙ ap (λ (d : ScriptDatagram). d.to) out.2;
          same = ap (λ (d : Datagram). d.bytes) of.datagram_is ∙ ap (λ (d : ScriptDatagram). d.bytes) out.2;
        }

    after-served : IsServed (size + more) (n.datagrams ++ outs) place after
    after-served =
        let before = served-more size more place n.datagrams outs socket (is.each place socket at) in
        record {
          came = λ (one : Datagram) among. elim (came-before socket.history event one among) [
            | inl old ↦ before.came one old
            | inr here ↦
                let there = came one here in
                record { among = Contains-append_left n.datagrams outs _ there.among; bound = there.bound }
          ];
          taken = omega (arith, takes-more socket.history event, (is.each place socket at).taken, fits);
        }

    event-served : AreServed (size + more) (event_at w n place socket event).network
    unfolding event_at
    event-served = record {
      said = λ datagram among. elim (Contains-append_cases n.datagrams outs datagram among) [
        | inl old ↦ set-said n.sockets place socket after at refl (emits-before socket.history event) datagram
            (is.said datagram old)
        | inr new ↦ now-said datagram new
      ];
      each = each-set n.sockets place socket after (IsServed (size + more) (n.datagrams ++ outs)) at
          (λ k other there. served-more size more k n.datagrams outs other (is.each k other there)) after-served;
    }

  -- ---- what comes

  module _ (n : Network C) (place : ℕ) (socket : ScriptSocket C) (datagram : ScriptDatagram)
      (comes : Comes w ⊥ n place socket datagram) where
    bound-there : (packet : Packet) → read datagram.bytes ≡ Ok packet → is_handshake packet ≡ false
        → destination packet ≡ place + 1
    bound-there packet reads plain =
        let none = ap handshake_in reads ∙ not-shake packet plain in
        elim comes.why [
          | inl goes ↦
              let routed = route-finds w n datagram place socket goes in
              let known = known_at w n.sockets datagram.to in
              let to = ap (λ (t : Option ℕ). to_target known datagram.from t (handshake_in (read datagram.bytes)))
              (sym (target-of-read datagram.bytes packet reads)) ∙ routed.goes in
              let named = named-id known datagram.from (destination packet) routed.id
              (subst (λ (shake : Option Shake). to_target known datagram.from (Some (destination packet)) shake
              ≡ RoutedTo routed.id) none to) in
              omega (arith, named, routed.place_is)
          | inr made ↦
              let reads_too = made.reads in
              absurd (cc)
        ]

    came-there : (came : Datagram) → Contains (arrived_by_act (Arrive datagram.from datagram.bytes)) came
        → CameThere n.datagrams socket.host place came
    came-there came among = elim (contained-cases (record { addr = datagram.from; bytes = datagram.bytes }) [] came among) [
      | inl same ↦ subst (CameThere n.datagrams socket.host place) same (record {
        among = elim comes.came [
          | inl raw ↦ absurd raw
          | inr there ↦ subst (Contains n.datagrams)
              (sym (between-same datagram.from socket.host datagram.from datagram.to datagram.bytes
              datagram.bytes refl comes.host refl)) there
        ];
        bound = bound-there;
      })
      | inr none ↦ absurd (none-contained came none)
    ]

  served-kept : KeptByLines w ⊥ AreServed
  unfolding paired
  served-kept = record {
    empty = record { said = λ datagram among. absurd (none-contained datagram among); each = λ k socket at. absurd (cc) };
    more = λ size bytes n is. record {
      said = is.said;
      each = λ k socket at. sized-more size bytes k n.datagrams socket (is.each k socket at);
    };
    pair = λ size n p in_range room is. added-served size n _ (two-fresh _ _ refl refl) is;
    host = λ size n name addr new is. record { said = is.said; each = is.each };
    socket = λ size n o addr in_range room known is. added-served size n _ (one-fresh _ refl) is;
    call = λ size n place socket event at calls is.
        let one = event-served size (size_of_act event.act + 1) n place socket event at (omega arith)
        (λ came among. absurd (no-arrival event.act came calls among)) is in
        let sum : size + (size_of_act event.act + 1) ≡ size + size_of_act event.act + 1 = omega arith in
        subst (λ (k : ℕ). AreServed k (event_at w n place socket event).network) sum one;
    name = λ size n place socket name at is. record {
      said = λ datagram among.
          set-said n.sockets place socket (record socket { name = name }) at refl (λ emission h. h) datagram
          (is.said datagram among);
      each = each-set n.sockets place socket (record socket { name = name }) (IsServed size n.datagrams) at is.each
          (record { came = (is.each place socket at).came; taken = (is.each place socket at).taken });
    };
    arrival = λ size n now place socket datagram comes is.
        event-served size 1 n place socket (arrival_of now datagram) comes.at (omega arith)
        (came-there n place socket datagram comes) is;
    made = λ size n now place listener datagram shake gets before after. added-served (size + 1) _ _ (one-fresh _ refl) after;
  }

  -- so it is of the sockets that lines make
  pub lines-served : (lines : List (List ℕ)) → AreEmitted lines → AreServed (size_of lines) (network_after w lines)
  lines-served lines emitted = lines-keep w ⊥ AreServed served-kept lines (inr emitted)
