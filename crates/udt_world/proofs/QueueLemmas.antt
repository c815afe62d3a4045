-- What waits at a listener is a socket that no line has named yet, and waits there once.
use Rattle.std.proofs.Common.{◌≡◌, ℕ, zero, suc, ◌+◌, ◌-◌, ◌<◌, false, List, [], ◌∷◌, ◌++◌, length, Some, Ok, refl, ap, ◌∙◌, sym, subst, inl, inr, arith}
use Rattle.std.specs.Prelude.{slice_get, slice_set}
use Rattle.std.specs.List.{Contains}
use Rattle.std.proofs.lemmas.Bool.{cases_eq}
use Rattle.std.proofs.lemmas.List.Elements.{Contains-push_cases}
use Rattle.std.proofs.lemmas.Option.{slice_get_within}
use Rattle.udt_model.specs.Events.{Accept, Offer, Accepted, Event, event}
use Rattle.udt_model.specs.History.{happened, state_of}
use Rattle.udt_model.specs.Network.{ScriptSocket, Network, empty_network}
use Rattle.udt_model.specs.Rate.{Ways}
use Rattle.udt_model.specs.Script.{event_at, named_at, with_socket, with_name}
use Rattle.udt_model.specs.State.{State}
use Rattle.udt_model.specs.Step.{step}
use Rattle.udt_model.specs.Words.{is_name}
use Rattle.udt_model.proofs.HistoryLemmas.{state_of-happened}
use Rattle.udt_laws.proofs.scripts.ReplacedOne.{append-found, append-first, append-second, found-among, found-once, set-other, set-same}
use Rattle.udt_world.specs.Wiring.{waiting_at}
use Rattle.udt_world.proofs.FirstLemmas.{replaced-cases}
use Rattle.udt_world.proofs.PushLemmas.{Before, IsOneMore, Last, get-push}
use Rattle.udt_world.proofs.WaitLemmas.{Keeps, Leave, Grow, Queues, Shrink, Stay, TakesFirst, accept-takes, none-keeps, place-among, queues-keep, rest-keeps, rest-there, same-keeps, step-waits}

module _ {C : Type 0} (w : Ways C) where
  -- the connections that wait at a socket
  abbrev pub queue_of : ScriptSocket C → List ℕ
  queue_of socket = waiting_at (state_of w socket.history).phase

  -- the socket with this ID has no name of a line
  pub record IsUnnamed (n : Network C) (id : ℕ) : Type 0 where
    pub positive : 0 < id
    pub socket : ScriptSocket C
    pub at : slice_get n.sockets (id - 1) ≡ Some socket
    pub unnamed : is_name socket.name ≡ false

  pub record IsQueued (n : Network C) : Type 0 where
    pub unnamed : (k id : ℕ) (s : ScriptSocket C) → slice_get n.sockets k ≡ Some s → Contains (queue_of s) id → IsUnnamed n id
    pub once : (i j a b id : ℕ) (s t : ScriptSocket C) → slice_get n.sockets i ≡ Some s → slice_get n.sockets j ≡ Some t
        → slice_get (queue_of s) a ≡ Some id → slice_get (queue_of t) b ≡ Some id → (i ≡ j) × (a ≡ b)

  no_sockets : {X : Type 0} (k : ℕ) (x : X) → slice_get [] k ≡ Some x → ⊥
  no_sockets k x at = cc

  pub none-queued : IsQueued empty_network
  none-queued = record {
    unnamed = λ k id s at waits. absurd (no_sockets k s at);
    once = λ i j a b id s t at. absurd (no_sockets i s at);
  }

  still-unnamed : (n : Network C) (fresh : ScriptSocket C) (id : ℕ) → IsUnnamed n id → IsUnnamed (with_socket n fresh) id
  still-unnamed n fresh id is = record {
    positive = is.positive;
    socket = is.socket;
    at = append-first n.sockets (fresh ∷ []) (id - 1) is.socket is.at;
    unnamed = is.unnamed;
  }

  -- a socket at which nothing waits is added
  pub added-queued : (n : Network C) (fresh : ScriptSocket C) → queue_of fresh ≡ [] → IsQueued n → IsQueued (with_socket n fresh)
  added-queued n fresh none is =
      let queue_none : (j : ℕ) (s : ScriptSocket C) → slice_get (fresh ∷ []) j ≡ Some s
      → queue_of s ≡ [] = λ j s at. ap queue_of (sym (only j s at)) ∙ none in
      record {
        unnamed = λ k id s at waits. elim (append-found n.sockets (fresh ∷ []) k s at) [
          | inl old ↦ still-unnamed n fresh id (is.unnamed k id s old waits)
          | inr past ↦ absurd (none-waits id (subst (λ (ids : List ℕ). Contains ids id) (queue_none past.0 s past.2) waits))
        ];
        once = λ i j a b id s t at_s at_t first second. elim (append-found n.sockets (fresh ∷ []) i s at_s) [
          | inl old ↦ elim (append-found n.sockets (fresh ∷ []) j t at_t) [
            | inl other ↦ is.once i j a b id s t old other first second
            | inr past ↦ absurd (no_sockets b id (subst (λ (ids : List ℕ). slice_get ids b ≡ Some id)
                (queue_none past.0 t past.2) second))
          ]
          | inr past ↦ absurd (no_sockets a id (subst (λ (ids : List ℕ). slice_get ids a ≡ Some id)
              (queue_none past.0 s past.2) first))
        ];
      }
    where
      only : (j : ℕ) (s : ScriptSocket C) → slice_get (fresh ∷ []) j ≡ Some s → fresh ≡ s
      only zero s at = cc
      only (suc j) s at = absurd (no_sockets j s at)

      none-waits : (id : ℕ) → Contains [] id → ⊥
      none-waits id among = omega (arith, among.1)

  -- what is queued at a place is a socket that no line has named yet
  place-unnamed : (n : Network C) (k a id : ℕ) (s : ScriptSocket C) → IsQueued n → slice_get n.sockets k ≡ Some s
      → slice_get (queue_of s) a ≡ Some id → IsUnnamed n id
  place-unnamed n k a id s is at waits = is.unnamed k id s at (found-among (queue_of s) a id waits)

  still-among : (before after : List ℕ) (id : ℕ) → Keeps before after → Contains after id → Contains before id
  still-among before after id keeps among =
      let there = place-among after id among in
      found-among before (keeps.place there.0) id (keeps.kept there.0 id there.1)

  -- ---- one socket became another

  module _ (n m : Network C) (k : ℕ) (socket later : ScriptSocket C) (at : slice_get n.sockets k ≡ Some socket)
      (sockets_are : m.sockets ≡ slice_set n.sockets k later) where
    -- a socket is the one that came, or it stood there before
    each-socket : {P : Type 0} (i : ℕ) (s : ScriptSocket C) → slice_get m.sockets i ≡ Some s → (i ≡ k → s ≡ later → P)
        → ((i ≡ k → ⊥) → slice_get n.sockets i ≡ Some s → P) → P
    each-socket i s there =
        replaced-cases n.sockets k socket later at i s
        (ap (λ (l : List (ScriptSocket C)). slice_get l i) (sym sockets_are) ∙ there)

    -- each that waits was unnamed before
    kept-unnamed : Keeps (queue_of socket) (queue_of later) → IsQueued n → (i id : ℕ) (s : ScriptSocket C)
        → slice_get m.sockets i ≡ Some s → Contains (queue_of s) id → IsUnnamed n id
    kept-unnamed keeps is i id s there waits = each-socket i s there
        (λ here same. is.unnamed k id socket at (still-among (queue_of socket) (queue_of later) id keeps
        (subst (λ (t : ScriptSocket C). Contains (queue_of t) id) same waits)))
        (λ apart before. is.unnamed i id s before waits)

    -- and waits once still
    kept-once : Keeps (queue_of socket) (queue_of later) → IsQueued n → (i j a b id : ℕ) (s t : ScriptSocket C)
        → slice_get m.sockets i ≡ Some s
        → slice_get m.sockets j ≡ Some t → slice_get (queue_of s) a ≡ Some id → slice_get (queue_of t) b ≡ Some id
        → (i ≡ j) × (a ≡ b)
    kept-once keeps is i j a b id s t at_s at_t first second =
        let kept : (c : ℕ) (x : ScriptSocket C) → x ≡ later → slice_get (queue_of x) c ≡ Some id
        → slice_get (queue_of socket) (keeps.place c) ≡ Some id =
        λ c x same waits. keeps.kept c id (subst (λ (y : ScriptSocket C). slice_get (queue_of y) c ≡ Some id) same waits) in
        each-socket i s at_s
        (λ here s_is.
        let one = kept a s s_is first in
        each-socket j t at_t
        (λ there t_is.
        let same = is.once k k (keeps.place a) (keeps.place b) id socket socket at at one (kept b t t_is second) in
        (here ∙ sym there, keeps.once a b same.1))
        (λ apart before. absurd (apart (sym (is.once k j (keeps.place a) b id socket t at before one second).0))))
        (λ apart before. each-socket j t at_t
        (λ there t_is. absurd (apart (is.once i k a (keeps.place b) id s socket before at first (kept b t t_is second)).0))
        (λ other also. is.once i j a b id s t before also first second))

    -- who had no name of a line has none still
    set-unnamed : later.name ≡ socket.name → (id : ℕ) → IsUnnamed n id → IsUnnamed m id
    set-unnamed named id is = elim (cases_eq k (id - 1)) [
      | inl same ↦
          let one = found-once n.sockets (id - 1) socket is.socket
          (subst (λ (j : ℕ). slice_get n.sockets j ≡ Some socket) same at) is.at in
          record {
            positive = is.positive;
            socket = later;
            at = ap (λ (l : List (ScriptSocket C)). slice_get l (id - 1)) sockets_are
                ∙ subst (λ (j : ℕ). slice_get (slice_set n.sockets k later) j ≡ Some later) same
                (set-same n.sockets k socket later at);
            unnamed = ap is_name named ∙ (ap (λ (s : ScriptSocket C). is_name s.name) one ∙ is.unnamed);
          }
      | inr apart ↦ record {
        positive = is.positive;
        socket = is.socket;
        at = ap (λ (l : List (ScriptSocket C)). slice_get l (id - 1)) sockets_are
            ∙ (set-other n.sockets k (id - 1) later apart ∙ is.at);
        unnamed = is.unnamed;
      }
    ]

    kept-queued : later.name ≡ socket.name → Keeps (queue_of socket) (queue_of later) → IsQueued n → IsQueued m
    kept-queued named keeps is = record {
      unnamed = λ i id s there waits. set-unnamed named id (kept-unnamed keeps is i id s there waits);
      once = kept-once keeps is;
    }

    -- it waited before, or is the one that came
    data WaitsBy (id i a other : ℕ) : Type 0 where
      Waited : (s : ScriptSocket C) → slice_get n.sockets i ≡ Some s → slice_get (queue_of s) a ≡ Some other
          → WaitsBy id i a other
      Came : i ≡ k → a ≡ length (queue_of socket) → other ≡ id → WaitsBy id i a other

    pushed-by : (id i a other : ℕ) → i ≡ k → IsOneMore (queue_of socket) id a other → WaitsBy id i a other
    pushed-by id i a other here (Before before) = Waited socket
        (subst (λ (j : ℕ). slice_get n.sockets j ≡ Some socket) (sym here) at) before
    pushed-by id i a other here (Last last same) = Came here last same

    waited-by : (id : ℕ) → queue_of later ≡ queue_of socket ++ id ∷ [] → (i a other : ℕ) (s : ScriptSocket C)
        → slice_get m.sockets i ≡ Some s
        → slice_get (queue_of s) a ≡ Some other → WaitsBy id i a other
    waited-by id grows i a other s there waits = each-socket i s there
        (λ here same. pushed-by id i a other here (get-push (queue_of socket) id a other
        (subst (λ (ids : List ℕ). slice_get ids a ≡ Some other) (ap queue_of same ∙ grows) waits)))
        (λ apart before. Waited s before waits)

    waited-once : (id : ℕ) → ((i a : ℕ) (s : ScriptSocket C) → slice_get n.sockets i ≡ Some s
        → slice_get (queue_of s) a ≡ Some id → ⊥)
        → IsQueued n → (i j a b other : ℕ) → WaitsBy id i a other → WaitsBy id j b other → (i ≡ j) × (a ≡ b)
    waited-once id nowhere is i j a b other (Waited x at_x first) (Waited y at_y second) =
        is.once i j a b other x y at_x at_y first second
    waited-once id nowhere is i j a b other (Waited x at_x first) (Came here last same) =
        absurd (nowhere i a x at_x (subst (λ (o : ℕ). slice_get (queue_of x) a ≡ Some o) same first))
    waited-once id nowhere is i j a b other (Came here last same) (Waited y at_y second) =
        absurd (nowhere j b y at_y (subst (λ (o : ℕ). slice_get (queue_of y) b ≡ Some o) same second))
    waited-once id nowhere is i j a b other (Came here last same) (Came there last' same') = (here ∙ sym there, last ∙ sym last')

    -- one more waits, which waited nowhere
    grown-queued : (id : ℕ) → later.name ≡ socket.name → queue_of later ≡ queue_of socket ++ id ∷ [] → IsUnnamed n id
        → ((i a : ℕ) (s : ScriptSocket C) → slice_get n.sockets i ≡ Some s → slice_get (queue_of s) a ≡ Some id → ⊥)
        → IsQueued n → IsQueued m
    grown-queued id named grows fresh nowhere is = record {
      unnamed = λ i other s there waits. set-unnamed named other (each-socket i s there
          (λ here same. elim (Contains-push_cases (queue_of socket) id other
          (subst (λ (ids : List ℕ). Contains ids other) (ap queue_of same ∙ grows) waits)) [
            | inl before ↦ is.unnamed k other socket at before
            | inr last ↦ subst (IsUnnamed n) last fresh
          ])
          (λ apart before. is.unnamed i other s before waits));
      once = λ i j a b other s t at_s at_t first second.
          waited-once id nowhere is i j a b other (waited-by id grows i a other s at_s first)
          (waited-by id grows j b other t at_t second);
    }

  -- ---- events

  later-queue : (socket : ScriptSocket C) (event : Event)
      → queue_of (record socket { history = happened w socket.history 0 event }) ≡ waiting_at
      (step w (state_of w socket.history) event).after.phase
  later-queue socket event = ap (λ (s : State C). waiting_at s.phase) (state_of-happened w socket.history 0 event)

  -- what an event leaves of those that wait at its socket
  event-waits : (socket : ScriptSocket C) (event : Event)
      → Queues event.act (queue_of socket) (queue_of (record socket { history = happened w socket.history 0 event }))
  event-waits socket event =
      subst (Queues event.act (queue_of socket)) (sym (later-queue socket event))
      (step-waits w (state_of w socket.history) event.now event.act)

  -- an event by which nothing comes to wait
  pub event-queued : (n : Network C) (k : ℕ) (socket : ScriptSocket C) (event : Event) → slice_get n.sockets k ≡ Some socket
      → ((id : ℕ) → event.act ≡ Offer id → ⊥) → IsQueued n → IsQueued (event_at w n k socket event).network
  unfolding event_at
  event-queued n k socket event at no_offer is =
      let later : ScriptSocket C = record socket { history = happened w socket.history 0 event } in
      kept-queued n (event_at w n k socket event).network k socket later at refl refl
      (queues-keep event.act (queue_of socket) (queue_of later) no_offer (event-waits socket event)) is

  -- nothing waits with the next ID
  next-nowhere : (n : Network C) (fresh : ScriptSocket C) → queue_of fresh ≡ [] → IsQueued n → (i a : ℕ) (s : ScriptSocket C)
      → slice_get (with_socket n fresh).sockets i ≡ Some s → slice_get (queue_of s) a ≡ Some (length n.sockets + 1) → ⊥
  next-nowhere n fresh none is i a s at waits = elim (append-found n.sockets (fresh ∷ []) i s at) [
    | inl old ↦
        let held = place-unnamed n i a (length n.sockets + 1) s is old waits in
        let within = slice_get_within n.sockets (length n.sockets + 1 - 1) held.socket held.at in
        omega (arith, within)
    | inr past ↦ no_sockets a (length n.sockets + 1)
        (subst (λ (ids : List ℕ). slice_get ids a ≡ Some (length n.sockets + 1))
        (ap queue_of (sym (only past.0 past.2)) ∙ none) waits)
  ]
    where
      only : (j : ℕ) → slice_get (fresh ∷ []) j ≡ Some s → fresh ≡ s
      only zero at = cc
      only (suc j) at = absurd (no_sockets j s at)

  offered-by : (n m : Network C) (k : ℕ) (socket later : ScriptSocket C) (id : ℕ) → slice_get n.sockets k ≡ Some socket
      → m.sockets ≡ slice_set n.sockets k later → later.name ≡ socket.name → IsUnnamed n id
      → ((i a : ℕ) (s : ScriptSocket C) → slice_get n.sockets i ≡ Some s → slice_get (queue_of s) a ≡ Some id → ⊥) → IsQueued n
      → Queues (Offer id) (queue_of socket) (queue_of later) → IsQueued m
  offered-by n m k socket later id at sockets_are named fresh nowhere is (Stay stays) =
      kept-queued n m k socket later at sockets_are named (same-keeps _ _ stays) is
  offered-by n m k socket later id at sockets_are named fresh nowhere is (Leave leaves) =
      kept-queued n m k socket later at sockets_are named (none-keeps _ _ leaves) is
  offered-by n m k socket later id at sockets_are named fresh nowhere is (Grow other offer grows) =
      let same : other ≡ id = cc in
      grown-queued n m k socket later at sockets_are id named
      (grows ∙ ap (λ (o : ℕ). queue_of socket ++ o ∷ []) same) fresh nowhere is
  offered-by n m k socket later id at sockets_are named fresh nowhere is (Shrink accept shrinks) = absurd (cc)

  -- a socket that was just added comes to wait
  pub offered-queued : (n : Network C) (fresh : ScriptSocket C) (k : ℕ) (socket : ScriptSocket C) (now : ℕ) → queue_of fresh ≡ []
      → is_name fresh.name ≡ false → slice_get n.sockets k ≡ Some socket → IsQueued n
      → IsQueued (event_at w (with_socket n fresh) k socket (event now (Offer (length n.sockets + 1)))).network
  unfolding event_at
  offered-queued n fresh k socket now none unnamed at is =
      let id = length n.sockets + 1 in
      let more = with_socket n fresh in
      let new : IsUnnamed more id = record {
        positive = omega arith;
        socket = fresh;
        at = append-second n.sockets (fresh ∷ []) (id - 1) 0 fresh (omega arith) refl;
        unnamed = unnamed;
      } in
      offered-by more (event_at w more k socket (event now (Offer id))).network k socket
      (record socket { history = happened w socket.history 0 (event now (Offer id)) }) id
      (append-first n.sockets (fresh ∷ []) k socket at)
      refl refl new (next-nowhere n fresh none is) (added-queued n fresh none is) (event-waits socket (event now (Offer id)))

  -- ---- accepts

  -- the one that is accepted had no name, waits no more, and gets one
  pub record IsAccepted (n : Network C) (k : ℕ) (socket : ScriptSocket C) (now id : ℕ) (name : List ℕ) : Type 0 where
    pub unnamed : IsUnnamed (event_at w n k socket (event now Accept)).network id
    pub queued : IsQueued (with_name (event_at w n k socket (event now Accept)).network id name)

  -- who waited first waits nowhere, once it was taken
  taken-nowhere : (n m : Network C) (k : ℕ) (socket later : ScriptSocket C) (id : ℕ) → slice_get n.sockets k ≡ Some socket
      → m.sockets ≡ slice_set n.sockets k later → TakesFirst (queue_of socket) (queue_of later) id → IsQueued n
      → (i : ℕ) (s : ScriptSocket C) → slice_get m.sockets i ≡ Some s → Contains (queue_of s) id → ⊥
  taken-nowhere n m k socket later id at sockets_are takes is i s there waits =
      each-socket n m k socket later at sockets_are i s there
      (λ here same.
      let place = place-among (queue_of later) id (subst (λ (t : ScriptSocket C). Contains (queue_of t) id) same waits) in
      let behind = rest-there (queue_of socket) place.0 id
      (subst (λ (ids : List ℕ). slice_get ids place.0 ≡ Some id) takes.rest place.1) in
      let once : 0 ≡ suc place.0 = (is.once k k 0 (suc place.0) id socket socket at at takes.first behind).1 in
      omega (arith, once))
      (λ apart before.
      let place = place-among (queue_of s) id waits in
      apart (sym (is.once k i 0 place.0 id socket s at before takes.first place.1).0))

  -- one that waits nowhere gets a name
  named-queued : (n : Network C) (id : ℕ) (name : List ℕ) → IsUnnamed n id
      → ((i : ℕ) (s : ScriptSocket C) → slice_get n.sockets i ≡ Some s → Contains (queue_of s) id → ⊥) → IsQueued n
      → IsQueued (with_name n id name)
  named-queued n id name unnamed nowhere is =
      let named : ScriptSocket C = record unnamed.socket { name = name } in
      let after = named_at n (id - 1) name (Some unnamed.socket) in
      let keeps = same-keeps (queue_of unnamed.socket) (queue_of named) refl in
      subst IsQueued (sym (ap (named_at n (id - 1) name) unnamed.at)) (record {
        unnamed = λ i other s there waits.
            let before = kept-unnamed n after (id - 1) unnamed.socket named unnamed.at refl keeps is i other s there waits in
            let waits_before : other ≡ id → ⊥ = λ same. each-socket n after
            (id - 1) unnamed.socket named unnamed.at refl i s there
            (λ here s_is. nowhere (id - 1) unnamed.socket unnamed.at
            (subst (Contains (queue_of unnamed.socket)) same
            (subst (λ (t : ScriptSocket C). Contains (queue_of t) other) s_is waits)))
            (λ apart old. nowhere i s old (subst (Contains (queue_of s)) same waits)) in
            record {
              positive = before.positive;
              socket = before.socket;
              at = set-other n.sockets (id - 1) (other - 1) named
                  (λ same. waits_before (omega (arith, same, before.positive, unnamed.positive))) ∙ before.at;
              unnamed = before.unnamed;
            };
        once = kept-once n after (id - 1) unnamed.socket named unnamed.at refl keeps is;
      })

  pub accept-queued : (n : Network C) (k : ℕ) (socket : ScriptSocket C) (now id : ℕ) (name : List ℕ)
      → slice_get n.sockets k ≡ Some socket
      → (step w (state_of w socket.history) (event now Accept)).reply ≡ Accepted (Ok id) → IsQueued n
      → IsAccepted n k socket now id name
  unfolding event_at
  accept-queued n k socket now id name at gives is =
      let later : ScriptSocket C = record socket { history = happened w socket.history 0 (event now Accept) } in
      let after = (event_at w n k socket (event now Accept)).network in
      let takes : TakesFirst (queue_of socket) (queue_of later) id =
      subst (λ (ids : List ℕ). TakesFirst (queue_of socket) ids id) (sym (later-queue socket (event now Accept)))
      (accept-takes w (state_of w socket.history) now id gives) in
      let unnamed = set-unnamed n after k socket later at refl refl id (place-unnamed n k 0 id socket is at takes.first) in
      record {
        unnamed = unnamed;
        queued = named-queued after id name unnamed (taken-nowhere n after k socket later id at refl takes is)
            (kept-queued n after k socket later at refl refl (rest-keeps _ _ takes.rest) is);
      }
