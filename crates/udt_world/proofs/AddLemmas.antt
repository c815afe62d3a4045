-- One more socket leaves the network wired, once its endpoint has enrolled it and was told of it.
use Rattle.std.proofs.Common.{◌≡◌, ℕ, ◌+◌, ◌≤◌, ◌<◌, ◌&&◌, Bool, true, false, cond, List, [], ◌∷◌, ◌++◌, length, map, Some, None, Result, Ok, Err, is_ok, refl, ap, ◌∙◌, sym, subst, arith, inl, inr}
use Rattle.std.specs.Prelude.{OnOk, slice_get, slice_set, vec_len}
use Rattle.std.specs.List.{Contains}
use Rattle.std.proofs.lemmas.Bool.{cases_eq}
use Rattle.std.proofs.lemmas.List.{length-map, length_push, map-append, set-set}
use Rattle.udt_model.specs.declared.addresses.Addr.{Addr}
use Rattle.udt_model.specs.declared.answers.Origin.TheVariants as origin
use Rattle.udt_model.specs.Addresses.{same_addr}
use Rattle.udt_model.specs.Phases.{is_closed}
use Rattle.udt_model.specs.Words.{is_word}
use Rattle.udt_laws.proofs.scripts.ReplacedOne.{found-once, set-other, set-same}
use Rattle.udt_laws.proofs.scripts.UnadoptedPair.{same-addr}
use Rattle.udt_routes.specs.Tables.{Table, can_enrol, with_enrolled}
use Rattle.udt_world.specs.declared.hosts.Endpoint.{Endpoint}
use Rattle.udt_world.specs.declared.hosts.TheConstants.{MOST_ENROLLED}
use Rattle.udt_world.specs.declared.network.Network.{Network}
use Rattle.udt_world.specs.declared.network.ScriptSocket.{ScriptSocket}
use Rattle.udt_world.specs.Views.{Sight, sight_of}
use Rattle.udt_world.specs.Wiring.{HasAddress, IsNew, IsUnadopted, IsWired, KeepsAddresses, Knows, adopts, listens, meets, is_here, peer_in, place_seen, place_under, sights_of, waiting_at, with_told}
use Rattle.udt_world.proofs.AddedLemmas.{enrolled-knows, few-adopted, first-more, may-enrol, others-know}
use Rattle.udt_world.proofs.EndpointLemmas.{other-turned}
use Rattle.udt_world.proofs.FirstLemmas.{Only, replaced-cases}
use Rattle.udt_world.proofs.FollowLemmas.{AreOnce, Follows, MayFollow, once-kept}
use Rattle.udt_world.proofs.PlaceLemmas.{is_same_word, same_word}
use Rattle.udt_world.proofs.PushLemmas.{IsOneMore, Before, Last, get-last, get-push, push_either}
use Rattle.udt_world.proofs.ToldLemmas.{and-false, told-knows}

set-end : {A : Type 0} (xs : List A) (x y : A) → slice_set (xs ++ x ∷ []) (length xs) y ≡ xs ++ y ∷ []
set-end [] x y = refl
set-end (z ∷ xs) x y = ap (λ l. z ∷ l) (set-end xs x y)

-- one that fails a test leaves it passed once
only-more : {A : Type 0} (p : A → Bool) (xs : List A) (x : A) → p x ≡ false → Only p xs → Only p (xs ++ x ∷ [])
only-more {A} p xs x fails only = λ i j y z at_i at_j py pz. by i j y z (get-push xs x i y at_i) (get-push xs x j z at_j) py pz
  where
    by : (i j : ℕ) (y z : A) → IsOneMore xs x i y → IsOneMore xs x j z → p y ≡ true → p z ≡ true → i ≡ j
    by i j y z (Before here) (Before there) py pz = only i j y z here there py pz
    by i j y z (Last is it) _ py pz = let own = ap p (sym it) ∙ py in absurd (cc)
    by i j y z _ (Last is it) py pz = let own = ap p (sym it) ∙ pz in absurd (cc)

-- ---- what tables know of it

module _ {C : Type 0} (sights : List (Sight C)) (next : Sight C) (once : AreOnce sights) (quiet : next.listened ≡ false)
    (alone : next.met ≡ None) (free : IsUnadopted sights next.host (peer_in next)) where
  -- the same without its peer
  abbrev bare : Sight C
  bare = record next { state = record next.state { origin = origin.Nobody } }

  abbrev more : List (Sight C)
  more = sights ++ bare ∷ []

  adopts-none : (host addr : Addr) (id : ℕ) → adopts host addr id bare ≡ false
  adopts-none host addr id = and-false (same_addr next.host host)

  bare-once : AreOnce more
  bare-once = record {
    listener = λ host. only-more (listens host) sights bare
        (ap (λ (b : Bool). is_here host bare && b) quiet ∙ and-false (is_here host bare)) (once.listener host);
    meeter = λ host addr. only-more (meets host addr) sights bare
        (rw alone (and-false (is_here host bare))) (once.meeter host addr);
    adopter = λ host addr id. only-more (adopts host addr id) sights bare (adopts-none host addr id) (once.adopter host addr id);
  }

  goes : Follows bare next
  goes = record { host = refl; closed = λ e. e; listened = λ e. e; met = λ to e. e; peer = λ pair e. absurd (cc) }

  may-go : MayFollow more bare next
  may-go = record {
    listener = λ was is. absurd (cc);
    meeter = λ to was is. absurd (cc);
    adopter = λ pair none has. first-more sights bare (adopts next.host pair.addr pair.id) (adopts-none next.host pair.addr pair.id)
        ∙ subst (IsUnadopted sights next.host) has free;
  }

  -- no place is held twice
  pub added-once : AreOnce (sights ++ next ∷ [])
  added-once =
      subst AreOnce (set-end sights bare next)
      (once-kept more (length sights) bare next (get-last sights bare (length sights) refl) bare-once goes may-go)

  -- its endpoint knows it
  pub told-added : {R : Type 0} (t : Table R) (host : Addr) (what : R) → Knows t sights host → next.host ≡ host
      → is_closed next.state.phase ≡ false → length sights < MOST_ENROLLED
      → Knows (with_told (with_enrolled t (length sights + 1) what) (length sights + 1) next) (sights ++ next ∷ []) host
  told-added t host what knows stands live few =
      let here : same_addr next.host host ≡ true = ap (same_addr next.host) (sym stands) ∙ same-addr next.host in
      let room : length more ≤ MOST_ENROLLED = omega (arith, few, length_push sights bare) in
      subst (λ (l : List (Sight C)). Knows (with_told (with_enrolled t (length sights + 1) what) (length sights + 1) next) l host)
      (set-end sights bare next)
      (told-knows (with_enrolled t (length sights + 1) what) more host (length sights) bare next (get-last sights bare (length sights) refl) stands room
      (enrolled-knows sights bare host t what knows here live quiet alone refl) bare-once goes may-go)

-- ---- the network

module _ {C : Type 0} (old new : Network C) (socket : ScriptSocket C) (wired : IsWired old) (is_new : IsNew old socket)
    (sockets_are : new.sockets.items ≡ old.sockets.items ++ socket ∷ []) (count : vec_len new.sockets ≡ vec_len old.sockets + 1)
    (size : length (sights_of old) ≡ vec_len old.sockets)
    (sights_are : sights_of new ≡ sights_of old ++ sight_of socket ∷ [])
    (endpoints_are : new.endpoints.items ≡ slice_set old.endpoints.items socket.endpoint (record is_new.stands.endpoint {
      routes = with_told (with_enrolled is_new.stands.endpoint.routes (length (sights_of old) + 1) tt) (length (sights_of old) + 1)
          (sight_of socket);
    }))
    (names_are : (name : List ℕ) → place_under new name
    ≡ cond (is_word socket.name.items name) (Some (length (sights_of old))) (place_under old name))
    (hosts_are : new.hosts ≡ old.hosts) where
  abbrev told : Endpoint
  told = record is_new.stands.endpoint {
    routes = with_told (with_enrolled is_new.stands.endpoint.routes (length (sights_of old) + 1) tt) (length (sights_of old) + 1)
        (sight_of socket);
  }

  once : AreOnce (sights_of old)
  once = record { listener = wired.listens_once; meeter = wired.meets_once; adopter = wired.adopts_once }

  each_end : {P : Type 0} (p : ℕ) (e : Endpoint) → slice_get new.endpoints.items p ≡ Some e → (p ≡ socket.endpoint → e ≡ told → P)
      → ((p ≡ socket.endpoint → ⊥) → slice_get old.endpoints.items p ≡ Some e → P) → P
  each_end p e at =
      replaced-cases old.endpoints.items socket.endpoint is_new.stands.endpoint told is_new.stands.found p e
      (ap (λ (l : List Endpoint). slice_get l p) (sym endpoints_are) ∙ at)

  old_end : (p : ℕ) (e : Endpoint) → slice_get new.endpoints.items p ≡ Some e
      → (f : Endpoint) × (slice_get old.endpoints.items p ≡ Some f) × (f.addr ≡ e.addr)
  old_end p e at =
      each_end p e at
      (λ is e_is. (is_new.stands.endpoint, ap (slice_get old.endpoints.items) is ∙ is_new.stands.found, ap (λ (x : Endpoint). x.addr) (sym e_is)))
      (λ apart before. (e, before, refl))

  -- each endpoint stands where it stood
  pub added-stands : KeepsAddresses old new
  added-stands p addr has = elim (cases_eq socket.endpoint p) [
    | inl same ↦
        let is : has.endpoint ≡ is_new.stands.endpoint =
        found-once old.endpoints.items p has.endpoint is_new.stands.endpoint has.found
        (ap (slice_get old.endpoints.items) (sym same) ∙ is_new.stands.found) in
        record {
          endpoint = told;
          found = ap (λ (l : List Endpoint). slice_get l p) endpoints_are
              ∙ (ap (slice_get (slice_set old.endpoints.items socket.endpoint told)) (sym same)
              ∙ set-same old.endpoints.items socket.endpoint is_new.stands.endpoint told is_new.stands.found);
          addr_is = ap (λ (x : Endpoint). x.addr) (sym is) ∙ has.addr_is;
        }
    | inr apart ↦ record {
      endpoint = has.endpoint;
      found = ap (λ (l : List Endpoint). slice_get l p) endpoints_are
          ∙ (set-other old.endpoints.items socket.endpoint p told apart ∙ has.found);
      addr_is = has.addr_is;
    }
  ]

  one-more : (p : ℕ) (x : Sight C) → slice_get (sights_of new) p ≡ Some x → IsOneMore (sights_of old) (sight_of socket) p x
  one-more p x at = get-push (sights_of old) (sight_of socket) p x (ap (λ (l : List (Sight C)). slice_get l p) (sym sights_are) ∙ at)

  stood : (p : ℕ) (x : ScriptSocket C) → slice_get new.sockets.items p ≡ Some x → HasAddress old.endpoints.items x.endpoint x.host
  stood p x at =
      by (get-push old.sockets.items socket p x (ap (λ (l : List (ScriptSocket C)). slice_get l p) (sym sockets_are) ∙ at))
    where
      by : IsOneMore old.sockets.items socket p x → HasAddress old.endpoints.items x.endpoint x.host
      by (Before there) = wired.stands p x there
      by (Last is it) = subst (λ (y : ScriptSocket C). HasAddress old.endpoints.items y.endpoint y.host) (sym it) is_new.stands

  seen : (name : List ℕ) → place_seen (sights_of new) name
      ≡ cond (is_word socket.name.items name) (Some (length (sights_of old))) (place_seen (sights_of old) name)
  seen name =
      ap (λ (l : List (Sight C)). place_seen l name) sights_are
      ∙ push_either (λ (x : Sight C). is_word x.name name) (sights_of old) (sight_of socket)
      (λ is. ap (place_seen (sights_of old)) (sym (same_word socket.name.items name is)) ∙ is_new.name)

  knows : (p : ℕ) (e : Endpoint) → slice_get new.endpoints.items p ≡ Some e → Knows e.routes (sights_of new) e.addr
  knows p e at = subst (λ (l : List (Sight C)). Knows e.routes l e.addr) (sym sights_are) (each_end p e at
      (λ is e_is. subst (λ (x : Endpoint). Knows x.routes (sights_of old ++ sight_of socket ∷ []) x.addr) (sym e_is)
      (told-added (sights_of old) (sight_of socket) once is_new.listened is_new.met is_new.peer is_new.stands.endpoint.routes
      is_new.stands.endpoint.addr tt (wired.knows socket.endpoint is_new.stands.endpoint is_new.stands.found)
      (sym is_new.stands.addr_is) is_new.live (omega (arith, size, is_new.room))))
      (λ apart before. others-know (sights_of old) (sight_of socket) e.addr
      (other-turned socket.host e.addr (λ same. apart (wired.apart p socket.endpoint e is_new.stands.endpoint before
      is_new.stands.found (sym same ∙ sym is_new.stands.addr_is))))
      e.routes (wired.knows p e before)))

  called : (p : ℕ) (x : Sight C) → slice_get (sights_of new) p ≡ Some x → place_seen (sights_of new) x.name ≡ Some p
  called p x at = seen x.name ∙ by (one-more p x at)
    where
      by : IsOneMore (sights_of old) (sight_of socket) p x
          → cond (is_word socket.name.items x.name) (Some (length (sights_of old))) (place_seen (sights_of old) x.name) ≡ Some p
      by (Before there) = named (is_word socket.name.items x.name) refl
        where
          named : (b : Bool) → is_word socket.name.items x.name ≡ b
              → cond b (Some (length (sights_of old))) (place_seen (sights_of old) x.name) ≡ Some p
          named true is =
              let none = ap (place_seen (sights_of old)) (sym (same_word socket.name.items x.name is)) ∙ is_new.name in
              let some = wired.called p x there in
              absurd (cc)
          named false is = wired.called p x there
      by (Last is it) =
          ap (λ (y : Sight C). cond (is_word socket.name.items y.name) (Some (length (sights_of old))) (place_seen (sights_of old) y.name)) it
          ∙ (rw (is_same_word socket.name.items) (ap Some (sym is)))

  kept-once : AreOnce (sights_of new)
  kept-once =
      subst AreOnce (sym sights_are) (added-once (sights_of old) (sight_of socket) once is_new.listened is_new.met is_new.peer)

  -- the sockets and the endpoints fit together still
  pub added-wired : IsWired new
  added-wired = record {
    few = omega (arith, count, is_new.room);
    stands = λ p x at. added-stands x.endpoint x.host (stood p x at);
    apart = λ i j e f at_i at_j same.
        let first = old_end i e at_i in
        let second = old_end j f at_j in
        wired.apart i j first.0 second.0 first.1 second.1 (first.2 ∙ (same ∙ sym second.2));
    knows = knows;
    names = λ name. names_are name
        ∙ (ap (cond (is_word socket.name.items name) (Some (length (sights_of old)))) (wired.names name) ∙ sym (seen name));
    called = called;
    given = λ p x at. elim (one-more p x at) [
      | Before there ↦ wired.given p x there
      | Last is it ↦ rw (it, is, size) is_new.given
    ];
    owns = λ p x at. elim (one-more p x at) [
      | Before there ↦ wired.owns p x there
      | Last is it ↦ rw (it, is, size) is_new.own
    ];
    waits = λ p id x at has. elim (one-more p x at) [
      | Before there ↦
          let old_one = wired.waits p id x there has in
          (old_one.0, omega (arith, old_one.1, ap length sights_are, length_push (sights_of old) (sight_of socket)))
      | Last is it ↦
          let none = subst (λ (l : List ℕ). Contains l id) is_new.waits
          (subst (λ (y : Sight C). Contains (waiting_at y.state.phase) id) it has) in
          absurd (omega (arith, none.1))
    ];
    peers = λ p x at. elim (one-more p x at) [
      | Before there ↦ wired.peers p x there
      | Last is it ↦ rw it is_new.fits
    ];
    halves = λ p x at. elim (one-more p x at) [
      | Before there ↦ wired.halves p x there
      | Last is it ↦ rw (it, is, size) is_new.half
    ];
    free = rw hosts_are wired.free;
    listens_once = kept-once.listener;
    meets_once = kept-once.meeter;
    adopts_once = kept-once.adopter;
  }

-- ---- as the code adds it

on-ok : {A E P : Type 0} (r : Result A E) → is_ok r ≡ true → OnOk r P → P
on-ok (Ok x) is p = p
on-ok (Err e) is p = absurd (cc)

module _ {C : Type 0} (old : Network C) (socket : ScriptSocket C) (wired : IsWired old) (is_new : IsNew old socket)
    (home : Endpoint) (found : slice_get old.endpoints.items socket.endpoint ≡ Some home)
    (place : ℕ) (last : place ≡ length old.sockets.items) (size : length old.sockets.items ≡ vec_len old.sockets)
    (routes : Table (Unit {0})) (answer : Result (Unit {0}) (Unit {0})) (exact : is_ok answer ≡ can_enrol home.routes (place + 1))
    (enrolled : OnOk answer (routes ≡ with_enrolled home.routes (place + 1) tt)) where
  next : place ≡ length (sights_of old)
  next = last ∙ sym (length-map old.sockets.items sight_of)

  knows_home : Knows home.routes (sights_of old) home.addr
  knows_home = wired.knows socket.endpoint home found

  few : length (sights_of old) < MOST_ENROLLED
  few = omega (arith, last, next, size, is_new.room)

  -- its endpoint enrolled it
  was_enrolled : routes ≡ with_enrolled home.routes (length (sights_of old) + 1) tt
  was_enrolled =
      subst (λ (n : ℕ). routes ≡ with_enrolled home.routes (n + 1) tt) next
      (on-ok answer (exact ∙ (ap (λ (n : ℕ). can_enrol home.routes (n + 1)) next
      ∙ may-enrol (sights_of old) home.addr home.routes knows_home few)) enrolled)

  abbrev enrolling : List Endpoint
  enrolling = slice_set old.endpoints.items socket.endpoint (record home { routes = routes })

  enrolling-at : slice_get enrolling socket.endpoint ≡ Some (record home { routes = routes })
  enrolling-at = set-same old.endpoints.items socket.endpoint home (record home { routes = routes }) found

  added-at : slice_get (old.sockets.items ++ socket ∷ []) place ≡ Some socket
  added-at = get-last old.sockets.items socket place last

  -- and has room for its pair
  pub room-added : (later : ScriptSocket C) (e : Endpoint) → slice_get (old.sockets.items ++ socket ∷ []) place ≡ Some later
      → slice_get enrolling later.endpoint ≡ Some e → length e.routes.adoptions < e.routes.ids
  room-added later e at found_e =
      let same = found-once (old.sockets.items ++ socket ∷ []) place later socket at added-at in
      let own = found-once enrolling socket.endpoint e (record home { routes = routes })
      (ap (λ (x : ScriptSocket C). slice_get enrolling x.endpoint) (sym same) ∙ found_e) enrolling-at in
      subst (λ (x : Endpoint). length x.routes.adoptions < x.routes.ids) (sym own)
      (subst (λ (t : Table (Unit {0})). length t.adoptions < t.ids) (sym was_enrolled)
      (few-adopted (sights_of old) home.addr home.routes knows_home few))

  module _ (new : Network C) (sockets_are : new.sockets.items ≡ old.sockets.items ++ socket ∷ [])
      (count : vec_len new.sockets ≡ vec_len old.sockets + 1) (hosts_are : new.hosts ≡ old.hosts)
      (names_are : (name : List ℕ) → place_under new name
      ≡ cond (is_word socket.name.items name) (Some place) (place_under old name))
      (told : (later : ScriptSocket C) (e : Endpoint) → slice_get (old.sockets.items ++ socket ∷ []) place ≡ Some later
      → slice_get enrolling later.endpoint ≡ Some e → new.endpoints.items ≡ slice_set enrolling later.endpoint (record e {
        routes = with_told e.routes (place + 1) (sight_of later);
      })) where
    same_home : home ≡ is_new.stands.endpoint
    same_home = found-once old.endpoints.items socket.endpoint home is_new.stands.endpoint found is_new.stands.found

    abbrev told_home : Endpoint → Table (Unit {0}) → ℕ → Endpoint
    told_home e t n = record e { routes = with_told t (n + 1) (sight_of socket) }

    ends_are : new.endpoints.items ≡ slice_set old.endpoints.items socket.endpoint (told_home is_new.stands.endpoint
        (with_enrolled is_new.stands.endpoint.routes (length (sights_of old) + 1) tt) (length (sights_of old)))
    ends_are =
        told socket (record home { routes = routes }) added-at enrolling-at
        ∙ (set-set old.endpoints.items socket.endpoint (record home { routes = routes }) (told_home home routes place)
        ∙ ap (slice_set old.endpoints.items socket.endpoint)
        (ap (λ (n : ℕ). told_home home routes n) next
        ∙ (ap (λ (t : Table (Unit {0})). told_home home t (length (sights_of old))) was_enrolled
        ∙ ap (λ (e : Endpoint). told_home e (with_enrolled e.routes (length (sights_of old) + 1) tt) (length (sights_of old))) same_home)))

    sights_are : sights_of new ≡ sights_of old ++ sight_of socket ∷ []
    sights_are = ap (map sight_of) sockets_are ∙ map-append sight_of old.sockets.items (socket ∷ [])

    -- so it leaves the network wired, and each endpoint where it stood
    pub was-added : IsWired new × KeepsAddresses old new
    was-added =
        let len : length (sights_of old) ≡ vec_len old.sockets = omega (arith, last, next, size) in
        let names = λ (name : List ℕ). names_are name
        ∙ ap (λ (n : ℕ). cond (is_word socket.name.items name) (Some n) (place_under old name)) next in (
          added-wired old new socket wired is_new sockets_are count len sights_are ends_are names hosts_are,
          added-stands old new socket wired is_new sockets_are count len sights_are ends_are names hosts_are,
        )
