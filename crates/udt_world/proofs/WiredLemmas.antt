-- An event of a socket, of which the endpoint at its host is told, leaves the network wired.
use Rattle.std.proofs.Common.{◌≡◌, ℕ, ◌+◌, ◌≤◌, ◌<◌, Bool, true, false, List, Some, None, Option, length, map, refl, ap, ◌∙◌, sym, subst, arith, inl, inr, option_map, is_some}
use Rattle.std.specs.Global.{Global}
use Rattle.std.specs.Prelude.{slice_get, slice_set, vec_len, Vec}
use Rattle.std.specs.List.{Contains}
use Rattle.std.proofs.lemmas.Bool.{cases_eq}
use Rattle.std.proofs.lemmas.List.{length-set, length-map}
use Rattle.std.proofs.lemmas.Option.{slice_get-map, slice_get_within}
use Rattle.udt_model.specs.declared.addresses.Addr.{Addr}
use Rattle.udt_model.specs.declared.limits.TheConstants.{MOST_SOCKETS}
use Rattle.udt_model.specs.Events.{Act, event, at_moment}
use Rattle.udt_model.specs.Network.{address_of_host}
use Rattle.udt_model.specs.Rate.{Ways}
use Rattle.udt_model.specs.Records.{PeerPair}
use Rattle.udt_model.specs.Step.{step}
use Rattle.udt_model.specs.Words.{is_word}
use Rattle.udt_routes.specs.Pairs.{pair_of}
use Rattle.udt_laws.proofs.scripts.ReplacedOne.{set-same, set-other, found-once}
use Rattle.udt_world.specs.declared.hosts.TheConstants.{MOST_ENROLLED}
use Rattle.udt_world.specs.declared.hosts.Endpoint.{Endpoint}
use Rattle.udt_world.specs.declared.network.Network.{Network}
use Rattle.udt_world.specs.declared.network.ScriptHost.{ScriptHost}
use Rattle.udt_world.specs.declared.network.ScriptSocket.{ScriptSocket}
use Rattle.udt_world.specs.Views.{Sight, after_event, host_of, sight_of}
use Rattle.udt_world.specs.Wiring.{FitsPhase, HasAddress, IsGiven, IsHalf, IsWired, KeepsAddresses, KeepsPlaces, Knows, MayHappen, one_if, pair_in, peer_in, place_seen, sights_of, waiting_at, with_told}
use Rattle.udt_world.proofs.ActLemmas.{Acts, step-acts}
use Rattle.udt_world.proofs.FirstLemmas.{position-set, replaced-cases, sum-below}
use Rattle.udt_world.proofs.FollowLemmas.{AreOnce, Follows, MayFollow, once-kept}
use Rattle.udt_world.proofs.MovedLemmas.{event-follows, event-may, others-know}
use Rattle.udt_world.proofs.ToldLemmas.{own-pair, told-knows}

module _ {C : Type 0} where
  -- what is seen at a place is seen of the socket there
  pub mapped : (network : Network C) (p : ℕ) (x : Sight C) → slice_get (sights_of network) p ≡ Some x
      → (a : ScriptSocket C) × (slice_get network.sockets.items p ≡ Some a) × (sight_of a ≡ x)
  mapped network p x at = by (slice_get network.sockets.items p) refl (sym (slice_get-map sight_of network.sockets.items p) ∙ at)
    where
      by : (o : Option (ScriptSocket C)) → slice_get network.sockets.items p ≡ o → option_map sight_of o ≡ Some x
          → (a : ScriptSocket C) × (slice_get network.sockets.items p ≡ Some a) × (sight_of a ≡ x)
      by None e none = absurd (cc)
      by (Some a) e is = (a, e, cc)

  pub sight-at : (network : Network C) (p : ℕ) (a : ScriptSocket C) → slice_get network.sockets.items p ≡ Some a
      → slice_get (sights_of network) p ≡ Some (sight_of a)
  sight-at network p a at = slice_get-map sight_of network.sockets.items p ∙ ap (option_map sight_of) at

module _ {C : Type 0} (w : Ways C) (old new : Network C) (place now : ℕ) (act : Act) (s : Sight C)
    (wired : IsWired old) (may : MayHappen (sights_of old) place act)
    (found : slice_get (sights_of old) place ≡ Some s)
    (sights_are : sights_of new ≡ slice_set (sights_of old) place (after_event w s (event now act)))
    (hosts_are : new.hosts ≡ old.hosts) (names_are : new.names ≡ old.names)
    (count : vec_len new.sockets ≡ vec_len old.sockets)
    (ends : (p : ℕ) (a b : ScriptSocket C) → slice_get old.sockets.items p ≡ Some a → slice_get new.sockets.items p ≡ Some b
    → b.endpoint ≡ a.endpoint)
    (told : (b : ScriptSocket C) (e : Endpoint) → slice_get new.sockets.items place ≡ Some b
    → slice_get old.endpoints.items b.endpoint ≡ Some e
    → new.endpoints.items
    ≡ slice_set old.endpoints.items b.endpoint (record e { routes = with_told e.routes (place + 1) (sight_of b) })) where
  abbrev next : Sight C
  next = after_event w s (event now act)

  acts : Acts (at_moment s.state now) act (step w s.state (event now act))
  acts = step-acts w s.state now act

  follows : Follows s next
  follows = event-follows w (sights_of old) place s now act found (wired.peers place s found) may

  may_follow : MayFollow (sights_of old) s next
  may_follow = event-may w (sights_of old) place s now act found (wired.peers place s found) may

  once : AreOnce (sights_of old)
  once = record { listener = wired.listens_once; meeter = wired.meets_once; adopter = wired.adopts_once }

  still_once : AreOnce (sights_of new)
  still_once = subst AreOnce (sym sights_are) (once-kept (sights_of old) place s next found once follows may_follow)

  each : {P : Type 0} (p : ℕ) (x : Sight C) → slice_get (sights_of new) p ≡ Some x → (p ≡ place → x ≡ next → P)
      → ((p ≡ place → ⊥) → slice_get (sights_of old) p ≡ Some x → P) → P
  each p x at = replaced-cases (sights_of old) place s next found p x (ap (λ (l : List (Sight C)). slice_get l p) (sym sights_are) ∙ at)

  there : (a : ScriptSocket C) × (slice_get old.sockets.items place ≡ Some a) × (sight_of a ≡ s)
  there = mapped old place s found

  here : (a : ScriptSocket C) × (slice_get new.sockets.items place ≡ Some a) × (sight_of a ≡ next)
  here = mapped new place next (ap (λ (l : List (Sight C)). slice_get l place) sights_are ∙ set-same (sights_of old) place s next found)

  home : HasAddress old.endpoints.items there.0.endpoint there.0.host
  home = wired.stands place there.0 there.1

  at_home : home.endpoint.addr ≡ s.host
  at_home = home.addr_is ∙ ap (λ (x : Sight C). x.host) there.2

  abbrev changed : Endpoint
  changed = record home.endpoint { routes = with_told home.endpoint.routes (place + 1) next }

  same_end : here.0.endpoint ≡ there.0.endpoint
  same_end = ends place there.0 here.0 there.1 here.1

  endpoints_are : new.endpoints.items ≡ slice_set old.endpoints.items there.0.endpoint changed
  endpoints_are =
      told here.0 home.endpoint here.1 (ap (slice_get old.endpoints.items) same_end ∙ home.found)
      ∙ (ap (λ (i : ℕ). slice_set old.endpoints.items i (record home.endpoint {
        routes = with_told home.endpoint.routes (place + 1) (sight_of here.0);
      })) same_end
      ∙ ap (λ (x : Sight C). slice_set old.endpoints.items there.0.endpoint (record home.endpoint {
        routes = with_told home.endpoint.routes (place + 1) x;
      })) here.2)

  each_end : {P : Type 0} (p : ℕ) (e : Endpoint) → slice_get new.endpoints.items p ≡ Some e → (p ≡ there.0.endpoint → e ≡ changed → P)
      → ((p ≡ there.0.endpoint → ⊥) → slice_get old.endpoints.items p ≡ Some e → P) → P
  each_end p e at =
      replaced-cases old.endpoints.items there.0.endpoint home.endpoint changed home.found p e
      (ap (λ (l : List Endpoint). slice_get l p) (sym endpoints_are) ∙ at)

  old_end : (p : ℕ) (e : Endpoint) → slice_get new.endpoints.items p ≡ Some e
      → (f : Endpoint) × (slice_get old.endpoints.items p ≡ Some f) × (f.addr ≡ e.addr)
  old_end p e at =
      each_end p e at
      (λ is e_is. (home.endpoint, ap (slice_get old.endpoints.items) is ∙ home.found, ap (λ (x : Endpoint). x.addr) (sym e_is)))
      (λ apart before. (e, before, refl))

  -- each endpoint stands where it stood
  pub event-stands : KeepsAddresses old new
  event-stands p addr has = elim (cases_eq there.0.endpoint p) [
    | inl same ↦
        let is : has.endpoint ≡ home.endpoint =
        found-once old.endpoints.items p has.endpoint home.endpoint has.found (ap (slice_get old.endpoints.items) (sym same) ∙ home.found) in
        record {
          endpoint = changed;
          found = ap (λ (l : List Endpoint). slice_get l p) endpoints_are
              ∙ (ap (slice_get (slice_set old.endpoints.items there.0.endpoint changed)) (sym same)
              ∙ set-same old.endpoints.items there.0.endpoint home.endpoint changed home.found);
          addr_is = ap (λ (x : Endpoint). x.addr) (sym is) ∙ has.addr_is;
        }
    | inr apart ↦ record {
      endpoint = has.endpoint;
      found = ap (λ (l : List Endpoint). slice_get l p) endpoints_are
          ∙ (set-other old.endpoints.items there.0.endpoint p changed apart ∙ has.found);
      addr_is = has.addr_is;
    }
  ]

  count_same : length (sights_of new) ≡ length (sights_of old)
  count_same = ap length sights_are ∙ length-set (sights_of old) place next

  seen_same : (name : List ℕ) → place_seen (sights_of new) name ≡ place_seen (sights_of old) name
  seen_same name =
      ap (λ (l : List (Sight C)). place_seen l name) sights_are
      ∙ position-set (λ (x : Sight C). is_word x.name name) (sights_of old) place s next found refl

  stood : (p : ℕ) (socket : ScriptSocket C) → slice_get new.sockets.items p ≡ Some socket
      → HasAddress old.endpoints.items socket.endpoint socket.host
  stood p socket at =
      each p (sight_of socket) (sight-at new p socket at)
      (λ is x_is.
      let old_at : slice_get old.sockets.items p ≡ Some there.0 = ap (slice_get old.sockets.items) is ∙ there.1 in
      let host : there.0.host ≡ socket.host = ap (λ (x : Sight C). x.host) there.2 ∙ sym (ap (λ (x : Sight C). x.host) x_is) in
      subst (λ (a : Addr). HasAddress old.endpoints.items socket.endpoint a) host
      (subst (λ (i : ℕ). HasAddress old.endpoints.items i there.0.host) (sym (ends p there.0 socket old_at at)) home))
      (λ apart before.
      let was = mapped old p (sight_of socket) before in
      subst (λ (a : Addr). HasAddress old.endpoints.items socket.endpoint a) (ap (λ (x : Sight C). x.host) was.2)
      (subst (λ (i : ℕ). HasAddress old.endpoints.items i was.0.host) (sym (ends p was.0 socket was.1 at)) (wired.stands p was.0 was.1)))

  known : (p : ℕ) (e : Endpoint) → slice_get new.endpoints.items p ≡ Some e → Knows e.routes (sights_of new) e.addr
  known p e at =
      subst (λ (l : List (Sight C)). Knows e.routes l e.addr) (sym sights_are)
      (each_end p e at
      (λ is e_is. subst (λ (x : Endpoint). Knows x.routes (slice_set (sights_of old) place next) x.addr) (sym e_is)
      (told-knows home.endpoint.routes (sights_of old) home.endpoint.addr place s next found (sym at_home)
      (omega (arith, wired.few, old.sockets.ok.0, length-map old.sockets.items sight_of))
      (wired.knows there.0.endpoint home.endpoint home.found) once follows may_follow))
      (λ apart before. others-know e.routes (sights_of old) e.addr place s next found
      (λ same. apart (wired.apart p there.0.endpoint e home.endpoint before home.found (sym same ∙ sym at_home)))
      (wired.knows p e before) follows))

  -- the half of a pair is one still
  half_still : IsHalf place next.host (peer_in next)
  half_still = record {
    first = λ stands. follows.peer _ ((wired.halves place s found).first (sym follows.host ∙ stands));
    second = λ stands. follows.peer _ ((wired.halves place s found).second (sym follows.host ∙ stands));
  }

  -- the sockets and the endpoints fit together still
  pub event-wired : IsWired new
  event-wired = record {
    few = subst (λ (n : ℕ). n ≤ MOST_SOCKETS) (sym count) wired.few;
    stands = λ p socket at. event-stands socket.endpoint socket.host (stood p socket at);
    apart = λ i j e f at_i at_j same.
        let first = old_end i e at_i in
        let second = old_end j f at_j in
        wired.apart i j first.0 second.0 first.1 second.1 (first.2 ∙ (same ∙ sym second.2));
    knows = known;
    names = λ name. rw names_are (wired.names name) ∙ sym (seen_same name);
    called = λ p x at. seen_same x.name ∙ each p x at
        (λ is x_is. ap (λ (y : Sight C). place_seen (sights_of old) y.name) x_is ∙ (wired.called place s found ∙ ap Some (sym is)))
        (λ apart before. wired.called p x before);
    given = λ p x at. each p x at
        (λ is x_is. subst (λ (y : Sight C). IsGiven p y.name) (sym x_is)
        (subst (λ (q : ℕ). IsGiven q s.name) (sym is) (wired.given place s found)))
        (λ apart before. wired.given p x before);
    owns = λ p x at. each p x at
        (λ is x_is. ap (λ (y : Sight C). y.state.own) x_is
        ∙ (acts.own ∙ (wired.owns place s found ∙ ap (λ (q : ℕ). q + 1) (sym is))))
        (λ apart before. wired.owns p x before);
    waits = λ p id x at waits. subst (λ (n : ℕ). (0 < id) × (id ≤ n)) (sym count_same) (each p x at
        (λ is x_is. elim (acts.waits id (subst (λ (y : Sight C). Contains (waiting_at y.state.phase) id) x_is waits)) [
          | inl before ↦ wired.waits place id s found before
          | inr offered ↦ may.offers id offered
        ])
        (λ apart before. wired.waits p id x before waits));
    peers = λ p x at. each p x at
        (λ is x_is. subst (λ (y : Sight C). FitsPhase y.state.phase y.state.origin y.state.peer) (sym x_is)
        (acts.fits (wired.peers place s found)))
        (λ apart before. wired.peers p x before);
    halves = λ p x at. each p x at
        (λ is x_is. subst (λ (y : Sight C). IsHalf p y.host (peer_in y)) (sym x_is)
        (subst (λ (q : ℕ). IsHalf q next.host (peer_in next)) (sym is) half_still))
        (λ apart before. wired.halves p x before);
    free = λ name addr named. wired.free name addr
        (ap (λ (v : Vec ScriptHost Global). address_of_host name (map host_of v.items)) (sym hosts_are) ∙ named);
    listens_once = still_once.listener;
    meets_once = still_once.meeter;
    adopts_once = still_once.adopter;
  }

none-in : (o : Option PeerPair) → pair_in o ≡ None → o ≡ None
none-in None is = refl
none-in (Some pair) is = absurd (cc)

small : (b : Bool) → one_if b ≤ 1
small true = omega arith
small false = omega arith

module _ {C : Type 0} (w : Ways C) (old mid : Network C) (place now : ℕ) (act : Act) (s : Sight C)
    (wired : IsWired old) (may : MayHappen (sights_of old) place act)
    (found : slice_get (sights_of old) place ≡ Some s)
    (sights_are : sights_of mid ≡ slice_set (sights_of old) place (after_event w s (event now act)))
    (keeps : KeepsPlaces old mid) where
  -- the endpoint of the socket is there
  pub event-endpoint : (socket : ScriptSocket C) → slice_get mid.sockets.items place ≡ Some socket → socket.endpoint < vec_len mid.endpoints
  event-endpoint socket at =
      let was = mapped old place s found in
      let home = wired.stands place was.0 was.1 in
      let same : socket.endpoint ≡ was.0.endpoint = keeps.endpoint_of place was.0 socket was.1 at in
      let within = slice_get_within old.endpoints.items was.0.endpoint home.endpoint home.found in
      subst (λ (v : Vec Endpoint Global). socket.endpoint < vec_len v) (sym keeps.endpoints)
      (omega (arith, same, within, old.endpoints.ok.0))

  -- and has room for its pair
  pub event-room : (socket : ScriptSocket C) (endpoint : Endpoint) → slice_get mid.sockets.items place ≡ Some socket
      → slice_get mid.endpoints.items socket.endpoint ≡ Some endpoint → pair_of endpoint.routes.adoptions (place + 1) ≡ None
      → length endpoint.routes.adoptions < endpoint.routes.ids
  event-room socket endpoint at end_at none =
      let was = mapped old place s found in
      let home = wired.stands place was.0 was.1 in
      let same : socket.endpoint ≡ was.0.endpoint = keeps.endpoint_of place was.0 socket was.1 at in
      let old_at : slice_get old.endpoints.items socket.endpoint ≡ Some endpoint =
      ap (λ (v : Vec Endpoint Global). slice_get v.items socket.endpoint) (sym keeps.endpoints) ∙ end_at in
      let is : endpoint ≡ home.endpoint =
      found-once old.endpoints.items socket.endpoint endpoint home.endpoint old_at (ap (slice_get old.endpoints.items) same ∙ home.found) in
      let stands : s.host ≡ endpoint.addr =
      sym (ap (λ (x : Sight C). x.host) was.2) ∙ (sym home.addr_is ∙ ap (λ (e : Endpoint). e.addr) (sym is)) in
      let few : length (sights_of old) ≤ MOST_ENROLLED = omega (arith, wired.few, old.sockets.ok.0, length-map old.sockets.items sight_of) in
      let knows = wired.knows socket.endpoint endpoint old_at in
      let own =
      own-pair endpoint.routes (sights_of old) endpoint.addr place s (after_event w s (event now act)) found stands few knows
      (record { listener = wired.listens_once; meeter = wired.meets_once; adopter = wired.adopts_once })
      (event-follows w (sights_of old) place s now act found (wired.peers place s found) may)
      (event-may w (sights_of old) place s now act found (wired.peers place s found) may) in
      let nobody : peer_in s ≡ None = none-in (peer_in s) (sym own ∙ none) in
      let below =
      sum-below (λ (x : Sight C). one_if (is_some (peer_in x))) (sights_of old) place s (λ x. small (is_some (peer_in x))) found
      (ap (λ (o : Option PeerPair). one_if (is_some o)) nobody) in
      omega (arith, below, knows.adoptions, knows.ids, few)

  -- the endpoint was told
  module _ (new : Network C) (kept : new ≡ record mid { endpoints = new.endpoints })
      (told : (b : ScriptSocket C) (e : Endpoint) → slice_get mid.sockets.items place ≡ Some b
      → slice_get mid.endpoints.items b.endpoint ≡ Some e
      → new.endpoints.items
      ≡ slice_set mid.endpoints.items b.endpoint (record e { routes = with_told e.routes (place + 1) (sight_of b) })) where
    new_sockets : new.sockets ≡ mid.sockets
    new_sockets = ap (λ (n : Network C). n.sockets) kept

    new_sights : sights_of new ≡ slice_set (sights_of old) place (after_event w s (event now act))
    new_sights = ap (λ (v : Vec (ScriptSocket C) Global). map sight_of v.items) new_sockets ∙ sights_are

    new_ends : (p : ℕ) (a b : ScriptSocket C) → slice_get old.sockets.items p ≡ Some a → slice_get new.sockets.items p ≡ Some b
        → b.endpoint ≡ a.endpoint
    new_ends p a b at_a at_b =
        keeps.endpoint_of p a b at_a (ap (λ (v : Vec (ScriptSocket C) Global). slice_get v.items p) (sym new_sockets) ∙ at_b)

    new_told : (b : ScriptSocket C) (e : Endpoint) → slice_get new.sockets.items place ≡ Some b
        → slice_get old.endpoints.items b.endpoint ≡ Some e
        → new.endpoints.items
        ≡ slice_set old.endpoints.items b.endpoint (record e { routes = with_told e.routes (place + 1) (sight_of b) })
    new_told b e at_b at_e =
        told b e (ap (λ (v : Vec (ScriptSocket C) Global). slice_get v.items place) (sym new_sockets) ∙ at_b)
        (ap (λ (v : Vec Endpoint Global). slice_get v.items b.endpoint) keeps.endpoints ∙ at_e)
        ∙ ap (λ (v : Vec Endpoint Global). slice_set v.items b.endpoint (record e { routes = with_told e.routes (place + 1) (sight_of b) })) keeps.endpoints

    new_hosts : new.hosts ≡ old.hosts
    new_hosts = ap (λ (n : Network C). n.hosts) kept ∙ keeps.hosts

    new_names : new.names ≡ old.names
    new_names = ap (λ (n : Network C). n.names) kept ∙ keeps.names

    new_count : vec_len new.sockets ≡ vec_len old.sockets
    new_count = ap (λ (v : Vec (ScriptSocket C) Global). vec_len v) new_sockets ∙ keeps.count

    pub entered-wired : IsWired new
    entered-wired = event-wired w old new place now act s wired may found new_sights new_hosts new_names new_count new_ends new_told

    pub entered-stands : KeepsAddresses old new
    entered-stands = event-stands w old new place now act s wired may found new_sights new_hosts new_names new_count new_ends new_told
