-- Where a datagram goes in a network that is shown: to a socket that stands at its host, and a handshake to one without a peer
-- only where none there has adopted its pair.
use Rattle.std.proofs.Common.{◌≡◌, ℕ, zero, suc, ◌+◌, ◌-◌, ◌<◌, Bool, true, false, List, length, map, Some, None, Option, refl, ap, ◌∙◌, sym, subst, arith, inl, inr, option_map}
use Rattle.std.specs.Prelude.{slice_get, position, codes, ◌==◌, if◌then◌else◌}
use Rattle.std.proofs.lemmas.Bool.{and_parts, ne_eqb}
use Rattle.std.proofs.lemmas.List.{length-map}
use Rattle.std.proofs.lemmas.Option.{same_Some, slice_get_within}
use Rattle.udt_model.specs.declared.addresses.Addr.{Addr}
use Rattle.udt_model.specs.declared.packets.Shake.{Shake}
use Rattle.udt_model.specs.declared.routes.Routed.{Routed}
use Rattle.udt_model.specs.declared.routes.Routed.TheVariants as routing
use Rattle.udt_model.specs.Events.{Arrive}
use Rattle.udt_model.specs.Network as model
use Rattle.udt_model.specs.Network.{is_host, is_pair, known_at}
use Rattle.udt_model.specs.Rate.{Ways}
use Rattle.udt_model.specs.Records.{PeerPair}
use Rattle.udt_model.specs.Routes.{handshake_in, route, to_target}
use Rattle.udt_model.specs.Wire.{read, target}
use Rattle.udt_model.proofs.AddressLemmas.{same_addr-is}
use Rattle.udt_laws.proofs.scripts.StandsThere.{IsEnrolled, Listens, MeetsIt, target-gets}
use Rattle.udt_laws.proofs.scripts.WhoAdopted.{who-adopted}
use Rattle.udt_world.specs.declared.arrivals.Route.{Route}
use Rattle.udt_world.specs.declared.arrivals.Route.TheVariants as goes_to
use Rattle.udt_world.specs.Done.{GoesTo, IsRoute, IsRoutedAs}
use Rattle.udt_world.specs.Views.{Sight, View, Shows, sight_of_history}
use Rattle.udt_world.specs.Wiring.{MayHappen, adopts, first_with, is_any, is_here, listens, meets, peer_in, seen_at}
use Rattle.udt_world.proofs.KnownLemmas.{known_seen, route_same}
use Rattle.udt_world.proofs.PushLemmas.{first_passes, item_at}

-- ---- among what is seen

positive : (id : ℕ) → (id == 0) ≡ false → 0 < id
positive zero is = absurd (cc)
positive (suc id) is = omega arith

-- who is adopted is somebody
no-pair : (addr : Addr) (id : ℕ) (peer : Option PeerPair) → peer ≡ None → is_pair addr id peer ≡ true → ⊥
no-pair addr id None none is = cc
no-pair addr id (Some other) none is = cc

module _ {C : Type 0} where
  -- the socket with an ID that is found passes
  found-with : (p : Sight C → Bool) (sights : List (Sight C)) (id : ℕ) → first_with p sights ≡ Some id
      → (s : Sight C) × (0 < id) × (slice_get sights (id - 1) ≡ Some s) × (p s ≡ true)
  found-with p sights id is = by (position p sights) refl is
    where
      by : (found : Option ℕ) → position p sights ≡ found → option_map (λ place. place + 1) found ≡ Some id
          → (s : Sight C) × (0 < id) × (slice_get sights (id - 1) ≡ Some s) × (p s ≡ true)
      by None e none = absurd (cc)
      by (Some k) e there =
          let at = first_passes p sights k e in
          let same : k + 1 ≡ id = cc in
          let less : k ≡ id - 1 = omega (arith, same) in
          (at.0, omega (arith, same), ap (slice_get sights) (sym less) ∙ at.1, at.2)

  module _ (sights : List (Sight C)) (host from : Addr) (bytes : List ℕ) (id : ℕ)
      (goes : route (seen_at sights host) from bytes ≡ routing.ToSocket id) where
    -- the socket to which it goes
    pub record StandsHere : Type 0 where
      pub sight : Sight C
      pub some : 0 < id
      pub at : slice_get sights (id - 1) ≡ Some sight
      pub host_is : sight.host ≡ host

    here-stands : (s : Sight C) → 0 < id → slice_get sights (id - 1) ≡ Some s → is_here host s ≡ true → StandsHere
    here-stands s some at here =
        record { sight = s; some = some; at = at; host_is = same_addr-is s.host host (and_parts _ _ here).0 }

    at-stands : (found : Option (Sight C)) → 0 < id → slice_get sights (id - 1) ≡ found → is_any (is_here host) found ≡ true
        → StandsHere
    at-stands None some at here = absurd (cc)
    at-stands (Some s) some at here = here-stands s some at here

    with-stands : (none : Bool) → (id == 0) ≡ none
        → is_any (is_here host) (if none then None else slice_get sights (id - 1)) ≡ true → StandsHere
    with-stands true test here = absurd (cc)
    with-stands false test here = at-stands (slice_get sights (id - 1)) (positive id test) refl here

    pub stands : StandsHere
    stands = elim (target-gets (seen_at sights host) from id (target bytes) (handshake_in (read bytes)) goes) [
      | IsEnrolled enrolled ↦ with-stands (id == 0) refl enrolled
      | Listens listener ↦
          let found = found-with (listens host) sights id listener in
          here-stands found.0 found.1 found.2 (and_parts _ _ found.3).0
      | MeetsIt meeter ↦
          let found = found-with (meets host from) sights id meeter in
          here-stands found.0 found.1 found.2 (and_parts _ _ found.3).0
    ]

    hears-new : (s : Sight C) (shake : Shake) → slice_get sights (id - 1) ≡ Some s → handshake_in (read bytes) ≡ Some shake
        → peer_in s ≡ None → first_with (adopts s.host from shake.id) sights ≡ None
    hears-new s shake at reads none =
        let known = seen_at sights host in
        let same : stands.sight ≡ s = same_Some _ _ (sym stands.at ∙ at) in
        let host_is : host ≡ s.host = sym stands.host_is ∙ ap (λ (x : Sight C). x.host) same in
        let to_it : to_target known from (target bytes) (Some shake) ≡ routing.ToSocket id =
        ap (to_target known from (target bytes)) (sym reads) ∙ goes in
        elim (who-adopted known from shake id (target bytes) to_it) [
          | inl nobody ↦ subst (λ (a : Addr). first_with (adopts a from shake.id) sights ≡ None) host_is nobody
          | inr adopter ↦
              let found = found-with (adopts host from shake.id) sights id adopter in
              let it : found.0 ≡ s = same_Some _ _ (sym found.2 ∙ at) in
              absurd (no-pair from shake.id (peer_in found.0) (ap (λ (x : Sight C). peer_in x) it ∙ none) (and_parts _ _ found.3).1)
        ]

    -- the arrival may happen
    pub may-hear : MayHappen sights (id - 1) (Arrive from bytes)
    may-hear = record {
      listens = λ s most secret at is. absurd (cc);
      meets = λ s to at is. absurd (cc);
      offers = λ id is. absurd (cc);
      hears = λ s other text shake at is reads none.
          let from_is : from ≡ other = cc in
          let text_is : bytes ≡ text = cc in
          subst (λ (a : Addr). first_with (adopts s.host a shake.id) sights ≡ None) from_is
          (hears-new s shake at (ap (λ (b : List ℕ). handshake_in (read b)) text_is ∙ reads) none);
    }

-- a route to a place is one to the ID after it
pub socket-routed : (routed : Routed) (found : Route) (place : ℕ) → IsRoutedAs routed found → found ≡ goes_to.To place
    → (id : ℕ) × (routed ≡ routing.ToSocket id) × (place ≡ id - 1)
socket-routed (routing.ToSocket id) (goes_to.To at) place is same = let it : at ≡ place = cc in (id, refl, sym it ∙ is)
socket-routed (routing.ToSocket id) (goes_to.Nowhere word) place is same = absurd is
socket-routed routing.Short (goes_to.To at) place is same = absurd is
socket-routed routing.Id (goes_to.To at) place is same = absurd is
socket-routed routing.Shake (goes_to.To at) place is same = absurd is
socket-routed routing.Stale (goes_to.To at) place is same = absurd is
socket-routed routing.Short (goes_to.Nowhere word) place is same = absurd (cc)
socket-routed routing.Id (goes_to.Nowhere word) place is same = absurd (cc)
socket-routed routing.Shake (goes_to.Nowhere word) place is same = absurd (cc)
socket-routed routing.Stale (goes_to.Nowhere word) place is same = absurd (cc)

-- ---- in a network that is shown

module _ {C : Type 0} (w : Ways C) (n : model.Network C) (view : View C) (shows : Shows w n view) (from to : Addr)
    (bytes : List ℕ) where
  abbrev datagram : model.ScriptDatagram
  datagram = record { from = from; to = to; bytes = bytes }

  -- no host has the address
  pub route_away : is_host view.hosts to ≡ false → model.route w n datagram ≡ model.Nowhere (codes "host")
  unfolding model.route
  route_away away =
      let none : is_host n.hosts to ≡ false = ap (λ hosts. is_host hosts to) (sym shows.hosts_are) ∙ away in
      rw none refl

  -- what is seen at the host tells where it goes
  planned : is_host view.hosts to ≡ true
      → model.route w n datagram ≡ model.routed_to n.sockets (route (seen_at view.sockets to) from bytes)
  unfolding model.route
  planned there =
      let host : is_host n.hosts to ≡ true = ap (λ hosts. is_host hosts to) (sym shows.hosts_are) ∙ there in
      let seen : route (known_at w n.sockets to) from bytes ≡ route (seen_at view.sockets to) from bytes =
      route_same (known_at w n.sockets to) (seen_at (map (sight_of_history w) n.sockets) to) (known_seen w n.sockets to) from bytes
      ∙ ap (λ (l : List (Sight C)). route (seen_at l to) from bytes) (sym shows.sockets_are) in
      rw (host, seen) refl

  to-socket : (id place : ℕ) → is_host view.hosts to ≡ true → route (seen_at view.sockets to) from bytes ≡ routing.ToSocket id
      → place ≡ id - 1 → GoesTo w n datagram place
  to-socket id place there goes place_is =
      let here = stands view.sockets to from bytes id goes in
      let within : id - 1 < length n.sockets =
      omega (
        arith,
        slice_get_within view.sockets (id - 1) here.sight here.at,
        ap length shows.sockets_are,
        length-map n.sockets (sight_of_history w),
      ) in
      let known = item_at n.sockets (id - 1) within in
      let some : (id == 0) ≡ false = ne_eqb id 0 (λ e. absurd (omega (arith, here.some, e))) in
      (known.0, ap (slice_get n.sockets) place_is ∙ known.1, planned there ∙ rw (goes, some, known.1, place_is) refl)

  -- the code's route is the definitions'
  pub route_shown : (routed : Routed) (found : Route) → is_host view.hosts to ≡ true
      → routed ≡ route (seen_at view.sockets to) from bytes → IsRoutedAs routed found → IsRoute w n datagram found
  route_shown (routing.ToSocket id) (goes_to.To place) there goes is = to-socket id place there (sym goes) is
  route_shown (routing.ToSocket id) (goes_to.Nowhere word) there goes is = absurd is
  route_shown routing.Short (goes_to.Nowhere word) there goes is = planned there ∙ rw (sym goes, is) refl
  route_shown routing.Id (goes_to.Nowhere word) there goes is = planned there ∙ rw (sym goes, is) refl
  route_shown routing.Shake (goes_to.Nowhere word) there goes is = planned there ∙ rw (sym goes, is) refl
  route_shown routing.Stale (goes_to.Nowhere word) there goes is = planned there ∙ rw (sym goes, is) refl
  route_shown routing.Short (goes_to.To place) there goes is = absurd is
  route_shown routing.Id (goes_to.To place) there goes is = absurd is
  route_shown routing.Shake (goes_to.To place) there goes is = absurd is
  route_shown routing.Stale (goes_to.To place) there goes is = absurd is
