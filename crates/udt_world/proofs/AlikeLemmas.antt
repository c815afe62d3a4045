-- A network stays wired where a socket becomes one of which an endpoint knows the same.
use Rattle.std.proofs.Common.{◌≡◌, ℕ, ◌+◌, ◌≤◌, ◌<◌, ◌||◌, Bool, List, Some, None, Option, is_some, length, map, refl, ap, ◌∙◌, sym, subst, arith, inl, inr}
use Rattle.std.specs.Global.{Global}
use Rattle.std.specs.Prelude.{slice_get, slice_set, vec_len, Vec}
use Rattle.std.specs.List.{Contains}
use Rattle.std.proofs.lemmas.Bool.{cases_eq}
use Rattle.std.proofs.lemmas.List.{length-set}
use Rattle.udt_model.specs.declared.addresses.Addr.{Addr}
use Rattle.udt_model.specs.declared.limits.TheConstants.{MOST_SOCKETS}
use Rattle.udt_model.specs.declared.packets.Kind.{Kind}
use Rattle.udt_model.specs.declared.packets.Kind.TheVariants as kind
use Rattle.udt_model.specs.Calls.{send_in, send_as, recv_in, recv_as}
use Rattle.udt_model.specs.declared.answers.Origin.{Origin}
use Rattle.udt_model.specs.declared.answers.Peer.{Peer}
use Rattle.udt_model.specs.Connections.{phase_after_accept}
use Rattle.udt_model.specs.Events.{Accept, Event, Recv, Reply, Send, at_moment, event}
use Rattle.udt_model.specs.Network.{address_of_host, first_met, is_listening, meets_by}
use Rattle.udt_model.specs.Phases.{Phase, Link, Stands, Lost, Absent, is_closed, link_of}
use Rattle.udt_model.specs.Phases as phase
use Rattle.udt_model.specs.Rate.{Ways}
use Rattle.udt_model.specs.Records.{PeerPair}
use Rattle.udt_model.specs.State.{State}
use Rattle.udt_model.specs.Step.{step}
use Rattle.udt_model.specs.Words.{is_word}
use Rattle.udt_routes.specs.Tables.{Table}
use Rattle.udt_laws.proofs.scripts.ReplacedOne.{found-once, set-same}
use Rattle.udt_world.specs.declared.network.Network.{Network}
use Rattle.udt_world.specs.declared.network.ScriptHost.{ScriptHost}
use Rattle.udt_world.specs.declared.network.ScriptSocket.{ScriptSocket}
use Rattle.udt_world.specs.Views.{Sight, after_event, host_of, sight_of}
use Rattle.udt_world.specs.Wiring.{FitsPhase, HasAddress, IsGiven, IsHalf, IsWired, Knows, adopts, is_any, is_here, listens, meets, one_if, peer_in, place_seen, place_under, sight_with, sights_of, waiting_at}
use Rattle.udt_world.proofs.ActLemmas.{still-waits}
use Rattle.udt_world.proofs.FirstLemmas.{Only, first-set, only-set, position-set, replaced-cases, sum-set, with-place, with-set}
use Rattle.udt_world.proofs.WiredLemmas.{sight-at}

-- an accept leaves the phase but for the one that waited first
accept-closed : (p : Phase) → is_closed (phase_after_accept p) ≡ is_closed p
accept-closed (phase.Listening b) = refl
accept-closed _ = refl

accept-waits : (p : Phase) (id : ℕ) → Contains (waiting_at (phase_after_accept p)) id → Contains (waiting_at p) id
accept-waits (phase.Listening b) id has = still-waits b.offered id has
accept-waits _ id has = has

accept-fits : (p : Phase) (from : Origin) (peer : Peer) → FitsPhase p from peer → FitsPhase (phase_after_accept p) from peer
accept-fits (phase.Listening b) from peer fits = fits
accept-fits _ from peer fits = fits

module _ {C : Type 0} where
  -- a state with this phase and peer
  pub record KeepsLook (s t : State C) : Type 0 where
    pub own : t.own ≡ s.own
    pub phase : t.phase ≡ s.phase
    pub origin : t.origin ≡ s.origin
    pub peer : t.peer ≡ s.peer

  send-look : (s : State C) (bytes : List ℕ) (l : Link) → KeepsLook s (send_in s bytes l).after
  send-look s bytes Stands = record { own = refl; phase = refl; origin = refl; peer = refl }
  send-look s bytes (Lost why) = record { own = refl; phase = refl; origin = refl; peer = refl }
  send-look s bytes Absent = record { own = refl; phase = refl; origin = refl; peer = refl }

  send_as-look : (s : State C) (bytes : List ℕ) (k : Kind) → KeepsLook s (send_as s bytes k).after
  send_as-look s bytes kind.Stream = send-look s bytes (link_of s.phase)
  send_as-look s bytes kind.Message = record { own = refl; phase = refl; origin = refl; peer = refl }

  recv-look : (s : State C) (room : ℕ) (l : Link) → KeepsLook s (recv_in s room l).after
  recv-look s room Stands = record { own = refl; phase = refl; origin = refl; peer = refl }
  recv-look s room (Lost why) = record { own = refl; phase = refl; origin = refl; peer = refl }
  recv-look s room Absent = record { own = refl; phase = refl; origin = refl; peer = refl }

  recv_as-look : (s : State C) (room : ℕ) (k : Kind) → KeepsLook s (recv_as s room k).after
  recv_as-look s room kind.Stream = recv-look s room (link_of s.phase)
  recv_as-look s room kind.Message = record { own = refl; phase = refl; origin = refl; peer = refl }

  -- a state of which an endpoint may know no more and no less: it has the same peer, and no others wait at it
  pub record StaysKnown (s t : State C) : Type 0 where
    pub own : t.own ≡ s.own
    pub closed : is_closed t.phase ≡ is_closed s.phase
    pub origin : t.origin ≡ s.origin
    pub peer : t.peer ≡ s.peer
    pub waits : (id : ℕ) → Contains (waiting_at t.phase) id → Contains (waiting_at s.phase) id
    pub fits : FitsPhase s.phase s.origin s.peer → FitsPhase t.phase t.origin t.peer

  look-on : (s : State C) (now : ℕ) (t : State C) → KeepsLook (at_moment s now) t → StaysKnown s t
  look-on s now t keeps = record {
    own = keeps.own;
    closed = ap (λ (p : Phase). is_closed p) keeps.phase;
    origin = keeps.origin;
    peer = keeps.peer;
    waits = λ id has. subst (λ (p : Phase). Contains (waiting_at p) id) keeps.phase has;
    fits = λ fits. rw (keeps.phase, keeps.origin, keeps.peer) fits;
  }

  pub accept-keeps : (w : Ways C) (s : State C) (now : ℕ) → StaysKnown s (step w s (event now Accept)).after
  unfolding step
  accept-keeps w s now = record {
    own = refl;
    closed = accept-closed s.phase;
    origin = refl;
    peer = refl;
    waits = accept-waits s.phase;
    fits = accept-fits s.phase s.origin s.peer;
  }

  pub send-keeps : (w : Ways C) (s : State C) (now : ℕ) (bytes : List ℕ) → StaysKnown s (step w s (event now (Send bytes))).after
  unfolding step
  send-keeps w s now bytes = look-on s now _ (send_as-look (at_moment s now) bytes s.kind)

  pub recv-keeps : (w : Ways C) (s : State C) (now room : ℕ) → StaysKnown s (step w s (event now (Recv room))).after
  unfolding step
  recv-keeps w s now room = look-on s now _ (recv_as-look (at_moment s now) room s.kind)

-- two sights of which an endpoint knows the same
pub record IsAlike {C : Type 0} (s t : Sight C) : Type 0 where
  pub host : t.host ≡ s.host
  pub listened : t.listened ≡ s.listened
  pub met : t.met ≡ s.met
  pub look : StaysKnown s.state t.state

module _ {C : Type 0} (sights : List (Sight C)) (place : ℕ) (s next : Sight C) (found : slice_get sights place ≡ Some s)
    (alike : IsAlike s next) where
  here-same : (host : Addr) → is_here host next ≡ is_here host s
  here-same host = rw (alike.host, alike.look.closed) refl

  peer-same : peer_in next ≡ peer_in s
  peer-same = rw (alike.look.origin, alike.look.peer) refl

  adopts-same : (host addr : Addr) (id : ℕ) → adopts host addr id next ≡ adopts host addr id s
  adopts-same host addr id = rw (alike.host, alike.look.origin, alike.look.peer) refl

  listens-same : (host : Addr) → listens host next ≡ listens host s
  listens-same host = rw (alike.host, alike.look.closed, alike.listened) refl

  meets-same : (host addr : Addr) → meets host addr next ≡ meets host addr s
  meets-same host addr = rw (alike.host, alike.look.closed, alike.met) refl

  only-alike : (p : Sight C → Bool) → p next ≡ p s → Only p sights → Only p (slice_set sights place next)
  only-alike p same only = only-set p sights place s next found only (λ passes. inl (sym same ∙ passes))

  alike-knows : {R : Type 0} (t : Table R) (host : Addr) → Knows t sights host → Knows t (slice_set sights place next) host
  alike-knows t host knows = record {
    same = record {
      enrolled = λ id. knows.same.enrolled id ∙ sym (elim (cases_eq id (place + 1)) [
        | inl same ↦
            ap (λ (i : ℕ). is_any (is_here host) (sight_with (slice_set sights place next) i)) same
            ∙ (ap (is_any (is_here host)) (with-place (slice_set sights place next) place ∙ set-same sights place s next found)
            ∙ (here-same host ∙ sym (ap (λ (i : ℕ). is_any (is_here host) (sight_with sights i)) same
            ∙ ap (is_any (is_here host)) (with-place sights place ∙ found))))
        | inr differs ↦ ap (is_any (is_here host)) (with-set sights place next id differs)
      ]);
      adopter = λ addr id. knows.same.adopter addr id
          ∙ sym (first-set (adopts host addr id) sights place s next found (adopts-same host addr id));
      listener = knows.same.listener ∙ sym (first-set (listens host) sights place s next found (listens-same host));
      meeter = λ addr. knows.same.meeter addr
          ∙ sym (first-set (meets host addr) sights place s next found (meets-same host addr));
    };
    adopted_once = knows.adopted_once;
    met_once = knows.met_once;
    enrolled_rise = knows.enrolled_rise;
    meetings_rise = knows.meetings_rise;
    ids = knows.ids;
    live = knows.live;
    enrolled = omega (arith, knows.enrolled, length-set sights place next);
    adoptions = omega (
      arith,
      knows.adoptions,
      sum-set (λ (x : Sight C). one_if (is_some (peer_in x))) sights place s next found,
      ap (λ (o : Option PeerPair). one_if (is_some o)) peer-same,
    );
    meetings = omega (
      arith,
      knows.meetings,
      sum-set (λ (x : Sight C). one_if (is_some x.met)) sights place s next found,
      ap (λ (o : Option Addr). one_if (is_some o)) alike.met,
    );
  }

-- one socket became another one of which an endpoint knows the same
module _ {C : Type 0} (old new : Network C) (place : ℕ) (socket later : ScriptSocket C) (wired : IsWired old)
    (found : slice_get old.sockets.items place ≡ Some socket) (alike : IsAlike (sight_of socket) (sight_of later))
    (stays : later.endpoint ≡ socket.endpoint)
    (sockets_are : new.sockets.items ≡ slice_set old.sockets.items place later)
    (sights_are : sights_of new ≡ slice_set (sights_of old) place (sight_of later))
    (endpoints_are : new.endpoints.items ≡ old.endpoints.items) (hosts_are : new.hosts ≡ old.hosts)
    (count : vec_len new.sockets ≡ vec_len old.sockets) where
  seen : slice_get (sights_of old) place ≡ Some (sight_of socket)
  seen = sight-at old place socket found

  pub each-after : {P : Type 0} (p : ℕ) (x : Sight C) → slice_get (sights_of new) p ≡ Some x → (p ≡ place → x ≡ sight_of later → P)
      → ((p ≡ place → ⊥) → slice_get (sights_of old) p ≡ Some x → P) → P
  each-after p x at =
      replaced-cases (sights_of old) place (sight_of socket) (sight_of later) seen p x
      (ap (λ (l : List (Sight C)). slice_get l p) (sym sights_are) ∙ at)

  count_same : length (sights_of new) ≡ length (sights_of old)
  count_same = ap length sights_are ∙ length-set (sights_of old) place (sight_of later)

  stood : (p : ℕ) (x : ScriptSocket C) → slice_get new.sockets.items p ≡ Some x → HasAddress old.endpoints.items x.endpoint x.host
  stood p x at =
      replaced-cases old.sockets.items place socket later found p x
      (ap (λ (l : List (ScriptSocket C)). slice_get l p) (sym sockets_are) ∙ at)
      (λ is x_is. subst (λ (y : ScriptSocket C). HasAddress old.endpoints.items y.endpoint y.host) (sym x_is)
      (rw (stays, alike.host) (wired.stands place socket found)))
      (λ apart before. wired.stands p x before)

  -- so the sockets and the endpoints fit together still, where the names do
  pub placed-wired : ((name : List ℕ) → place_under new name ≡ place_seen (sights_of new) name)
      → ((p : ℕ) (s : Sight C) → slice_get (sights_of new) p ≡ Some s → place_seen (sights_of new) s.name ≡ Some p)
      → ((p : ℕ) (s : Sight C) → slice_get (sights_of new) p ≡ Some s → IsGiven p s.name)
      → IsWired new
  placed-wired names called given = record {
    few = subst (λ (n : ℕ). n ≤ MOST_SOCKETS) (sym count) wired.few;
    stands = λ p x at. rw endpoints_are (stood p x at);
    apart = λ i j e f at_i at_j same. wired.apart i j e f (rw endpoints_are at at_i) (rw endpoints_are at at_j) same;
    knows = λ p e at. subst (λ (l : List (Sight C)). Knows e.routes l e.addr) (sym sights_are)
        (alike-knows (sights_of old) place (sight_of socket) (sight_of later) seen alike e.routes e.addr
        (wired.knows p e (rw endpoints_are at at)));
    names = names;
    called = called;
    given = given;
    owns = λ p x at. each-after p x at
        (λ is x_is. ap (λ (y : Sight C). y.state.own) x_is
        ∙ (alike.look.own ∙ (wired.owns place (sight_of socket) seen ∙ ap (λ (q : ℕ). q + 1) (sym is))))
        (λ apart before. wired.owns p x before);
    waits = λ p id x at waits. subst (λ (n : ℕ). (0 < id) × (id ≤ n)) (sym count_same) (each-after p x at
        (λ is x_is. wired.waits place id (sight_of socket) seen
        (alike.look.waits id (subst (λ (y : Sight C). Contains (waiting_at y.state.phase) id) x_is waits)))
        (λ apart before. wired.waits p id x before waits));
    peers = λ p x at. each-after p x at
        (λ is x_is. subst (λ (y : Sight C). FitsPhase y.state.phase y.state.origin y.state.peer) (sym x_is)
        (alike.look.fits (wired.peers place (sight_of socket) seen)))
        (λ apart before. wired.peers p x before);
    halves = λ p x at. each-after p x at
        (λ is x_is. subst (λ (y : Sight C). IsHalf p y.host (peer_in y)) (sym x_is)
        (rw (alike.host, alike.look.origin, alike.look.peer)
        (subst (λ (q : ℕ). IsHalf q socket.host (peer_in (sight_of socket))) (sym is) (wired.halves place (sight_of socket) seen))))
        (λ apart before. wired.halves p x before);
    free = λ name addr named. wired.free name addr
        (ap (λ (v : Vec ScriptHost Global). address_of_host name (map host_of v.items)) (sym hosts_are) ∙ named);
    listens_once = λ host. rw sights_are
        (only-alike (sights_of old) place (sight_of socket) (sight_of later) seen alike (listens host)
        (listens-same (sights_of old) place (sight_of socket) (sight_of later) seen alike host) (wired.listens_once host));
    meets_once = λ host addr. rw sights_are
        (only-alike (sights_of old) place (sight_of socket) (sight_of later) seen alike (meets host addr)
        (meets-same (sights_of old) place (sight_of socket) (sight_of later) seen alike host addr) (wired.meets_once host addr));
    adopts_once = λ host addr id. rw sights_are
        (only-alike (sights_of old) place (sight_of socket) (sight_of later) seen alike (adopts host addr id)
        (adopts-same (sights_of old) place (sight_of socket) (sight_of later) seen alike host addr id)
        (wired.adopts_once host addr id));
  }

-- a socket that goes on to a state that looks alike
module _ {C : Type 0} (old new : Network C) (place : ℕ) (socket : ScriptSocket C) (after : State C) (wired : IsWired old)
    (found : slice_get old.sockets.items place ≡ Some socket) (keeps : StaysKnown socket.socket after)
    (sockets_are : new.sockets.items ≡ slice_set old.sockets.items place (record socket { socket = after }))
    (sights_are : sights_of new ≡ slice_set (sights_of old) place (record (sight_of socket) { state = after }))
    (endpoints_are : new.endpoints.items ≡ old.endpoints.items) (hosts_are : new.hosts ≡ old.hosts)
    (names_are : new.names ≡ old.names)
    (count : vec_len new.sockets ≡ vec_len old.sockets) where
  abbrev goes_on : ScriptSocket C
  goes_on = record socket { socket = after }

  goes-alike : IsAlike (sight_of socket) (sight_of goes_on)
  goes-alike = record { host = refl; listened = refl; met = refl; look = keeps }

  seen_same : (name : List ℕ) → place_seen (sights_of new) name ≡ place_seen (sights_of old) name
  seen_same name =
      ap (λ (l : List (Sight C)). place_seen l name) sights_are
      ∙ position-set (λ (x : Sight C). is_word x.name name) (sights_of old) place (sight_of socket) (sight_of goes_on)
      (sight-at old place socket found) refl

  each-goes : {P : Type 0} (p : ℕ) (x : Sight C) → slice_get (sights_of new) p ≡ Some x → (p ≡ place → x ≡ sight_of goes_on → P)
      → ((p ≡ place → ⊥) → slice_get (sights_of old) p ≡ Some x → P) → P
  each-goes =
      each-after old new place socket goes_on wired found goes-alike refl sockets_are sights_are endpoints_are hosts_are count

  -- the sockets and the endpoints fit together still
  pub alike-wired : IsWired new
  alike-wired =
      placed-wired old new place socket goes_on wired found goes-alike refl sockets_are sights_are endpoints_are hosts_are count
      (λ name. rw names_are (wired.names name) ∙ sym (seen_same name))
      (λ p x at. seen_same x.name ∙ each-goes p x at
      (λ is x_is. ap (λ (y : Sight C). place_seen (sights_of old) y.name) x_is
      ∙ (wired.called place (sight_of socket) (sight-at old place socket found) ∙ ap Some (sym is)))
      (λ apart before. wired.called p x before))
      (λ p x at. each-goes p x at
      (λ is x_is. subst (λ (y : Sight C). IsGiven p y.name) (sym x_is)
      (subst (λ (q : ℕ). IsGiven q socket.name.items) (sym is) (wired.given place (sight_of socket) (sight-at old place socket found))))
      (λ apart before. wired.given p x before))

or-false : (b : Bool) → (b || Bool.false) ≡ b
or-false Bool.true = refl
or-false Bool.false = refl

first-none : (o : Option Addr) → first_met o None ≡ o
first-none None = refl
first-none (Some to) = refl

-- a socket that answers so, of which the answer says that it begins neither to listen nor to meet anybody
pub quiet-same : {C : Type 0} (w : Ways C) (s : Sight C) (e : Event) (after : State C) (reply : Reply)
    → after ≡ (step w s.state e).after → reply ≡ (step w s.state e).reply → is_listening reply ≡ Bool.false → meets_by e.act reply ≡ None
    → record s { state = after } ≡ after_event w s e
quiet-same w s e after reply is answers listens meets =
    let listened : (s.listened || is_listening (step w s.state e).reply) ≡ s.listened =
    ap (λ (r : Reply). s.listened || is_listening r) (sym answers) ∙ (ap (λ (b : Bool). s.listened || b) listens ∙ or-false s.listened) in
    let met : first_met s.met (meets_by e.act (step w s.state e).reply) ≡ s.met =
    ap (λ (r : Reply). first_met s.met (meets_by e.act r)) (sym answers) ∙ (ap (first_met s.met) meets ∙ first-none s.met) in
    rw (listened, met, is) refl

-- each socket has the endpoint that it had
pub ends-kept : {C : Type 0} (xs : List (ScriptSocket C)) (place : ℕ) (x y : ScriptSocket C) → slice_get xs place ≡ Some x
    → y.endpoint ≡ x.endpoint → (p : ℕ) (a b : ScriptSocket C) → slice_get xs p ≡ Some a → slice_get (slice_set xs place y) p ≡ Some b
    → b.endpoint ≡ a.endpoint
ends-kept {C} xs place x y at same p a b at_a at_b =
    replaced-cases xs place x y at p b at_b
    (λ is b_is.
    let a_is : x ≡ a = found-once xs p x a (ap (slice_get xs) is ∙ at) at_a in
    ap (λ (z : ScriptSocket C). z.endpoint) b_is ∙ (same ∙ ap (λ (z : ScriptSocket C). z.endpoint) a_is))
    (λ apart before. ap (λ (z : ScriptSocket C). z.endpoint) (found-once xs p b a before at_a))
