-- What the endpoints of a script know of its sockets, and where the sockets of a name stand.
use Rattle.std.specs.Prelude.{◌≡◌, ℕ, ◌+◌, ◌-◌, ◌≤◌, ◌<◌, ◌==◌, Bool, false, not, ◌&&◌, List, [], ◌∷◌, ◌++◌, length, map, Option, Some, None, slice_get, position, is_some, option_map, sum_by, vec_len, decimal, ◌⊎◌, if◌then◌else◌}
use Rattle.std.specs.List.{Contains}
use Rattle.std.specs.Map.{lookup}
use Rattle.std.specs.Ordering.{nat_cmp}
use Rattle.udt_model.specs.declared.addresses.Addr.{Addr}
use Rattle.udt_model.specs.declared.answers.Origin.{Origin}
use Rattle.udt_model.specs.declared.answers.Origin.TheVariants as origin
use Rattle.udt_model.specs.declared.answers.Peer.{Peer}
use Rattle.udt_model.specs.declared.limits.TheConstants.{MOST_SOCKETS}
use Rattle.udt_model.specs.declared.packets.Shake.{Shake}
use Rattle.udt_model.specs.Addresses.{same_addr}
use Rattle.udt_model.specs.Events.{Act, Listen, Meet, Offer, Arrive}
use Rattle.udt_model.specs.Network.{address_of_host, first_host, second_host, is_host, is_met, is_pair}
use Rattle.udt_model.specs.Phases.{Phase, Opened, Listening, Connecting, Meeting, is_closed}
use Rattle.udt_model.specs.Records.{PeerPair, peer_by}
use Rattle.udt_model.specs.Routes.{Known, handshake_in}
use Rattle.udt_model.specs.State.{State}
use Rattle.udt_model.specs.Wire.{read}
use Rattle.udt_model.specs.Words.{is_name, is_word}
use Rattle.udt_routes.specs.Meets.{IsMetOnce, can_meet}
use Rattle.udt_routes.specs.Pairs.{Pair, adopter_of, pair_of, IsAdoptedOnce}
use Rattle.udt_routes.specs.Routing.{found_in, known_by}
use Rattle.udt_routes.specs.Sorted.{IsRising}
use Rattle.udt_routes.specs.Tables.{Table, without, with_meeting}
use Rattle.udt_world.specs.declared.hosts.TheConstants.{MOST_ENROLLED}
use Rattle.udt_world.specs.declared.hosts.Endpoint.{Endpoint}
use Rattle.udt_world.specs.declared.network.Network.{Network}
use Rattle.udt_world.specs.declared.network.ScriptSocket.{ScriptSocket}
use Rattle.udt_world.specs.Views.{Sight, host_of, sight_of}

-- ---- what is seen of the sockets at a host

-- two endpoints know the same
pub record AreSame (k l : Known) : Type 0 where
  pub enrolled : (id : ℕ) → k.is_enrolled id ≡ l.is_enrolled id
  pub adopter : (addr : Addr) (id : ℕ) → k.adopter_of addr id ≡ l.adopter_of addr id
  pub listener : k.listener ≡ l.listener
  pub meeter : (addr : Addr) → k.meeter_of addr ≡ l.meeter_of addr

-- an address with an ID, where there is one
abbrev pub pair_in : Option PeerPair → Option Pair
pair_in None = None
pair_in (Some peer) = Some (peer.addr, peer.id)

abbrev pub one_if : Bool → ℕ
one_if so = if so then 1 else 0

-- the name of the socket at a place: its ID, or one that a line gave it
abbrev pub IsGiven : ℕ → List ℕ → Type 0
IsGiven place name = (name ≡ decimal (place + 1)) ⊎ (is_name name ≡ Bool.true)

-- the connections that wait at a listener to be accepted
abbrev pub waiting_at : Phase → List ℕ
waiting_at (Listening backlog) = backlog.offered
waiting_at other = []

-- whom a meeting socket has adopted: its peer, or nobody
abbrev pub IsAdopted : Option Peer → Origin → Peer → Type 0
IsAdopted None from peer = from ≡ origin.Nobody
IsAdopted (Some adopted) from peer = (from ≡ origin.Rendezvous) × (peer ≡ adopted)

-- a socket has no peer until a handshake connects it, but a meeting one that has adopted it
abbrev pub FitsPhase : Phase → Origin → Peer → Type 0
FitsPhase Opened from peer = from ≡ origin.Nobody
FitsPhase (Listening backlog) from peer = from ≡ origin.Nobody
FitsPhase (Connecting client again) from peer = from ≡ origin.Nobody
FitsPhase (Meeting meeting again) from peer = IsAdopted meeting.adopted from peer
FitsPhase other from peer = Unit {0}

module _ {C : Type 0} where
  -- a socket as it is opened
  abbrev pub new_sight : List ℕ → Addr → State C → Sight C
  new_sight name host state = record { name = name; host = host; listened = false; met = None; state = state }

  -- the pair that a socket has adopted
  abbrev pub peer_in : Sight C → Option PeerPair
  peer_in s = peer_by s.state.origin s.state.peer

  -- it stands at this host, and isn't closed
  abbrev pub is_here : Addr → Sight C → Bool
  is_here host s = same_addr s.host host && not (is_closed s.state.phase)

  abbrev pub adopts : Addr → Addr → ℕ → Sight C → Bool
  adopts host addr id s = same_addr s.host host && is_pair addr id (peer_in s)

  abbrev pub listens : Addr → Sight C → Bool
  listens host s = is_here host s && s.listened

  abbrev pub meets : Addr → Addr → Sight C → Bool
  meets host addr s = is_here host s && is_met addr s.met

  abbrev pub is_any : (Sight C → Bool) → Option (Sight C) → Bool
  is_any is_so None = false
  is_any is_so (Some s) = is_so s

  abbrev pub sight_with : List (Sight C) → ℕ → Option (Sight C)
  sight_with sights id = if id == 0 then None else slice_get sights (id - 1)

  -- the ID of the first socket that is so
  abbrev pub first_with : (Sight C → Bool) → List (Sight C) → Option ℕ
  first_with is_so sights = option_map (λ place. place + 1) (position is_so sights)

  -- what the endpoint at a host knows of these sockets
  abbrev pub seen_at : List (Sight C) → Addr → Known
  seen_at sights host = record {
    is_enrolled = λ id. is_any (is_here host) (sight_with sights id);
    adopter_of = λ addr id. first_with (adopts host addr id) sights;
    listener = first_with (listens host) sights;
    meeter_of = λ addr. first_with (meets host addr) sights;
  }

-- ---- what a table is told of a socket

module _ {R : Type 0} where
  -- a pair is adopted where the ID has none, and no other ID has it
  abbrev pub with_pair : Table R → ℕ → Option Pair → Table R
  with_pair t id None = t
  with_pair t id (Some pair) =
      if is_some (pair_of t.adoptions id)
      then t
      else (if is_some (adopter_of t.adoptions pair)
      then t
      else record t { adoptions = t.adoptions ++ (id, pair) ∷ [] })

  abbrev pub with_listener : Table R → ℕ → Bool → Table R
  with_listener t id listened = if listened then (if is_some t.listener then t else record t { listener = Some id }) else t

  abbrev pub with_met : Table R → ℕ → Option Addr → Table R
  with_met t id None = t
  with_met t id (Some to) = if can_meet t.live t.meetings to id then with_meeting t to id else t

  -- the places that a socket holds until it is closed
  abbrev pub with_places : {C : Type 0} → Table R → ℕ → Sight C → Table R
  with_places t id s = if is_closed s.state.phase then without t id else with_met (with_listener t id s.listened) id s.met

  -- all that there is to know of a socket
  abbrev pub with_told : {C : Type 0} → Table R → ℕ → Sight C → Table R
  with_told t id s = with_places (with_pair t id (pair_in (peer_in s))) id s

-- ---- the sockets and the endpoints fit together

-- a socket at the first host of pairs has the one after it as its peer, and one at the second the one before it
pub record IsHalf (place : ℕ) (host : Addr) (peer : Option PeerPair) : Type 0 where
  pub first : host ≡ first_host → peer ≡ Some (record { addr = second_host; id = place + 2 })
  pub second : host ≡ second_host → peer ≡ Some (record { addr = first_host; id = place })

-- an address is that of neither of these hosts
pub record IsFree (addr : Addr) : Type 0 where
  pub first : addr ≡ first_host → ⊥
  pub second : addr ≡ second_host → ⊥

-- the endpoint at this place has this address
pub record HasAddress (endpoints : List Endpoint) (place : ℕ) (addr : Addr) : Type 0 where
  pub endpoint : Endpoint
  pub found : slice_get endpoints place ≡ Some endpoint
  pub addr_is : endpoint.addr ≡ addr

module _ {C : Type 0} where
  -- a table knows what is seen of the sockets at a host, and has room for what there may be
  pub record Knows {R : Type 0} (t : Table R) (sights : List (Sight C)) (host : Addr) : Type 0 where
    pub same : AreSame (known_by (found_in t) (adopter_of t.adoptions)) (seen_at sights host)
    pub adopted_once : IsAdoptedOnce t.adoptions
    pub met_once : IsMetOnce t.meetings
    pub enrolled_rise : IsRising nat_cmp t.enrolled
    pub meetings_rise : IsRising nat_cmp t.meetings
    pub ids : t.ids ≡ MOST_ENROLLED
    pub live : t.live ≡ MOST_ENROLLED
    pub enrolled : length t.enrolled ≤ length sights
    pub adoptions : length t.adoptions ≤ sum_by (λ (s : Sight C). one_if (is_some (peer_in s))) sights
    pub meetings : length t.meetings ≤ sum_by (λ (s : Sight C). one_if (is_some s.met)) sights

  abbrev pub sights_of : Network C → List (Sight C)
  sights_of network = map sight_of network.sockets.items

  -- where an address has an endpoint, it is the one at this place, and a host has the address; where it has none, no host has it
  abbrev pub IsEndpoint : Network C → Option ℕ → Addr → Type 0
  IsEndpoint network (Some place) addr =
      HasAddress network.endpoints.items place addr × (is_host (map host_of network.hosts.items) addr ≡ Bool.true)
  IsEndpoint network None addr = is_host (map host_of network.hosts.items) addr ≡ Bool.false

  -- the place that is kept under a name
  abbrev pub place_under : Network C → List ℕ → Option ℕ
  place_under network name = lookup (λ key. is_word key.items name) network.names.entries

  -- the place of the socket that is seen under a name
  abbrev pub place_seen : List (Sight C) → List ℕ → Option ℕ
  place_seen sights name = position (λ s. is_word s.name name) sights

  -- the sockets and the endpoints fit together
  pub record IsWired (network : Network C) : Type 0 where
    pub few : vec_len network.sockets ≤ MOST_SOCKETS
    -- the endpoint of a socket has the address of its host
    pub stands : (place : ℕ) (socket : ScriptSocket C) → slice_get network.sockets.items place ≡ Some socket
        → HasAddress network.endpoints.items socket.endpoint socket.host
    -- an address has one endpoint
    pub apart : (i j : ℕ) (e f : Endpoint) → slice_get network.endpoints.items i ≡ Some e
        → slice_get network.endpoints.items j ≡ Some f → e.addr ≡ f.addr → i ≡ j
    -- an endpoint knows of the sockets at its address what is seen of them
    pub knows : (place : ℕ) (e : Endpoint) → slice_get network.endpoints.items place ≡ Some e
        → Knows e.routes (sights_of network) e.addr
    -- each socket stands under its name
    pub names : (name : List ℕ) → place_under network name ≡ place_seen (sights_of network) name
    -- and no other one has that name
    pub called : (place : ℕ) (s : Sight C) → slice_get (sights_of network) place ≡ Some s
        → place_seen (sights_of network) s.name ≡ Some place
    pub given : (place : ℕ) (s : Sight C) → slice_get (sights_of network) place ≡ Some s → IsGiven place s.name
    -- its ID is the number after its place
    pub owns : (place : ℕ) (s : Sight C) → slice_get (sights_of network) place ≡ Some s → s.state.own ≡ place + 1
    -- what waits at a listener are sockets
    pub waits : (place id : ℕ) (s : Sight C) → slice_get (sights_of network) place ≡ Some s
        → Contains (waiting_at s.state.phase) id → (0 < id) × (id ≤ length (sights_of network))
    -- a socket has the peer that fits its phase
    pub peers : (place : ℕ) (s : Sight C) → slice_get (sights_of network) place ≡ Some s
        → FitsPhase s.state.phase s.state.origin s.state.peer
    -- at the hosts of pairs stand pairs alone, and no line names these hosts
    pub halves : (place : ℕ) (s : Sight C) → slice_get (sights_of network) place ≡ Some s → IsHalf place s.host (peer_in s)
    pub free : (name : List ℕ) (addr : Addr) → address_of_host name (map host_of network.hosts.items) ≡ Some addr → IsFree addr
    -- at most one socket of a host listens, one meets an address, and one has adopted a pair
    pub listens_once : (host : Addr) (i j : ℕ) (s t : Sight C) → slice_get (sights_of network) i ≡ Some s
        → slice_get (sights_of network) j ≡ Some t → listens host s ≡ Bool.true → listens host t ≡ Bool.true → i ≡ j
    pub meets_once : (host addr : Addr) (i j : ℕ) (s t : Sight C) → slice_get (sights_of network) i ≡ Some s
        → slice_get (sights_of network) j ≡ Some t → meets host addr s ≡ Bool.true → meets host addr t ≡ Bool.true → i ≡ j
    pub adopts_once : (host addr : Addr) (id i j : ℕ) (s t : Sight C) → slice_get (sights_of network) i ≡ Some s
        → slice_get (sights_of network) j ≡ Some t → adopts host addr id s ≡ Bool.true → adopts host addr id t ≡ Bool.true
        → i ≡ j

  -- a pair that a socket names as its peer is adopted by none of these at its host
  abbrev pub IsUnadopted : List (Sight C) → Addr → Option PeerPair → Type 0
  IsUnadopted sights host None = Unit {0}
  IsUnadopted sights host (Some peer) = first_with (adopts host peer.addr peer.id) sights ≡ None

  -- a socket may be added: it is as one that is opened, with its endpoint, the next ID, a new name, and a peer that none
  -- of the others at its host has adopted. At the hosts of pairs it is the half of a pair
  pub record IsNew (network : Network C) (socket : ScriptSocket C) : Type 0 where
    pub room : vec_len network.sockets < MOST_SOCKETS
    pub stands : HasAddress network.endpoints.items socket.endpoint socket.host
    pub own : socket.socket.own ≡ vec_len network.sockets + 1
    pub name : place_seen (sights_of network) socket.name.items ≡ None
    pub given : IsGiven (vec_len network.sockets) socket.name.items
    pub live : is_closed socket.socket.phase ≡ Bool.false
    pub waits : waiting_at socket.socket.phase ≡ []
    pub listened : socket.listened ≡ Bool.false
    pub met : socket.met ≡ None
    pub peer : IsUnadopted (sights_of network) socket.host (peer_in (sight_of socket))
    pub fits : FitsPhase socket.socket.phase socket.socket.origin socket.socket.peer
    pub half : IsHalf (vec_len network.sockets) socket.host (peer_in (sight_of socket))

  -- what an act may need so that the sockets and the endpoints fit together after it: one that listens finds no listener at
  -- its host; one that meets an address finds none that meets it, and meets none yet; a connection that is offered is a
  -- socket; and an arrival at a socket without a peer is of a pair that none at its host has adopted
  pub record MayHappen (sights : List (Sight C)) (place : ℕ) (act : Act) : Type 0 where
    pub listens : (s : Sight C) (most : ℕ) (secret : List ℕ) → slice_get sights place ≡ Some s → act ≡ Listen most secret
        → first_with (listens s.host) sights ≡ None
    pub meets : (s : Sight C) (to : Addr) → slice_get sights place ≡ Some s → act ≡ Meet to
        → (first_with (meets s.host to) sights ≡ None) × (is_here s.host s && is_some s.met ≡ Bool.false)
    pub offers : (id : ℕ) → act ≡ Offer id → (0 < id) × (id ≤ length sights)
    pub hears : (s : Sight C) (from : Addr) (bytes : List ℕ) (shake : Shake) → slice_get sights place ≡ Some s
        → act ≡ Arrive from bytes → handshake_in (read bytes) ≡ Some shake → peer_in s ≡ None
        → first_with (adopts s.host from shake.id) sights ≡ None

  -- each endpoint stands where it stood
  abbrev pub KeepsAddresses : Network C → Network C → Type 0
  KeepsAddresses old new =
      (place : ℕ) (addr : Addr) → HasAddress old.endpoints.items place addr → HasAddress new.endpoints.items place addr

  -- nothing changed but what is seen of the sockets and the datagrams: the hosts, the endpoints and the names are as they were,
  -- and each socket has the endpoint that it had
  pub record KeepsPlaces (old new : Network C) : Type 0 where
    pub hosts : new.hosts ≡ old.hosts
    pub endpoints : new.endpoints ≡ old.endpoints
    pub names : new.names ≡ old.names
    pub count : vec_len new.sockets ≡ vec_len old.sockets
    pub endpoint_of : (place : ℕ) (socket later : ScriptSocket C) → slice_get old.sockets.items place ≡ Some socket
        → slice_get new.sockets.items place ≡ Some later → later.endpoint ≡ socket.endpoint
