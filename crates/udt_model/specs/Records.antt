-- Records of endpoints, and when they are lawful. The network may lose, repeat and reorder (Gu and Grossman, Computer
-- Networks, 2007), so a record keeps all that was ever emitted.
use Rattle.std.specs.Prelude.{◌≡◌, ℕ, ◌==◌, Bool, true, false, List, Option, Some, None, Ok}
use Rattle.std.specs.List.{Contains}
use Rattle.udt_model.specs.declared.addresses.Addr.{Addr}
use Rattle.udt_model.specs.declared.answers.Heard.TheVariants as heard
use Rattle.udt_model.specs.declared.answers.Origin.{Origin}
use Rattle.udt_model.specs.declared.answers.Origin.TheVariants as origin
use Rattle.udt_model.specs.declared.answers.Peer.{Peer}
use Rattle.udt_model.specs.declared.handshakes.Asked.{Asked}
use Rattle.udt_model.specs.declared.handshakes.Asked.TheVariants as asks
use Rattle.udt_model.specs.declared.packets.Config.{Config}
use Rattle.udt_model.specs.declared.packets.Shake.{Shake}
use Rattle.udt_model.specs.Wire.{Packet, Handshake, destination, read}
use Rattle.udt_model.specs.Rate.{Ways}
use Rattle.udt_model.specs.State.{State, Emission}
use Rattle.udt_model.specs.Events.{Arrive, DidHear}
use Rattle.udt_model.specs.Handshakes.{asked}
use Rattle.udt_model.specs.Opening.{opened, opening, IsOpened, IsOpening}
use Rattle.udt_model.specs.History.{Item, History, state_of, IsLegal}
use Rattle.udt_model.specs.Emissions.{emitted}

-- how a socket was opened: without a connection, with its initial sequence number; connected, for a request of this peer; or
-- connected by a script, with the offset at which both directions begin
pub data Way : Type 0 where
  Opened : (isn : ℕ) → (config : Config) → (now : ℕ) → Way
  Paired : (config : Config) → (peer : Peer) → (now : ℕ) → Way
  PairedAt : (config : Config) → (peer : Peer) → (now : ℕ) → (start : ℕ) → Way

-- the values of an opening are in their ranges
abbrev pub IsWay : ℕ → Way → Type 0
IsWay own (Opened isn config now) = IsOpened own isn config
IsWay own (Paired config peer now) = IsOpening own config peer 0
IsWay own (PairedAt config peer now start) = IsOpening own config peer start

-- a socket of an endpoint: its ID, how it was opened, and all that happened to it
pub record Enrolled (C : Type 0) : Type 0 where
  pub own : ℕ
  pub way : Way
  pub history : History C

-- an endpoint: its address, and its sockets
pub record EndpointRecord (C : Type 0) : Type 0 where
  pub addr : Addr
  pub sockets : List (Enrolled C)

-- an address and the ID of a socket there
pub record PeerPair : Type 0 where
  pub addr : Addr
  pub id : ℕ

-- a script made both sockets as a pair: each is the other's peer, and kind, initial sequence number and first offset are the
-- same
abbrev pub ArePaired : Addr → ℕ → Way → Addr → ℕ → Way → Type 0
ArePaired addr own (PairedAt config peer now start) other_addr other_own (PairedAt config' peer' now' start') =
    (peer.addr ≡ other_addr) × (peer.id ≡ other_own) × (peer'.addr ≡ addr) × (peer'.id ≡ own)
    × (config'.kind ≡ config.kind) × (peer'.isn ≡ peer.isn) × (start' ≡ start)
ArePaired addr own way other_addr other_own other_way = ⊥

-- ---- what packets say of their sender

-- an answer goes to the peer, and so does all that isn't a handshake
abbrev pub is_answer : Asked → Bool
is_answer asks.Answers = true
is_answer asks.Agrees = true
is_answer asks.Meets = false
is_answer asks.Requests = false
is_answer asks.Refuses = false
is_answer asks.Other = false

abbrev pub is_bound : Packet → Bool
is_bound (Handshake stamp dest shake) = is_answer (asked shake.ask)
is_bound packet = true

-- a handshake tells whose it is: an answer, one that meets, and a request without destination. One with a destination is a
-- listener's, and tells of the request that it was
abbrev pub names_sender : ℕ → Asked → Bool
names_sender dest asks.Meets = true
names_sender dest asks.Requests = dest == 0
names_sender dest asks.Answers = true
names_sender dest asks.Agrees = true
names_sender dest asks.Refuses = false
names_sender dest asks.Other = false

-- the peer that a socket has, where it has one
abbrev pub peer_by : Origin → Peer → Option PeerPair
peer_by origin.Nobody peer = None
peer_by from peer = Some (record { addr = peer.addr; id = peer.id })

module _ {C : Type 0} where
  -- the records have this socket at an endpoint of this address
  pub record StandsAt (net : List (EndpointRecord C)) (addr : Addr) (socket : Enrolled C) : Type 0 where
    pub endpoint : EndpointRecord C
    pub among : Contains net endpoint
    pub addr_is : endpoint.addr ≡ addr
    pub enrolled : Contains endpoint.sockets socket

  -- the records have the socket's other half
  pub record IsPaired (net : List (EndpointRecord C)) (addr : Addr) (socket : Enrolled C) : Type 0 where
    pub other_addr : Addr
    pub other : Enrolled C
    pub stands : StandsAt net other_addr other
    pub paired : ArePaired addr socket.own socket.way other_addr other.own other.way

  -- a listener of the endpoint, of this kind, has promised a place to a request of this peer
  pub record IsRequested (endpoint : EndpointRecord C) (config : Config) (peer : Peer) : Type 0 where
    pub listener : Enrolled C
    pub item : Item
    pub bytes : List ℕ
    pub stamp : ℕ
    pub shake : Shake
    pub among : Contains endpoint.sockets listener
    pub same_kind : listener.history.opening.kind ≡ config.kind
    pub happened : Contains listener.history.items item
    pub arrives : item.event.act ≡ Arrive peer.addr bytes
    pub promised : item.reply ≡ DidHear heard.Request
    pub reads : read bytes ≡ Ok (Handshake stamp 0 shake)
    pub id_is : shake.id ≡ peer.id
    pub isn_is : shake.isn ≡ peer.isn

  -- why a socket may be opened as it was: anyone may open one without a connection, and one that is connected was asked for
  abbrev pub IsAsked : List (EndpointRecord C) → EndpointRecord C → Enrolled C → Way → Type 0
  IsAsked net endpoint socket (Opened isn config now) = Unit {0}
  IsAsked net endpoint socket (Paired config peer now) = IsRequested endpoint config peer
  IsAsked net endpoint socket (PairedAt config peer now start) = IsPaired net endpoint.addr socket

module _ {C : Type 0} (w : Ways C) where
  -- the state in which a socket with this ID so begins
  abbrev pub opened_by : ℕ → Way → State C
  opened_by own (Opened isn config now) = opened w own isn config now
  opened_by own (Paired config peer now) = opening w own config peer now 0
  opened_by own (PairedAt config peer now start) = opening w own config peer now start

  -- it was so opened, with values in range, and what happened to it is what the machine does
  pub record IsSocket (socket : Enrolled C) : Type 0 where
    pub in_range : IsWay socket.own socket.way
    pub opened : socket.history.opening ≡ opened_by socket.own socket.way
    pub legal : IsLegal w socket.history

  -- the own peer: the pair that the state after a history names as peer. It never changes once it is set
  abbrev pub own_peer : History C → Option PeerPair
  own_peer h = peer_by (state_of w h).origin (state_of w h).peer

  -- ---- lawful

  -- the record of an endpoint, among these records, is one that sockets and routes make
  pub record IsLawful (net : List (EndpointRecord C)) (endpoint : EndpointRecord C) : Type 0 where
    -- each socket was opened as it says, and its history is legal
    pub sockets : (socket : Enrolled C) → Contains endpoint.sockets socket → IsSocket socket
    -- an ID names one socket
    pub ids : (socket other : Enrolled C) → Contains endpoint.sockets socket → Contains endpoint.sockets other
        → socket.own ≡ other.own → socket ≡ other
    -- no two sockets have the same peer
    pub peers : (socket other : Enrolled C) (peer : PeerPair)
        → Contains endpoint.sockets socket → Contains endpoint.sockets other
        → own_peer socket.history ≡ Some peer → own_peer other.history ≡ Some peer → socket ≡ other
    -- answers, and all that isn't a handshake, go to the own peer of the socket that emits them
    pub addressed : (socket : Enrolled C) (emission : Emission) (packet : Packet) → Contains endpoint.sockets socket
        → Contains (emitted w socket.history) emission → read emission.datagram.bytes ≡ Ok packet
        → is_bound packet ≡ true
        → own_peer socket.history ≡ Some (record { addr = emission.datagram.addr; id = destination packet })
    -- a handshake that tells whose it is carries the ID and the initial sequence number of the socket that emits it
    pub named : (socket : Enrolled C) (emission : Emission) (stamp dest : ℕ) (shake : Shake) → Contains endpoint.sockets socket
        → Contains (emitted w socket.history) emission → read emission.datagram.bytes ≡ Ok (Handshake stamp dest shake)
        → names_sender dest (asked shake.ask) ≡ true
        → (shake.id ≡ socket.own) × (shake.isn ≡ socket.history.opening.isn)
    -- a socket that was opened as connected was asked for
    pub met : (socket : Enrolled C) → Contains endpoint.sockets socket → IsAsked net endpoint socket socket.way

  -- all records are lawful, and an address has one
  pub record AreLawful (net : List (EndpointRecord C)) : Type 0 where
    pub each : (endpoint : EndpointRecord C) → Contains net endpoint → IsLawful net endpoint
    pub addresses : (endpoint other : EndpointRecord C) → Contains net endpoint → Contains net other
        → endpoint.addr ≡ other.addr → endpoint ≡ other
