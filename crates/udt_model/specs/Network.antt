-- The network of a script: its hosts and sockets, the datagrams that they emitted, and where one of these goes.
use Rattle.std.specs.Prelude.{ℕ, ◌+◌, ◌-◌, ◌==◌, Bool, true, false, not, ◌&&◌, ◌||◌, List, [], ◌∷◌, Option, Some, None, Ok, slice_get, position, is_some, option_map, codes, if◌then◌else◌}
use Rattle.std.specs.List.{list_any}
use Rattle.udt_model.specs.declared.addresses.Addr.{Addr}
use Rattle.udt_model.specs.declared.addresses.Ip.TheVariants.{V4}
use Rattle.udt_model.specs.declared.routes.Routed.{Routed}
use Rattle.udt_model.specs.declared.routes.Routed.TheVariants as routed
use Rattle.udt_model.specs.Addresses.{same_addr}
use Rattle.udt_model.specs.Events.{Act, Meet, Reply, DidListen, DidMeet}
use Rattle.udt_model.specs.Phases.{is_closed}
use Rattle.udt_model.specs.History.{Item, History, state_of}
use Rattle.udt_model.specs.Rate.{Ways}
use Rattle.udt_model.specs.Records.{PeerPair, own_peer}
use Rattle.udt_model.specs.Routes.{Known}
use Rattle.udt_model.specs.Routes as routes
use Rattle.udt_model.specs.Words.{is_word}

-- ---- the network

-- a host of a script: its name and its address
pub record ScriptHost : Type 0 where
  pub name : List ℕ
  pub addr : Addr

-- a socket of a script: its name, which is its ID until an accept names it, the address of its host and its history. The first
-- has the ID 1, the next 2, and so on
pub record ScriptSocket (C : Type 0) : Type 0 where
  pub name : List ℕ
  pub host : Addr
  pub history : History C

-- a datagram that was emitted
pub record ScriptDatagram : Type 0 where
  pub from : Addr
  pub to : Addr
  pub bytes : List ℕ

-- all hosts and sockets, and all datagrams that were ever emitted, of which any may come, in any order and again
pub record Network (C : Type 0) : Type 0 where
  pub hosts : List ScriptHost
  pub sockets : List (ScriptSocket C)
  pub datagrams : List ScriptDatagram

-- the hosts of paired sockets, 10.0.0.1:9000 and 10.0.0.2:9000, which are there from the start
abbrev pub first_host : Addr
first_host = record { ip = V4 167772161; port = 9000 }

abbrev pub second_host : Addr
second_host = record { ip = V4 167772162; port = 9000 }

-- a host has this address
abbrev pub is_host : List ScriptHost → Addr → Bool
is_host hosts addr =
    same_addr addr first_host || same_addr addr second_host || list_any (λ host. same_addr addr host.addr) hosts

-- the address of the host with this name
abbrev pub address_of_host : List ℕ → List ScriptHost → Option Addr
address_of_host name [] = None
address_of_host name (host ∷ hosts) = if is_word host.name name then Some host.addr else address_of_host name hosts

-- where a datagram goes: to the socket at a place, or nowhere, which has a word
pub data Route (C : Type 0) : Type 0 where
  ToSocket : (place : ℕ) → (socket : ScriptSocket C) → Route C
  Nowhere : (word : List ℕ) → Route C

-- ---- the places that sockets hold at a host

-- a socket began to listen
abbrev pub is_listening : Reply → Bool
is_listening (DidListen (Ok done)) = true
is_listening other = false

abbrev pub has_listened : List Item → Bool
has_listened items = list_any (λ item. is_listening item.reply) items

-- the address that a socket began to meet
abbrev pub meets_by : Act → Reply → Option Addr
meets_by (Meet to) (DidMeet (Ok done)) = Some to
meets_by act other = None

abbrev pub first_met : Option Addr → Option Addr → Option Addr
first_met None others = others
first_met (Some to) others = Some to

unfoldable pub met_by : List Item → Option Addr
met_by [] = None
met_by (item ∷ items) = first_met (meets_by item.event.act item.reply) (met_by items)

-- it is this address
abbrev pub is_met : Addr → Option Addr → Bool
is_met addr None = false
is_met addr (Some to) = same_addr addr to

-- the pair is this one
abbrev pub is_pair : Addr → ℕ → Option PeerPair → Bool
is_pair addr id None = false
is_pair addr id (Some peer) = same_addr addr peer.addr && (id == peer.id)

module _ {C : Type 0} where
  abbrev pub empty_network : Network C
  empty_network = record { hosts = []; sockets = []; datagrams = [] }

  -- the socket with this name stands at this place
  unfoldable pub place_of : List ℕ → List (ScriptSocket C) → Option ℕ
  place_of name sockets = position (λ socket. is_word socket.name name) sockets

  -- a socket or a host has this name
  abbrev pub is_taken : List ℕ → Network C → Bool
  is_taken name n = is_some (place_of name n.sockets) || is_some (address_of_host name n.hosts)

  -- the socket with this ID
  abbrev pub socket_with : List (ScriptSocket C) → ℕ → Option (ScriptSocket C)
  socket_with sockets id = if id == 0 then None else slice_get sockets (id - 1)

  -- the ID of the first socket that is so
  abbrev pub first_id : (ScriptSocket C → Bool) → List (ScriptSocket C) → Option ℕ
  first_id is_so sockets = option_map (λ place. place + 1) (position is_so sockets)

  -- the socket with the ID that was found
  abbrev pub to_found : ℕ → Option (ScriptSocket C) → Route C
  to_found id None = Nowhere (codes "id")
  to_found id (Some socket) = ToSocket (id - 1) socket

  abbrev pub routed_to : List (ScriptSocket C) → Routed → Route C
  routed_to sockets (routed.ToSocket id) = to_found id (socket_with sockets id)
  routed_to sockets routed.Short = Nowhere (codes "short")
  routed_to sockets routed.Id = Nowhere (codes "id")
  routed_to sockets routed.Shake = Nowhere (codes "shake")
  routed_to sockets routed.Stale = Nowhere (codes "stale")

module _ {C : Type 0} (w : Ways C) where
  -- the socket stands at this host, and isn't closed
  abbrev pub is_enrolled : Addr → ScriptSocket C → Bool
  is_enrolled host socket = same_addr socket.host host && not (is_closed (state_of w socket.history).phase)

  abbrev pub is_any_enrolled : Addr → Option (ScriptSocket C) → Bool
  is_any_enrolled host None = false
  is_any_enrolled host (Some socket) = is_enrolled host socket

  -- it has adopted this pair, for good
  abbrev pub has_adopted : Addr → Addr → ℕ → ScriptSocket C → Bool
  has_adopted host addr id socket = same_addr socket.host host && is_pair addr id (own_peer w socket.history)

  -- it holds the place of the listener, or that of an address that is met, until it is closed
  abbrev pub holds_listener : Addr → ScriptSocket C → Bool
  holds_listener host socket = is_enrolled host socket && has_listened socket.history.items

  abbrev pub holds_meeting : Addr → Addr → ScriptSocket C → Bool
  holds_meeting host addr socket = is_enrolled host socket && is_met addr (met_by socket.history.items)

  abbrev pub holds_any_meeting : ScriptSocket C → Bool
  holds_any_meeting socket = is_enrolled socket.host socket && is_some (met_by socket.history.items)

  -- what the endpoint at a host knows of these sockets
  abbrev pub known_at : List (ScriptSocket C) → Addr → Known
  known_at sockets host = record {
    is_enrolled = λ id. is_any_enrolled host (socket_with sockets id);
    adopter_of = λ addr id. first_id (has_adopted host addr id) sockets;
    listener = first_id (holds_listener host) sockets;
    meeter_of = λ addr. first_id (holds_meeting host addr) sockets;
  }

  -- where a datagram goes at its host
  unfoldable pub route : Network C → ScriptDatagram → Route C
  route n datagram =
      if is_host n.hosts datagram.to
      then routed_to n.sockets (routes.route (known_at n.sockets datagram.to) datagram.from datagram.bytes)
      else Nowhere (codes "host")
