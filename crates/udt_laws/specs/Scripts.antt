-- The main theorems for the sockets of a script, whose records are those that its lines make.
use Rattle.std.specs.Prelude.{◌≡◌, ℕ, ◌+◌, ◌^◌, ◌<◌, List, Some, slice_get}
use Rattle.udt_model.specs.declared.addresses.Addr.{Addr}
use Rattle.udt_model.specs.History.{start_of}
use Rattle.udt_model.specs.Lines.{AreEmitted}
use Rattle.udt_model.specs.Network.{ScriptSocket, Network}
use Rattle.udt_model.specs.Rate.{Ways}
use Rattle.udt_model.specs.Records.{Way, Enrolled, EndpointRecord, StandsAt, PeerPair, own_peer, AreLawful}
use Rattle.udt_model.specs.Script.{size_of, network_after}
use Rattle.udt_laws.specs.Laws.{IsStream, CarriesMessages, HasHeard, peer_isn, AreInStep, ShowsMessages}

module _ {C : Type 0} where
  -- the socket at a place as an endpoint has it: its ID is the number after the place
  abbrev pub enrolled_at : ℕ → Way → ScriptSocket C → Enrolled C
  enrolled_at place way socket = record { own = place + 1; way = way; history = socket.history }

  -- the records have the socket at this place at the address of its host
  pub record StandsThere (net : List (EndpointRecord C)) (place : ℕ) (socket : ScriptSocket C) : Type 0 where
    pub way : Way
    pub stands : StandsAt net socket.host (enrolled_at place way socket)

  -- it is the socket at some place of the network
  pub record IsAmong (n : Network C) (addr : Addr) (enrolled : Enrolled C) : Type 0 where
    pub place : ℕ
    pub socket : ScriptSocket C
    pub at : slice_get n.sockets place ≡ Some socket
    pub host_is : socket.host ≡ addr
    pub own_is : enrolled.own ≡ place + 1
    pub history_is : enrolled.history ≡ socket.history

module _ {C : Type 0} (w : Ways C) where
  -- the records of all sockets of the network, and of no others, are lawful
  pub record HasLawfulRecords (n : Network C) : Type 0 where
    pub net : List (EndpointRecord C)
    pub lawful : AreLawful w net
    pub stands : (place : ℕ) (socket : ScriptSocket C) → slice_get n.sockets place ≡ Some socket
        → StandsThere net place socket
    pub among : (addr : Addr) (enrolled : Enrolled C) → StandsAt net addr enrolled → IsAmong n addr enrolled

  -- Script lawful: whatever the lines of a script say, and whatever bytes they give, this holds of the network that they
  -- make
  abbrev pub ScriptLawful : Type 0
  ScriptLawful = (lines : List (List ℕ)) → HasLawfulRecords (network_after w lines)

  -- a socket of the network stands where this one names its peer and names this one as its own. Both carry the same, both
  -- begin at one offset, and each has the initial sequence number of the other
  pub record HasPeerThere (n : Network C) (place : ℕ) (socket : ScriptSocket C) (peer : PeerPair) : Type 0 where
    pub peer_place : ℕ
    pub other : ScriptSocket C
    pub at : slice_get n.sockets peer_place ≡ Some other
    pub peer_is : peer ≡ record { addr = other.host; id = peer_place + 1 }
    pub back : own_peer w other.history ≡ Some (record { addr = socket.host; id = place + 1 })
    pub kind : other.history.opening.kind ≡ socket.history.opening.kind
    pub start : start_of other.history ≡ start_of socket.history
    pub isn : peer_isn w socket.history ≡ other.history.opening.isn
    pub back_isn : peer_isn w other.history ≡ socket.history.opening.isn

  -- Script adoption: whatever the lines of a script deliver, lose, repeat and reorder, this holds of each socket of it with
  -- an own peer of which it has heard, handshakes aside, where no line gives bytes of its own
  abbrev pub ScriptAdoption : Type 0
  ScriptAdoption =
      (lines : List (List ℕ)) (place : ℕ) (socket : ScriptSocket C) (peer : PeerPair)
      → size_of lines < 2 ^ 30 → AreEmitted lines
      → slice_get (network_after w lines).sockets place ≡ Some socket
      → own_peer w socket.history ≡ Some peer → HasHeard w socket.history
      → HasPeerThere (network_after w lines) place socket peer

  -- Script prefix: and each stream socket and its own peer are in step
  abbrev pub ScriptPrefix : Type 0
  ScriptPrefix =
      (lines : List (List ℕ)) (place peer_place : ℕ) (socket peer : ScriptSocket C)
      → size_of lines < 2 ^ 30 → AreEmitted lines
      → slice_get (network_after w lines).sockets place ≡ Some socket
      → slice_get (network_after w lines).sockets peer_place ≡ Some peer
      → IsStream socket.history
      → own_peer w socket.history ≡ Some (record { addr = peer.host; id = peer_place + 1 })
      → AreInStep w socket.history peer.history

  -- Script messages: and each message socket shows messages that its own peer accepted
  abbrev pub ScriptMessages : Type 0
  ScriptMessages =
      (lines : List (List ℕ)) (place peer_place : ℕ) (socket peer : ScriptSocket C)
      → size_of lines < 2 ^ 30 → AreEmitted lines
      → slice_get (network_after w lines).sockets place ≡ Some socket
      → slice_get (network_after w lines).sockets peer_place ≡ Some peer
      → CarriesMessages socket.history
      → own_peer w socket.history ≡ Some (record { addr = peer.host; id = peer_place + 1 })
      → ShowsMessages w socket.history peer.history
