-- What the sockets of a script keep, whatever is delivered.
use Rattle.std.specs.Prelude.{◌≡◌, ℕ, ◌+◌, List, Option, Some, None, slice_get}
use Rattle.udt_model.specs.Lines.{AreEmitted}
use Rattle.udt_model.specs.Rate.{Ways}
use Rattle.udt_model.specs.Records.{PeerPair, own_peer}
use Rattle.udt_model.specs.Script.{network_after}
use Rattle.udt_model.specs.Network.{ScriptSocket}
use Rattle.udt_laws.specs.Laws.{IsStream, CarriesMessages, HasHeard, AreInStep, ShowsMessages}
use Rattle.udt_laws.specs.Scripts.{HasPeerThere}

module _ {C : Type 0} (w : Ways C) where
  -- where no line gives bytes of its own, each socket of these lines that has so heard of its own peer is the
  -- own peer of the socket that stands there, and both agree
  abbrev pub AllAdoptBack : Option (List (List ℕ)) → Type 0
  AllAdoptBack (Some lines) =
      (place : ℕ) (socket : ScriptSocket C) (peer : PeerPair) → AreEmitted lines
      → slice_get (network_after w lines).sockets place ≡ Some socket
      → own_peer w socket.history ≡ Some peer → HasHeard w socket.history
      → HasPeerThere w (network_after w lines) place socket peer
  AllAdoptBack None = Unit {0}

  -- where no line gives bytes of its own, what each stream socket of these lines delivered is a prefix of what its own peer
  -- accepted, and no more of its blocks are acknowledged than have arrived there
  abbrev pub AreAllInStep : Option (List (List ℕ)) → Type 0
  AreAllInStep (Some lines) =
      (place peer_place : ℕ) (socket peer : ScriptSocket C) → AreEmitted lines
      → slice_get (network_after w lines).sockets place ≡ Some socket
      → slice_get (network_after w lines).sockets peer_place ≡ Some peer
      → IsStream socket.history
      → own_peer w socket.history ≡ Some (record { addr = peer.host; id = peer_place + 1 })
      → AreInStep w socket.history peer.history
  AreAllInStep None = Unit {0}

  -- where no line gives bytes of its own, what each message socket of these lines showed are messages that its own peer was
  -- asked to send, each whole and once at most, and those with the order flag in their order
  abbrev pub AllShowMessages : Option (List (List ℕ)) → Type 0
  AllShowMessages (Some lines) =
      (place peer_place : ℕ) (socket peer : ScriptSocket C) → AreEmitted lines
      → slice_get (network_after w lines).sockets place ≡ Some socket
      → slice_get (network_after w lines).sockets peer_place ≡ Some peer
      → CarriesMessages socket.history
      → own_peer w socket.history ≡ Some (record { addr = peer.host; id = peer_place + 1 })
      → ShowsMessages w socket.history peer.history
  AllShowMessages None = Unit {0}
