-- What passes of two shared sockets have seen, where each of them is a record's socket.
use Rattle.std.specs.Prelude.{◌≡◌, List, Some}
use Rattle.udt_laws.specs.Laws.{IsStream, CarriesMessages, AreInStep, ShowsMessages}
use Rattle.udt_model.specs.declared.addresses.Addr.{Addr}
use Rattle.udt_model.specs.History.{History}
use Rattle.udt_model.specs.Honest.{IsHonest}
use Rattle.udt_model.specs.Rate.{Ways}
use Rattle.udt_model.specs.Records.{Enrolled, EndpointRecord, StandsAt, PeerPair, own_peer, AreLawful}

module _ {C : Type 0} (w : Ways C) where
  -- where the records are lawful and honest, and these are the histories of a stream socket and of its own peer, both are in
  -- step
  abbrev pub SeenInStep : History C → History C → Type 0
  SeenInStep seen seen_by_peer =
      (net : List (EndpointRecord C)) (addr : Addr) (socket other : Enrolled C) (peer : PeerPair)
      → AreLawful w net → IsHonest w net
      → StandsAt net addr socket → socket.history ≡ seen → IsStream seen → own_peer w seen ≡ Some peer
      → StandsAt net peer.addr other → other.own ≡ peer.id → other.history ≡ seen_by_peer
      → AreInStep w seen seen_by_peer

  -- the same of message sockets: what the one has shown is what the other was asked to send
  abbrev pub SeenMessages : History C → History C → Type 0
  SeenMessages seen seen_by_peer =
      (net : List (EndpointRecord C)) (addr : Addr) (socket other : Enrolled C) (peer : PeerPair)
      → AreLawful w net → IsHonest w net
      → StandsAt net addr socket → socket.history ≡ seen → CarriesMessages seen → own_peer w seen ≡ Some peer
      → StandsAt net peer.addr other → other.own ≡ peer.id → other.history ≡ seen_by_peer
      → ShowsMessages w seen seen_by_peer
