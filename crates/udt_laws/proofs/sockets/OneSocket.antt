-- In lawful records an address and an ID name one socket, and so do an address and a peer.
use Rattle.std.proofs.Common.{◌≡◌, ℕ, true, false, List, Some, Ok, refl, ap, ◌∙◌, sym, subst}
use Rattle.std.specs.List.{Contains}
use Rattle.udt_model.specs.declared.addresses.Addr.{Addr}
use Rattle.udt_model.specs.Wire.{Packet, Handshake, is_handshake, destination, read}
use Rattle.udt_model.specs.Emissions.{emitted, arrivals}
use Rattle.udt_model.specs.History.{History}
use Rattle.udt_model.specs.State.{State, Datagram, Emission}
use Rattle.udt_model.specs.Rate.{Ways}
use Rattle.udt_model.specs.Records.{Way, PairedAt, Enrolled, IsSocket, EndpointRecord, StandsAt, PeerPair, is_bound, own_peer, ArePaired, AreLawful}
use Rattle.udt_model.specs.Honest.{IsClose, read_by, WasEmitted}
use Rattle.udt_model.proofs.RecordLemmas.{emitted-from_sent}
use Rattle.udt_model.proofs.WireLemmas.{target-of-read}
use Rattle.udt_laws.specs.Laws.{ComesFrom}

-- what isn't a handshake goes to the peer
pub packet-bound : (packet : Packet) → is_handshake packet ≡ false → is_bound packet ≡ true
packet-bound (Handshake stamp dest shake) is = absurd (cc)
packet-bound _ is = refl

-- being a pair goes both ways
pub paired-back : (addr : Addr) (own : ℕ) (way : Way) (other_addr : Addr) (other_own : ℕ) (other_way : Way)
    → ArePaired addr own way other_addr other_own other_way → ArePaired other_addr other_own other_way addr own way
paired-back addr own (PairedAt config peer now start) other_addr other_own
    (PairedAt other_config other_peer other_now other_start) paired =
    (paired.2, paired.3, paired.0, paired.1, sym paired.4, sym paired.5, sym paired.6)
paired-back addr own _ other_addr other_own _ paired = absurd paired

module _ {C : Type 0} (w : Ways C) where
  -- the bytes were emitted in this history, and what they name lies near this offset
  pub record IsEmittedNear (g : History C) (top : ℕ) (bytes : List ℕ) : Type 0 where
    pub emission : Emission
    pub among : Contains (emitted w g) emission
    pub same : emission.datagram.bytes ≡ bytes
    pub close : (offset : ℕ) → Contains emission.offsets offset → IsClose offset top

  -- the bytes were emitted in this history
  pub record IsEmittedAs (g : History C) (bytes : List ℕ) : Type 0 where
    pub emission : Emission
    pub among : Contains (emitted w g) emission
    pub same : emission.datagram.bytes ≡ bytes

  -- where what comes from an address for a socket comes from this sender, its packets were emitted by it
  pub comes-emitted : (receiver : Enrolled C) (from : Addr) (sender : Enrolled C) → IsSocket w sender
      → ComesFrom receiver from sender
      → (bytes : List ℕ) (packet : Packet) → Contains (arrivals receiver.history)
      (record { addr = from; bytes = bytes }) → read bytes ≡ Ok packet
      → destination packet ≡ receiver.own → IsEmittedAs sender.history bytes
  comes-emitted receiver from sender is_sender comes bytes packet among reads own_is =
      let came = comes (record { addr = from; bytes = bytes }) among refl
      (target-of-read bytes packet reads ∙ ap (λ (id : ℕ). Some id) own_is) in
      let is = emitted-from_sent w sender.history.opening sender.history.items came.0 is_sender.legal came.1 in
      record { emission = is.emission; among = is.among; same = ap (λ (d : Datagram). d.bytes) is.datagram_is ∙ came.2 }

  -- what comes to a socket of this address and ID from an address, for it and no handshake, was emitted in this
  -- history, near where it is read
  abbrev pub ComesNear : List (EndpointRecord C) → Addr → ℕ → Addr → History C → Type 0
  ComesNear net addr own from g =
      (s : State C) (sender : Addr) (bytes : List ℕ) (packet : Packet) → sender ≡ from
      → WasEmitted w net s sender addr bytes
      → read bytes ≡ Ok packet → is_handshake packet ≡ false → destination packet ≡ own
      → IsEmittedNear g (read_by s packet) bytes

module _ {C : Type 0} (w : Ways C) (net : List (EndpointRecord C)) (lawful : AreLawful w net) where
  -- the records have one endpoint of an address
  one-endpoint : (addr : Addr) (socket other : Enrolled C) (here : StandsAt net addr socket)
      → (there : StandsAt net addr other)
      → Contains here.endpoint.sockets other
  one-endpoint addr socket other here there =
      let same = lawful.addresses there.endpoint here.endpoint there.among here.among
      (there.addr_is ∙ sym here.addr_is) in
      subst (λ (endpoint : EndpointRecord C). Contains endpoint.sockets other) same there.enrolled

  -- so an address and an ID name one socket
  pub same-socket : (addr : Addr) (socket other : Enrolled C) → StandsAt net addr socket → StandsAt net addr other
      → socket.own ≡ other.own
      → socket ≡ other
  same-socket addr socket other here there own =
      (lawful.each here.endpoint here.among).ids socket other here.enrolled
      (one-endpoint addr socket other here there) own

  -- and an address and a peer do
  pub same-peer : (addr : Addr) (socket other : Enrolled C) (peer : PeerPair) → StandsAt net addr socket
      → StandsAt net addr other
      → own_peer w socket.history ≡ Some peer → own_peer w other.history ≡ Some peer → socket ≡ other
  same-peer addr socket other peer here there first second =
      (lawful.each here.endpoint here.among).peers socket other peer here.enrolled
      (one-endpoint addr socket other here there) first second

  -- the socket that emitted what came from an address for an ID there, bound for its peer, has these as its peer
  pub emitter-names : (addr : Addr) (s : State C) (from : Addr) (bytes : List ℕ) (packet : Packet)
      → (was : WasEmitted w net s from addr bytes)
      → read bytes ≡ Ok packet → is_bound packet ≡ true
      → own_peer w was.socket.history ≡ Some (record { addr = addr; id = destination packet })
  emitter-names addr s from bytes packet was reads bound =
      let bytes_are : was.emission.datagram.bytes ≡ bytes = ap (λ (d : Datagram). d.bytes) was.datagram in
      let goes_to : was.emission.datagram.addr ≡ addr = ap (λ (d : Datagram). d.addr) was.datagram in
      subst (λ (a : Addr). own_peer w was.socket.history ≡ Some (record { addr = a; id = destination packet })) goes_to
      ((lawful.each was.stands.endpoint was.stands.among).addressed was.socket was.emission packet
      was.stands.enrolled was.emits (ap read bytes_are ∙ reads) bound)

  -- so it was emitted by the one that has them
  pub emitter-is : (addr sender_addr : Addr) (own : ℕ) (sender : Enrolled C) → StandsAt net sender_addr sender
      → own_peer w sender.history ≡ Some (record { addr = addr; id = own })
      → (s : State C) (from : Addr) (bytes : List ℕ) (packet : Packet) → from ≡ sender_addr
      → (was : WasEmitted w net s from addr bytes)
      → read bytes ≡ Ok packet → is_bound packet ≡ true → destination packet ≡ own → was.socket ≡ sender
  emitter-is addr sender_addr own sender stands names_back s from bytes packet from_is was reads bound own_is =
      let there = subst (λ (a : Addr). StandsAt net a was.socket) from_is was.stands in
      let named = subst (λ (n : ℕ). own_peer w was.socket.history ≡ Some (record { addr = addr; id = n })) own_is
      (emitter-names addr s from bytes packet was reads bound) in
      same-peer sender_addr was.socket sender _ there stands named names_back

  -- and what it names lies near where it is read, where it is no handshake
  pub from-sender : (addr sender_addr : Addr) (own : ℕ) (sender : Enrolled C) → StandsAt net sender_addr sender
      → own_peer w sender.history ≡ Some (record { addr = addr; id = own })
      → (s : State C) (from : Addr) (bytes : List ℕ) (packet : Packet) → from ≡ sender_addr
      → WasEmitted w net s from addr bytes
      → read bytes ≡ Ok packet → is_handshake packet ≡ false → destination packet ≡ own
      → IsEmittedNear w sender.history (read_by s packet) bytes
  from-sender addr sender_addr own sender stands names_back s from bytes packet from_is was reads handshake own_is =
      let same = emitter-is addr sender_addr own sender stands names_back s from bytes packet from_is was reads
      (packet-bound packet handshake) own_is in
      record {
        emission = was.emission;
        among = subst (λ (x : Enrolled C). Contains (emitted w x.history) was.emission) same was.emits;
        same = ap (λ (d : Datagram). d.bytes) was.datagram;
        close = λ offset named. was.close packet offset reads named;
      }
