-- The main theorems, as statements about histories and records, over any rate control.
use Rattle.std.specs.Prelude.{◌≡◌, ◌⊎◌, ℕ, ◌+◌, ◌-◌, ◌%◌, ◌^◌, ◌<◌, ◌≤◌, List, [], ◌∷◌, ◌++◌, drop, length, map, Some, Ok, slice_get, true}
use Rattle.std.specs.List.{Contains, concat}
use Rattle.udt_model.specs.declared.answers.Heard.TheVariants as heard
use Rattle.udt_model.specs.declared.packets.AckBody.{AckBody}
use Rattle.udt_model.specs.declared.packets.Flags.{Flags}
use Rattle.udt_model.specs.declared.packets.Kind.TheVariants.{Stream, Message}
use Rattle.udt_model.specs.declared.packets.Shake.{Shake}
use Rattle.udt_model.specs.declared.addresses.Addr.{Addr}
use Rattle.udt_model.specs.Emissions.{IsPrefix, emitted, sent, arrivals, IsMadeOf}
use Rattle.udt_model.specs.Events.{Arrive, DidHear}
use Rattle.udt_model.specs.Handshakes.{asked as asks}
use Rattle.udt_model.specs.History.{Item, AskedMessage, ShownMessage, History, IsLegal, state_of, start_of, accepted, delivered, acked, arrived, asked, shown, placed_offsets, dropped_offsets}
use Rattle.udt_model.specs.Honest.{IsHonest}
use Rattle.udt_model.specs.Numbers.{sequence_number}
use Rattle.udt_model.specs.Rate.{Ways}
use Rattle.udt_model.specs.Records.{Enrolled, IsSocket, EndpointRecord, StandsAt, PeerPair, is_bound, names_sender, own_peer, ArePaired, AreLawful}
use Rattle.udt_model.specs.SendBlocks.{KeptBlock}
use Rattle.udt_model.specs.State.{Datagram, Emission}
use Rattle.udt_model.specs.Wire.{Packet, Block, Handshake, Ack, destination, read, target}

-- an ACK arrived, and the socket accepted it
pub record AcceptsAck (item : Item) : Type 0 where
  pub from : Addr
  pub bytes : List ℕ
  pub number : ℕ
  pub stamp : ℕ
  pub dest : ℕ
  pub body : AckBody
  pub arrives : item.event.act ≡ Arrive from bytes
  pub reads : read bytes ≡ Ok (Ack number stamp dest body)
  pub answers : item.reply ≡ DidHear heard.Ack

module _ {C : Type 0} where
  -- the socket carries a stream of bytes
  abbrev pub IsStream : History C → Type 0
  IsStream h = h.opening.kind ≡ Stream

  -- the socket carries messages
  abbrev pub CarriesMessages : History C → Type 0
  CarriesMessages h = h.opening.kind ≡ Message

  -- a datagram has the bytes of one that the socket emitted
  abbrev pub WasSentBy : Enrolled C → Datagram → Type 0
  WasSentBy sender datagram =
      (sent_one : Datagram) × Contains (sent sender.history) sent_one × (sent_one.bytes ≡ datagram.bytes)

  -- each datagram that came from this address for the receiver has the bytes of one that the sender emitted
  abbrev pub ComesFrom : Enrolled C → Addr → Enrolled C → Type 0
  ComesFrom receiver from sender =
      (datagram : Datagram) → Contains (arrivals receiver.history) datagram → datagram.addr ≡ from
      → target datagram.bytes ≡ Some receiver.own
      → WasSentBy sender datagram

  -- each datagram that came at all came from this address, and has the bytes of one that the sender emitted
  abbrev pub AllComesFrom : Enrolled C → Addr → Enrolled C → Type 0
  AllComesFrom receiver from sender =
      (datagram : Datagram) → Contains (arrivals receiver.history) datagram
      → (datagram.addr ≡ from) × WasSentBy sender datagram

  -- the records of two endpoints with one socket each
  abbrev pub both_records : Addr → Enrolled C → Addr → Enrolled C → List (EndpointRecord C)
  both_records addr socket other_addr other =
      record { addr = addr; sockets = socket ∷ [] } ∷ record { addr = other_addr; sockets = other ∷ [] } ∷ []

module _ {C : Type 0} (w : Ways C) where
  -- the initial sequence number of what the peer sends
  abbrev pub peer_isn : History C → ℕ
  peer_isn h = (state_of w h).peer.isn

  -- One history: what a stream socket delivered is made of what arrived from its peer's address, whoever sent it
  abbrev pub OneHistory : Type 0
  OneHistory =
      (socket : Enrolled C) (peer : PeerPair) → IsSocket w socket → IsStream socket.history
      → own_peer w socket.history ≡ Some peer
      → IsMadeOf (delivered socket.history) (arrivals socket.history) socket.own peer.addr
      ((peer_isn socket.history + start_of socket.history) % 2 ^ 31)

  -- a data packet that was emitted carries the block of the one offset that it names, to the peer, under the sequence
  -- number of that offset
  pub record CarriesBlock (h : History C) (blocks : List (List ℕ)) (emission : Emission) (number dest : ℕ)
      (payload : List ℕ) : Type 0 where
    pub offset : ℕ
    pub names : emission.offsets ≡ offset ∷ []
    pub not_before : start_of h ≤ offset
    pub carries : slice_get blocks (offset - start_of h) ≡ Some payload
    pub numbered : number ≡ sequence_number (state_of w h).sending.isn offset
    pub sent_to : emission.datagram.addr ≡ (state_of w h).peer.addr
    pub destined : dest ≡ (state_of w h).peer.id

  -- the blocks of a history, the first at the offset at which it begins: joined they are what was accepted, the kept
  -- ones are the last of them, and data packets carry no others
  pub record HasBlocks (h : History C) : Type 0 where
    pub blocks : List (List ℕ)
    pub joined : concat blocks ≡ accepted h
    pub kept : map (λ (block : KeptBlock). block.bytes) (state_of w h).sending.blocks.kept
        ≡ drop ((state_of w h).sending.blocks.first - start_of h) blocks
    pub emits : (emission : Emission) (number : ℕ) (flags : Flags) (stamp dest : ℕ) (payload : List ℕ)
        → Contains (emitted w h) emission → read emission.datagram.bytes ≡ Ok (Block number flags stamp dest payload)
        → CarriesBlock h blocks emission number dest payload

  -- Emitted blocks: what a stream socket sends are the blocks of what it accepted, each under its own number
  abbrev pub EmittedBlocks : Type 0
  EmittedBlocks = (socket : Enrolled C) → IsSocket w socket → IsStream socket.history → HasBlocks socket.history

  -- All named: of a legal history all datagrams that it sent are emitted ones with the offsets that they name, in
  -- order
  abbrev pub AllNamed : Type 0
  AllNamed = (h : History C) → IsLegal w h → map (λ (emission : Emission). emission.datagram) (emitted w h) ≡ sent h

  -- Addressed: what a socket emits for its peer, answers and all that isn't a handshake, goes to its own peer
  abbrev pub Addressed : Type 0
  Addressed =
      (socket : Enrolled C) (emission : Emission) (packet : Packet) → IsSocket w socket
      → Contains (emitted w socket.history) emission → read emission.datagram.bytes ≡ Ok packet → is_bound packet ≡ true
      → own_peer w socket.history ≡ Some (record { addr = emission.datagram.addr; id = destination packet })

  -- Named: a handshake that tells whose it is carries the ID and the initial sequence number of the socket that emits
  -- it
  abbrev pub Named : Type 0
  Named =
      (socket : Enrolled C) (emission : Emission) (stamp dest : ℕ) (shake : Shake) → IsSocket w socket
      → Contains (emitted w socket.history) emission → read emission.datagram.bytes ≡ Ok (Handshake stamp dest shake)
      → names_sender dest (asks shake.ask) ≡ true
      → (shake.id ≡ socket.own) × (shake.isn ≡ socket.history.opening.isn)

  -- the socket has placed a block, taken a message drop request, has a block acknowledged, or accepted an ACK, which may
  -- acknowledge no block
  abbrev pub HasHeard : History C → Type 0
  HasHeard h =
      ((offset : ℕ) × Contains (placed_offsets w h) offset)
      ⊎ (((offset : ℕ) × Contains (dropped_offsets w h) offset)
      ⊎ ((0 < acked w h) ⊎ ((item : Item) × Contains h.items item × AcceptsAck item)))

  -- a socket stands where this one names its peer and names this one as its own. Both carry the same, both begin at
  -- one offset, and each has the initial sequence number of the other
  pub record HasMutualPeer (net : List (EndpointRecord C)) (addr : Addr) (socket : Enrolled C) (peer : PeerPair)
      : Type 0 where
    pub other : Enrolled C
    pub stands : StandsAt net peer.addr other
    pub own_is : other.own ≡ peer.id
    pub back : own_peer w other.history ≡ Some (record { addr = addr; id = socket.own })
    pub kind : other.history.opening.kind ≡ socket.history.opening.kind
    pub start : start_of other.history ≡ start_of socket.history
    pub isn : peer_isn socket.history ≡ other.history.opening.isn
    pub back_isn : peer_isn other.history ≡ socket.history.opening.isn

  -- Mutual adoption: where records are lawful and honest, this holds of each socket with an own peer that has so
  -- heard of it
  abbrev pub MutualAdoption : Type 0
  MutualAdoption =
      (net : List (EndpointRecord C)) (addr : Addr) (socket : Enrolled C) (peer : PeerPair)
      → AreLawful w net → IsHonest w net
      → StandsAt net addr socket → own_peer w socket.history ≡ Some peer → HasHeard socket.history
      → HasMutualPeer net addr socket peer

  -- what is promised of a socket's history and that of its own peer: what the one delivered is a prefix of what the
  -- other accepted, and no more blocks of the one are acknowledged than have arrived at the other
  pub record AreInStep (own other : History C) : Type 0 where
    pub prefix : IsPrefix (delivered own) (accepted other)
    pub acknowledged : acked w own ≤ arrived w other

  -- Prefix: where records are lawful and honest, this holds of each stream socket and its own peer
  abbrev pub Prefix : Type 0
  Prefix =
      (net : List (EndpointRecord C)) (addr : Addr) (socket other : Enrolled C) (peer : PeerPair)
      → AreLawful w net → IsHonest w net
      → StandsAt net addr socket → IsStream socket.history → own_peer w socket.history ≡ Some peer
      → StandsAt net peer.addr other → other.own ≡ peer.id
      → AreInStep socket.history other.history

  -- Pair prefix: its first half for two sockets that were made as a pair, where the one emitted fewer than 2^30
  -- datagrams and the other got no others from there
  abbrev pub PairPrefix : Type 0
  PairPrefix =
      (addr peer_addr : Addr) (receiver sender : Enrolled C) → IsSocket w receiver → IsSocket w sender
      → ArePaired addr receiver.own receiver.way peer_addr sender.own sender.way → IsStream receiver.history
      → ComesFrom receiver peer_addr sender → length (sent sender.history) < 2 ^ 30
      → IsPrefix (delivered receiver.history) (accepted sender.history)

  -- Pair arrived: its second half for two such sockets, where the one emitted fewer than 2^30 datagrams itself
  abbrev pub PairArrived : Type 0
  PairArrived =
      (addr peer_addr : Addr) (socket other : Enrolled C) → IsSocket w socket → IsSocket w other
      → ArePaired addr socket.own socket.way peer_addr other.own other.way → IsStream socket.history
      → ComesFrom socket peer_addr other → length (sent socket.history) < 2 ^ 30
      → acked w socket.history ≤ arrived w other.history

  -- Pair honest: the records of two stream sockets that were made as a pair, of which each got from the other alone,
  -- and that emitted fewer than 2^30 datagrams each, are lawful and honest
  abbrev pub PairHonest : Type 0
  PairHonest =
      (addr other_addr : Addr) (socket other : Enrolled C) → (addr ≡ other_addr → ⊥) → IsSocket w socket
      → IsSocket w other
      → ArePaired addr socket.own socket.way other_addr other.own other.way
      → IsStream socket.history → AllComesFrom socket other_addr other → AllComesFrom other addr socket
      → length (sent socket.history) < 2 ^ 30 → length (sent other.history) < 2 ^ 30
      → AreLawful w (both_records addr socket other_addr other) × IsHonest w (both_records addr socket other_addr other)

  -- ---- messages

  -- a message that was shown was asked: one was accepted whose first offset is that of the shown one, and each that
  -- was has its bytes
  pub record WasAsked (other : History C) (message : ShownMessage) : Type 0 where
    pub asked_one : AskedMessage
    pub among : Contains (asked w other) asked_one
    pub at : asked_one.first ≡ message.first
    pub same : (another : AskedMessage) → Contains (asked w other) another → another.first ≡ message.first
        → another.bytes ≡ message.bytes

  -- the message that was asked at this offset must be delivered in order
  pub record IsOrdered (other : History C) (first : ℕ) : Type 0 where
    pub asked_one : AskedMessage
    pub among : Contains (asked w other) asked_one
    pub at : asked_one.first ≡ first
    pub ordered : asked_one.order ≡ true

  -- what is promised of a message socket's history and that of its own peer: each message that the one showed is one
  -- that the other was asked to send, whole, so one that is dropped is shown whole or not at all; none is shown
  -- twice; those that must be delivered in order are shown in order; and what is acknowledged of the other was placed
  -- at the one, or taken by a message drop request
  pub record ShowsMessages (own other : History C) : Type 0 where
    pub whole : (message : ShownMessage) → Contains (shown w own) message → WasAsked other message
    pub once : (m n : ℕ) (one another : ShownMessage) → slice_get (shown w own) m ≡ Some one
        → slice_get (shown w own) n ≡ Some another → one.first ≡ another.first → m ≡ n
    pub in_order : (m n : ℕ) (one another : ShownMessage) → m < n → slice_get (shown w own) m ≡ Some one
        → slice_get (shown w own) n ≡ Some another → IsOrdered other one.first → IsOrdered other another.first
        → one.first < another.first
    pub acknowledged : (offset : ℕ) → start_of other ≤ offset → offset < start_of other + acked w other
        → Contains (placed_offsets w own ++ dropped_offsets w own) offset

  -- Messages: where records are lawful and honest, this holds of each message socket and its own peer
  abbrev pub Messages : Type 0
  Messages =
      (net : List (EndpointRecord C)) (addr : Addr) (socket other : Enrolled C) (peer : PeerPair)
      → AreLawful w net → IsHonest w net
      → StandsAt net addr socket → CarriesMessages socket.history → own_peer w socket.history ≡ Some peer
      → StandsAt net peer.addr other → other.own ≡ peer.id
      → ShowsMessages socket.history other.history
