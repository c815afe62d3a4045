-- What a socket knows, as plain records.
use Rattle.std.specs.Prelude.{ℕ, List}
use Rattle.udt_model.specs.declared.addresses.Addr.{Addr}
use Rattle.udt_model.specs.declared.answers.Peer.{Peer}
use Rattle.udt_model.specs.declared.answers.Origin.{Origin}
use Rattle.udt_model.specs.declared.packets.Kind.{Kind}
use Rattle.udt_model.specs.declared.sockets.Counters.{Counters}
use Rattle.udt_model.specs.Phases.{Phase}
use Rattle.udt_model.specs.ReceiveHalf.{Receiving}
use Rattle.udt_model.specs.SendHalf.{Sending}
use Rattle.udt_model.specs.Timing.{RoundTrip}

-- a socket, with a rate control of this type
pub record State (C : Type 0) : Type 0 where
  pub own : ℕ
  pub kind : Kind
  -- the initial sequence number of what it sends
  pub isn : ℕ
  -- its peer, which is nobody at first, and how it came by it
  pub peer : Peer
  pub origin : Origin
  -- the moments at which it was opened and of its last event, in microseconds
  pub opened : ℕ
  pub last : ℕ
  -- how many events it has had
  pub count : ℕ
  pub phase : Phase
  -- the moment of the last arrival from the peer; the moment from which on the EXP timer runs, and how often it fired since
  -- that arrival, plus one
  pub heard : ℕ
  pub exp_from : ℕ
  pub exp_count : ℕ
  -- the round trip, which both halves measure
  pub rtt : RoundTrip
  pub sending : Sending C
  pub receiving : Receiving
  pub counters : Counters

-- a datagram: where it goes or comes from, and its bytes
pub record Datagram : Type 0 where
  pub addr : Addr
  pub bytes : List ℕ

-- a datagram that was emitted, and the offsets that it names
pub record Emission : Type 0 where
  pub datagram : Datagram
  pub offsets : List ℕ
