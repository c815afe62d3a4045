-- Events of a socket: what may happen, what is answered, and what an event leaves.
use Rattle.std.specs.Prelude.{ℕ, ◌+◌, ◌-◌, ◌^◌, min, max, Bool, List, [], map, Option, Result}
use Rattle.udt_model.specs.declared.limits.TheConstants.{LAST_MOMENT}
use Rattle.udt_model.specs.declared.addresses.Addr.{Addr}
use Rattle.udt_model.specs.declared.answers.Heard.{Heard}
use Rattle.udt_model.specs.declared.answers.Packed.{Packed}
use Rattle.udt_model.specs.declared.answers.Perf.{Perf}
use Rattle.udt_model.specs.declared.answers.Refusal.{Refusal}
use Rattle.udt_model.specs.declared.answers.Shaken.{Shaken}
use Rattle.udt_model.specs.State.{State, Datagram, Emission}

-- ---- events and replies

-- what may happen to a socket: a call, or a datagram that arrives from an address
pub data Act : Type 0 where
  -- a listener: how many connections it keeps at most, and the secret of its cookies
  Listen : (backlog : ℕ) → (secret : List ℕ) → Act
  Connect : (to : Addr) → Act
  Meet : (to : Addr) → Act
  Accept : Act
  Shake : Act
  -- a socket was made for a request that was promised a place, or none could be
  Offer : (id : ℕ) → Act
  Withdraw : Act
  Send : (bytes : List ℕ) → Act
  Recv : (room : ℕ) → Act
  -- a message: how many microseconds it is retransmitted at most, whether it must be delivered in order, and its bytes
  SendMessage : (ttl : Option ℕ) → (order : Bool) → (bytes : List ℕ) → Act
  RecvMessage : (room : ℕ) → Act
  Pack : Act
  Tick : Act
  Close : Act
  -- the port of the socket can't be used any more
  PortDown : Act
  Measure : Act
  Arrive : (from : Addr) → (bytes : List ℕ) → Act

-- an act and its moment, in microseconds
pub record Event : Type 0 where
  pub now : ℕ
  pub act : Act

-- an act at a moment
abbrev pub event : ℕ → Act → Event
event now act = record { now = now; act = act }

-- what an event answers: that a socket listens, asks or meets, the ID of a connection, what became of a connection, whether a
-- connection was offered; how many bytes were taken, the bytes that were received, the same of messages, what was packed, what
-- was measured, what was heard. Others say no more than that they were done
pub data Reply : Type 0 where
  DidListen : (answer : Result (Unit {0}) Refusal) → Reply
  DidConnect : (answer : Result (Unit {0}) Refusal) → Reply
  DidMeet : (answer : Result (Unit {0}) Refusal) → Reply
  Accepted : (answer : Result ℕ Refusal) → Reply
  DidShake : (answer : Shaken) → Reply
  DidOffer : (answer : Bool) → Reply
  DidWithdraw : Reply
  Sent : (answer : Result ℕ Refusal) → Reply
  Received : (answer : Result (List ℕ) Refusal) → Reply
  SentMessage : (answer : Result ℕ Refusal) → Reply
  ReceivedMessage : (answer : Result (List ℕ) Refusal) → Reply
  DidPack : (answer : Packed) → Reply
  DidTick : Reply
  DidClose : Reply
  DidPortDown : Reply
  DidMeasure : (answer : Perf) → Reply
  DidHear : (answer : Heard) → Reply

-- what an event leaves, answers and emits, in this order
pub record Outcome (C : Type 0) : Type 0 where
  pub after : State C
  pub reply : Reply
  pub emissions : List Emission

-- one more, and 2^64 - 1 stays
abbrev pub risen : ℕ → ℕ
risen count = min (count + 1) (2 ^ 64 - 1)

module _ {C : Type 0} where
  -- the datagrams that an event emits
  abbrev pub outs_of : Outcome C → List Datagram
  outs_of outcome = map (λ emission. emission.datagram) outcome.emissions

  -- an event that emits nothing
  abbrev pub answered : State C → Reply → Outcome C
  answered s reply = record { after = s; reply = reply; emissions = [] }

  -- the socket once an event has come at this moment, which isn't before the last one
  abbrev pub at_moment : State C → ℕ → State C
  at_moment s now = record s { last = max (min now LAST_MOMENT) s.last; count = risen s.count }
