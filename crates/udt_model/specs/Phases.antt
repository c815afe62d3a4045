-- Where a socket stands.
use Rattle.std.specs.Prelude.{ℕ, ◌+◌, Bool, false, true, List, length, nat_lt}
use Rattle.udt_model.specs.declared.answers.Cause.{Cause}
use Rattle.udt_model.specs.declared.answers.Failure.{Failure}
use Rattle.udt_model.specs.Handshakes as handshakes

-- a listener: the cookies and the requests that it takes, how many connections it keeps at most, the IDs of those that wait to be
-- accepted, in order, and how many more were promised a place
pub record Backlog : Type 0 where
  pub listening : handshakes.Listening
  pub most : ℕ
  pub offered : List ℕ
  pub promised : ℕ

-- it has a place for one more
abbrev pub has_place : Backlog → Bool
has_place b = nat_lt (length b.offered + b.promised) b.most

-- a socket is opened, and then listens, asks a listener for a connection, or meets another socket. A client and a meeting socket
-- emit a handshake again at a moment. Then it is connected, cut off from its peer for a cause, failed to be connected, closed
-- with the peer not told yet, or closed
pub data Phase : Type 0 where
  Opened : Phase
  Listening : (backlog : Backlog) → Phase
  Connecting : (client : handshakes.Connecting) → (again : ℕ) → Phase
  Meeting : (meeting : handshakes.Meeting) → (again : ℕ) → Phase
  Connected : Phase
  Broken : (why : Cause) → Phase
  Failed : (why : Failure) → Phase
  Closing : Phase
  Closed : Phase

-- what there is of a connection: it stands, it was lost, or there is none
pub data Link : Type 0 where
  Stands : Link
  Lost : (why : Cause) → Link
  Absent : Link

abbrev pub link_of : Phase → Link
link_of Connected = Stands
link_of (Broken why) = Lost why
link_of other = Absent

-- the socket is closed for good
abbrev pub is_closed : Phase → Bool
is_closed Closed = true
is_closed other = false
