-- The range in which a meeting socket's payloads lie.
use Rattle.std.specs.Prelude.{◌<◌, ◌≤◌, Option, IfSome}
use Rattle.udt_model.specs.declared.limits.TheConstants.{MOST_PAYLOAD}
use Rattle.udt_model.specs.declared.answers.Peer.{Peer}
use Rattle.udt_model.specs.declared.handshakes.Caller.{Caller}
use Rattle.udt_handshake.specs.Callers.{IsCaller}

-- the own payload is that of a socket, and so is the agreed one
pub record IsMeeting (caller : Caller) (adopted : Option Peer) : Type 0 where
  pub own : IsCaller caller
  pub some : IfSome adopted (λ peer. 0 < peer.payload)
  pub agreed : IfSome adopted (λ peer. peer.payload ≤ MOST_PAYLOAD)
