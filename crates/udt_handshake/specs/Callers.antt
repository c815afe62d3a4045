-- Who can ask for a connection.
use Rattle.std.specs.Prelude.{◌^◌, ◌<◌, ◌≤◌}
use Rattle.udt_model.specs.declared.limits.TheConstants.{MOST_PAYLOAD}
use Rattle.udt_model.specs.declared.handshakes.Caller.{Caller}

-- its payload is that of a socket, and its initial sequence number fits its place
pub record IsCaller (caller : Caller) : Type 0 where
  pub some : 0 < caller.config.payload
  pub most : caller.config.payload ≤ MOST_PAYLOAD
  pub isn : caller.isn < 2 ^ 31
