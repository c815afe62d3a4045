-- Where a datagram goes at an endpoint: to a socket, or nowhere, for one of four reasons.
use Rattle.std.specs.Prelude.{ℕ, ◌==◌, Bool, false, not, List, Option, Some, None, Result, Ok, Err, if◌then◌else◌}
use Rattle.udt_model.specs.declared.addresses.Addr.{Addr}
use Rattle.udt_model.specs.declared.handshakes.Asked.{Asked}
use Rattle.udt_model.specs.declared.handshakes.Asked.TheVariants as asks
use Rattle.udt_model.specs.declared.packets.Malformed.{Malformed}
use Rattle.udt_model.specs.declared.packets.Shake.{Shake}
use Rattle.udt_model.specs.declared.routes.Routed.{Routed}
use Rattle.udt_model.specs.declared.routes.Routed.TheVariants.{ToSocket, Short, Id, Shake as NoShake, Stale}
use Rattle.udt_model.specs.Handshakes.{asked}
use Rattle.udt_model.specs.Wire.{Packet, Handshake, read, target}

-- what an endpoint knows: which IDs are enrolled, the ID that has adopted the pair of an address and a socket ID there, the ID of
-- its listener, and the ID that meets an address
pub record Known : Type 0 where
  pub is_enrolled : ℕ → Bool
  pub adopter_of : Addr → ℕ → Option ℕ
  pub listener : Option ℕ
  pub meeter_of : Addr → Option ℕ

-- the handshake that was read
abbrev pub handshake_in : Result Packet Malformed → Option Shake
handshake_in (Ok (Handshake stamp dest shake)) = Some shake
handshake_in other = None

-- another ID than this one
abbrev pub is_other : ℕ → Option ℕ → Bool
is_other id None = false
is_other id (Some other) = not (other == id)

-- the socket in a place, where one holds it
abbrev pub to_place : Option ℕ → Routed
to_place None = NoShake
to_place (Some id) = ToSocket id

module _ (k : Known) (from : Addr) where
  -- the ID that has adopted the pair of a handshake
  abbrev pub adopter_in : Option Shake → Option ℕ
  adopter_in None = None
  adopter_in (Some shake) = k.adopter_of from shake.id

  -- to the socket that is named, unless another one has adopted the sender
  abbrev pub to_named : ℕ → Option Shake → Routed
  to_named dest shake =
      if k.is_enrolled dest then (if is_other dest (adopter_in shake) then Stale else ToSocket dest) else Id

  -- to the one that meets the sender, or to the listener
  abbrev pub by_type : Asked → Routed
  by_type asks.Meets = to_place (k.meeter_of from)
  by_type asks.Requests = to_place k.listener
  by_type asked = NoShake

  -- to the socket that has adopted the sender, while it is enrolled
  abbrev pub to_adopter : Option ℕ → Shake → Routed
  to_adopter None shake = by_type (asked shake.ask)
  to_adopter (Some own) shake = if k.is_enrolled own then ToSocket own else Stale

  -- where no socket is named
  abbrev pub to_unnamed : Option Shake → Routed
  to_unnamed None = NoShake
  to_unnamed (Some shake) = to_adopter (k.adopter_of from shake.id) shake

  abbrev pub to_target : Option ℕ → Option Shake → Routed
  to_target None shake = Short
  to_target (Some dest) shake = if dest == 0 then to_unnamed shake else to_named dest shake

  -- where a datagram goes that came from this address
  abbrev pub route : List ℕ → Routed
  route bytes = to_target (target bytes) (handshake_in (read bytes))
