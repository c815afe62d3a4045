-- The one look-up in a table on which it depends where a datagram goes.
use Rattle.std.specs.Prelude.{◌≡◌, ℕ, false, List, Option, Some, None, Result, Ok, Err, if◌then◌else◌}
use Rattle.udt_model.specs.declared.addresses.Addr.{Addr}
use Rattle.udt_model.specs.declared.handshakes.Asked.{Asked}
use Rattle.udt_model.specs.declared.handshakes.Asked.TheVariants as asks
use Rattle.udt_model.specs.declared.packets.Shake.{Shake}
use Rattle.udt_model.specs.Handshakes.{asked}
use Rattle.udt_routes.specs.declared.routing.Want.{Want}
use Rattle.udt_routes.specs.declared.routing.Want.TheVariants.{Id, Listener, Meeting}
use Rattle.udt_model.specs.declared.routes.Routed.{Routed}
use Rattle.udt_model.specs.declared.routes.Routed.TheVariants as routed
use Rattle.udt_routes.specs.declared.routing.Lookup.{Lookup}
use Rattle.udt_routes.specs.Pairs.{Pair}
use Rattle.udt_model.specs.Routes.{is_other}
use Rattle.udt_routes.specs.Routing.{adopter_in, route_by}

-- the socket that was wanted by its ID, or the one that was found in a place
abbrev pub socket_of : Want → ℕ → ℕ
socket_of (Id id) found = id
socket_of Listener found = found
socket_of (Meeting from) found = found

-- where the datagram goes, once this ID was found, or none
abbrev pub routed_by : Lookup → Option ℕ → Routed
routed_by lookup None = lookup.absent
routed_by lookup (Some found) = if lookup.stale then routed.Stale else routed.ToSocket (socket_of lookup.want found)

-- where it goes by what is found of each want
abbrev pub decided : Result Lookup Routed → (Want → Option ℕ) → Routed
decided (Ok lookup) found = routed_by lookup (found lookup.want)
decided (Err routed) found = routed

-- which look-up a listener or a meeting socket needs
abbrev pub place_lookup : Want → Lookup
place_lookup want = record { want = want; stale = false; absent = routed.Shake }

-- the look-up for a handshake of a sender that none has adopted
abbrev pub type_lookup : Addr → Asked → Result Lookup Routed
type_lookup from asks.Meets = Ok (place_lookup (Meeting from))
type_lookup from asks.Requests = Ok (place_lookup Listener)
type_lookup from asks.Answers = Err routed.Shake
type_lookup from asks.Agrees = Err routed.Shake
type_lookup from asks.Refuses = Err routed.Shake
type_lookup from asks.Other = Err routed.Shake

module _ (adopter : Pair → Option ℕ) (from : Addr) where
  -- for a datagram that names a socket
  abbrev pub named_lookup : ℕ → Option Shake → Lookup
  named_lookup dest shake = record {
    want = Id dest;
    stale = is_other dest (adopter_in adopter from shake);
    absent = routed.Id;
  }

  -- for a handshake, by which ID has adopted its sender
  abbrev pub adopter_lookup : Option ℕ → Shake → Result Lookup Routed
  adopter_lookup None shake = type_lookup from (asked shake.ask)
  adopter_lookup (Some own) shake = Ok (record { want = Id own; stale = false; absent = routed.Stale })

  -- for a datagram that names none
  abbrev pub unnamed_lookup : Option Shake → Result Lookup Routed
  unnamed_lookup None = Err routed.Shake
  unnamed_lookup (Some shake) = adopter_lookup (adopter (from, shake.id)) shake

  -- the look-up decides where the datagram goes, whatever is found
  abbrev pub Decides : List ℕ → Result Lookup Routed → Type 0
  Decides bytes lookup = (found : Want → Option ℕ) → decided lookup found ≡ route_by found adopter from bytes
