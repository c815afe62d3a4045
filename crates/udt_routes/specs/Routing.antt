-- What an endpoint knows, by what is found in its table.
use Rattle.std.specs.Prelude.{ℕ, is_some, List, Option, Some, None, if◌then◌else◌}
use Rattle.udt_model.specs.declared.addresses.Addr.{Addr}
use Rattle.udt_model.specs.declared.packets.Shake.{Shake}
use Rattle.udt_model.specs.declared.routes.Routed.{Routed}
use Rattle.udt_model.specs.Routes.{Known}
use Rattle.udt_model.specs.Routes as model
use Rattle.udt_routes.specs.declared.routing.Want.{Want}
use Rattle.udt_routes.specs.declared.routing.Want.TheVariants.{Id, Listener, Meeting}
use Rattle.udt_routes.specs.Meets.{meeter_of}
use Rattle.udt_routes.specs.Pairs.{Pair, adopter_of}
use Rattle.udt_routes.specs.Tables.{Table, what_of}

-- by what is found of each want, and by which ID has adopted each pair
abbrev pub known_by : (Want → Option ℕ) → (Pair → Option ℕ) → Known
known_by found adopter = record {
  is_enrolled = λ id. is_some (found (Id id));
  adopter_of = λ addr id. adopter (addr, id);
  listener = found Listener;
  meeter_of = λ addr. found (Meeting addr);
}

-- where a datagram goes then that came from this address
abbrev pub route_by : (Want → Option ℕ) → (Pair → Option ℕ) → Addr → List ℕ → Routed
route_by found adopter from bytes = model.route (known_by found adopter) from bytes

-- the ID that has adopted the sender of a handshake
abbrev pub adopter_in : (Pair → Option ℕ) → Addr → Option Shake → Option ℕ
adopter_in adopter from None = None
adopter_in adopter from (Some shake) = adopter (from, shake.id)

module _ {R : Type 0} where
  -- what a table has of a want: the ID itself, where it is enrolled, or the ID in a place
  abbrev pub found_in : Table R → Want → Option ℕ
  found_in t (Id id) = if is_some (what_of t id) then Some id else None
  found_in t Listener = t.listener
  found_in t (Meeting from) = meeter_of t.meetings from

  -- where a datagram goes by a table
  unfoldable pub route : Table R → Addr → List ℕ → Routed
  route t from bytes = route_by (found_in t) (adopter_of t.adoptions) from bytes
