-- What is known at a host: a route asks no more than some points of it, and what is seen of the sockets tells them.
use Rattle.std.proofs.Common.{◌≡◌, ℕ, ◌-◌, Bool, true, false, List, map, Some, None, Option, refl, ap, ◌∙◌, sym, option_map}
use Rattle.std.specs.Prelude.{position, slice_get, if◌then◌else◌, ◌+◌, ◌==◌}
use Rattle.std.proofs.lemmas.Option.{slice_get-map}
use Rattle.udt_model.specs.declared.addresses.Addr.{Addr}
use Rattle.udt_model.specs.declared.handshakes.Asked.{Asked}
use Rattle.udt_model.specs.declared.handshakes.Asked.TheVariants as asks
use Rattle.udt_model.specs.declared.packets.Shake.{Shake}
use Rattle.udt_model.specs.Handshakes.{asked}
use Rattle.udt_model.specs.Network as model
use Rattle.udt_model.specs.Rate.{Ways}
use Rattle.udt_model.specs.Routes.{Known, handshake_in, to_place, to_named, by_type, to_adopter, to_unnamed, to_target, route}
use Rattle.udt_model.specs.Wire.{read, target}
use Rattle.udt_world.specs.Views.{Sight, sight_of_history}
use Rattle.udt_routes.specs.Pairs.{adopter_of}
use Rattle.udt_routes.specs.Routing.{found_in, known_by, route as table_route}
use Rattle.udt_routes.specs.Tables.{Table}
use Rattle.udt_world.specs.Wiring.{AreSame, Knows, adopts, is_any, is_here, listens, meets, seen_at, sight_with}
use Rattle.udt_world.proofs.PlaceLemmas.{position-map}

-- ---- routes

module _ (k l : Known) (same : AreSame k l) (from : Addr) where
  named-same : (dest : ℕ) (shake : Option Shake) → to_named k from dest shake ≡ to_named l from dest shake
  named-same dest None = rw (same.enrolled dest) refl
  named-same dest (Some shake) = rw (same.enrolled dest, same.adopter from shake.id) refl

  type-same : (a : Asked) → by_type k from a ≡ by_type l from a
  type-same asks.Meets = ap to_place (same.meeter from)
  type-same asks.Requests = ap to_place same.listener
  type-same other = refl

  adopter-same : (found : Option ℕ) (shake : Shake) → to_adopter k from found shake ≡ to_adopter l from found shake
  adopter-same None shake = type-same (asked shake.ask)
  adopter-same (Some own) shake = rw (same.enrolled own) refl

  unnamed-same : (shake : Option Shake) → to_unnamed k from shake ≡ to_unnamed l from shake
  unnamed-same None = refl
  unnamed-same (Some shake) = rw (same.adopter from shake.id) (adopter-same (l.adopter_of from shake.id) shake)

  target-same : (dest : Option ℕ) (shake : Option Shake) → to_target k from dest shake ≡ to_target l from dest shake
  target-same None shake = refl
  target-same (Some dest) shake = rw (named-same dest shake, unnamed-same shake) refl

  -- a datagram goes to the same socket where the same is known
  pub route_same : (bytes : List ℕ) → route k from bytes ≡ route l from bytes
  route_same bytes = target-same (target bytes) (handshake_in (read bytes))

-- ---- what is seen

module _ {C : Type 0} (w : Ways C) (sockets : List (model.ScriptSocket C)) (host : Addr) where
  first-same : (test : Sight C → Bool)
      → model.first_id (λ socket. test (sight_of_history w socket)) sockets ≡ option_map (λ place. place + 1) (position test (map (sight_of_history w) sockets))
  first-same test = ap (option_map (λ place. place + 1)) (sym (position-map (sight_of_history w) test sockets))

  any-same : (found : Option (model.ScriptSocket C)) → model.is_any_enrolled w host found ≡ is_any (is_here host) (option_map (sight_of_history w) found)
  any-same None = refl
  any-same (Some socket) = refl

  with-same : (id : ℕ) → sight_with (map (sight_of_history w) sockets) id ≡ option_map (sight_of_history w) (model.socket_with sockets id)
  with-same id = elim (id == 0) as (λ b. (if b then None else slice_get (map (sight_of_history w) sockets) (id - 1))
      ≡ option_map (sight_of_history w) (if b then None else slice_get sockets (id - 1))) [
        | true ↦ refl
        | false ↦ slice_get-map (sight_of_history w) sockets (id - 1)
      ]

  -- what an endpoint knows of sockets is what is seen of them
  pub known_seen : AreSame (model.known_at w sockets host) (seen_at (map (sight_of_history w) sockets) host)
  known_seen = record {
    enrolled = λ id. any-same (model.socket_with sockets id) ∙ sym (ap (λ (o : Option (Sight C)). is_any (is_here host) o) (with-same id));
    adopter = λ addr id. first-same (adopts host addr id);
    listener = first-same (listens host);
    meeter = λ addr. first-same (meets host addr);
  }

  -- a table that knows what is seen of the sockets sends a datagram where the definitions do
  pub destination_known : {R : Type 0} (t : Table R) (sights : List (Sight C)) (from : Addr) (bytes : List ℕ) → Knows t sights host
      → sights ≡ map (sight_of_history w) sockets → table_route t from bytes ≡ route (model.known_at w sockets host) from bytes
  unfolding table_route
  destination_known t sights from bytes knows is =
      let seen = rw is at knows.same in
      route_same (known_by (found_in t) (adopter_of t.adoptions)) (seen_at (map (sight_of_history w) sockets) host) seen from bytes
      ∙ sym (route_same (model.known_at w sockets host) (seen_at (map (sight_of_history w) sockets) host) known_seen from bytes)
