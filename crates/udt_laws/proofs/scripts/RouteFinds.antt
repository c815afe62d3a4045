-- Where a datagram of a script goes: to a socket at the host that it names, and a handshake to one that has no peer only where
-- no socket there has adopted its pair.
use Rattle.std.proofs.Common.{◌≡◌, ℕ, ◌-◌, true, false, List, Some, None, Option, refl, subst}
use Rattle.std.specs.Prelude.{slice_get, codes, ◌==◌, if◌then◌else◌}
use Rattle.udt_model.specs.declared.routes.Routed.{Routed}
use Rattle.udt_model.specs.declared.routes.Routed.TheVariants as routed
use Rattle.udt_model.specs.Network.{ScriptSocket, ScriptDatagram, Network, is_host, ToSocket, Nowhere, socket_with, to_found, routed_to, known_at, route}
use Rattle.udt_model.specs.Rate.{Ways}
use Rattle.udt_model.specs.Routes as routes

module _ {C : Type 0} where
  to-found : (id place : ℕ) (found : Option (ScriptSocket C)) (socket : ScriptSocket C) → to_found id found ≡ ToSocket place socket
      → (id - 1 ≡ place) × (found ≡ Some socket)
  to-found id place None socket is = absurd (cc)
  to-found id place (Some other) socket is = (cc, cc)

  -- the socket with an ID stands at the place before it
  pub with-id : (sockets : List (ScriptSocket C)) (id : ℕ) (socket : ScriptSocket C) → socket_with sockets id ≡ Some socket
      → slice_get sockets (id - 1) ≡ Some socket
  with-id sockets id socket is =
      elim (id == 0) as (λ none. (if none then None else slice_get sockets (id - 1)) ≡ Some socket → slice_get sockets (id - 1) ≡ Some socket) [
        | true ↦ λ e. absurd (cc)
        | false ↦ λ e. e
      ] is

  routed-to : (sockets : List (ScriptSocket C)) (r : Routed) (place : ℕ) (socket : ScriptSocket C) → routed_to sockets r ≡ ToSocket place socket
      → (id : ℕ) × (r ≡ routed.ToSocket id) × (id - 1 ≡ place) × (slice_get sockets place ≡ Some socket)
  routed-to sockets (routed.ToSocket id) place socket is =
      let found = to-found id place (socket_with sockets id) socket is in
      (id, refl, found.0, subst (λ (k : ℕ). slice_get sockets k ≡ Some socket) found.0 (with-id sockets id socket found.1))
  routed-to sockets routed.Short place socket is = absurd (cc)
  routed-to sockets routed.Id place socket is = absurd (cc)
  routed-to sockets routed.Shake place socket is = absurd (cc)
  routed-to sockets routed.Stale place socket is = absurd (cc)

module _ {C : Type 0} (w : Ways C) where
  -- a datagram that goes to a socket is routed there by the host that it names
  pub record IsRouted (n : Network C) (datagram : ScriptDatagram) (place : ℕ) (socket : ScriptSocket C) : Type 0 where
    pub id : ℕ
    pub host : is_host n.hosts datagram.to ≡ true
    pub goes : routes.route (known_at w n.sockets datagram.to) datagram.from datagram.bytes ≡ routed.ToSocket id
    pub place_is : id - 1 ≡ place
    pub at : slice_get n.sockets place ≡ Some socket

  pub route-finds : (n : Network C) (datagram : ScriptDatagram) (place : ℕ) (socket : ScriptSocket C) → route w n datagram ≡ ToSocket place socket
      → IsRouted n datagram place socket
  unfolding route
  route-finds n datagram place socket is =
      elim (is_host n.hosts datagram.to) as (λ known. is_host n.hosts datagram.to ≡ known
      → (if known then routed_to n.sockets (routes.route (known_at w n.sockets datagram.to) datagram.from datagram.bytes) else Nowhere (codes "host"))
      ≡ ToSocket place socket → IsRouted n datagram place socket) [
        | true ↦ λ host e.
            let found = routed-to n.sockets _ place socket e in
            record { id = found.0; host = host; goes = found.1; place_is = found.2; at = found.3 }
        | false ↦ λ host e. absurd (cc)
      ] refl is
