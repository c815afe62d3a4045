-- The socket that a datagram of a script reaches stands at the host that it names.
use Rattle.std.proofs.Common.{◌≡◌, ℕ, ◌-◌, true, Some, None, Option, List, refl, ap, ◌∙◌, sym}
use Rattle.std.specs.Prelude.{slice_get}
use Rattle.std.proofs.lemmas.Bool.{and_parts}
use Rattle.udt_model.specs.declared.addresses.Addr.{Addr}
use Rattle.udt_model.specs.Addresses.{same_addr}
use Rattle.udt_model.specs.Network.{ScriptSocket, ScriptDatagram, Network, is_enrolled, is_any_enrolled, holds_listener, holds_meeting, socket_with, ToSocket, known_at, route}
use Rattle.udt_model.specs.Rate.{Ways}
use Rattle.udt_model.specs.Routes.{handshake_in}
use Rattle.udt_model.specs.Wire.{read, target}
use Rattle.udt_model.proofs.AddressLemmas.{same_addr-is}
use Rattle.udt_laws.proofs.scripts.FirstFound.{found-passes}
use Rattle.udt_laws.proofs.scripts.RouteFinds.{with-id, route-finds}
use Rattle.udt_laws.proofs.scripts.StandsThere.{MayGet, IsEnrolled, Listens, MeetsIt, target-gets}
use Rattle.udt_laws.proofs.scripts.UnadoptedPair.{some-first}

module _ {C : Type 0} (w : Ways C) where
  enrolled-host : (host : Addr) (socket : ScriptSocket C) → is_enrolled w host socket ≡ true → socket.host ≡ host
  enrolled-host host socket is = same_addr-is socket.host host (and_parts (same_addr socket.host host) _ is).0

  any-host : (host : Addr) (found : Option (ScriptSocket C)) → is_any_enrolled w host found ≡ true
      → (socket : ScriptSocket C) × (found ≡ Some socket) × (socket.host ≡ host)
  any-host host None is = absurd (cc)
  any-host host (Some socket) is = (socket, refl, enrolled-host host socket is)

  same-socket : (one other : ScriptSocket C) (found : Option (ScriptSocket C)) → found ≡ Some one → found ≡ Some other → one ≡ other
  same-socket one other found first second = cc

  gets-host : (sockets : List (ScriptSocket C)) (host from : Addr) (id : ℕ) (socket : ScriptSocket C) → slice_get sockets (id - 1) ≡ Some socket
      → MayGet (known_at w sockets host) from id → socket.host ≡ host
  gets-host sockets host from id socket at (IsEnrolled enrolled) =
      let found = any-host host (socket_with sockets id) enrolled in
      let same = same-socket found.0 socket (slice_get sockets (id - 1)) (with-id sockets id found.0 found.1) at in
      ap (λ (s : ScriptSocket C). s.host) (sym same) ∙ found.2
  gets-host sockets host from id socket at (Listens listens) =
      let is_so = holds_listener w host in
      let passes = found-passes is_so sockets (id - 1) socket (some-first is_so sockets id listens) at in
      enrolled-host host socket (and_parts (is_enrolled w host socket) _ passes).0
  gets-host sockets host from id socket at (MeetsIt meets) =
      let is_so = holds_meeting w host from in
      let passes = found-passes is_so sockets (id - 1) socket (some-first is_so sockets id meets) at in
      enrolled-host host socket (and_parts (is_enrolled w host socket) _ passes).0

  pub host-reached : (n : Network C) (datagram : ScriptDatagram) (place : ℕ) (socket : ScriptSocket C) → route w n datagram ≡ ToSocket place socket
      → (slice_get n.sockets place ≡ Some socket) × (socket.host ≡ datagram.to)
  host-reached n datagram place socket goes =
      let routed = route-finds w n datagram place socket goes in
      let there = ap (slice_get n.sockets) routed.place_is ∙ routed.at in (
        routed.at,
        gets-host n.sockets datagram.to datagram.from routed.id socket there
            (target-gets (known_at w n.sockets datagram.to) datagram.from routed.id (target datagram.bytes)
            (handshake_in (read datagram.bytes)) routed.goes),
      )
