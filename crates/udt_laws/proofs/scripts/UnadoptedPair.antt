-- A handshake goes to a socket that has no peer only where no socket at the host has its pair as own peer.
use Rattle.std.proofs.Common.{◌≡◌, ℕ, ◌+◌, ◌-◌, Bool, true, false, Some, None, Option, List, refl, ap, ◌∙◌, sym, inl, inr, arith}
use Rattle.std.specs.Prelude.{slice_get, position, option_map, ◌==◌, ◌&&◌}
use Rattle.std.proofs.lemmas.Bool.{and_parts}
use Rattle.udt_model.specs.declared.addresses.Addr.{Addr}
use Rattle.udt_model.specs.declared.addresses.Ip.{Ip}
use Rattle.udt_model.specs.declared.addresses.Ip.TheVariants.{V4, V6}
use Rattle.udt_model.specs.declared.answers.Origin.{Origin}
use Rattle.udt_model.specs.declared.answers.Origin.TheVariants as origin
use Rattle.udt_model.specs.declared.answers.Peer.{Peer}
use Rattle.udt_model.specs.declared.packets.Shake.{Shake}
use Rattle.udt_model.specs.declared.routes.Routed.TheVariants as routing
use Rattle.udt_model.specs.Addresses.{same_ip, same_addr}
use Rattle.udt_model.specs.History.{state_of}
use Rattle.udt_model.specs.Network.{ScriptSocket, ScriptDatagram, Network, is_pair, has_adopted, first_id, ToSocket, known_at, route}
use Rattle.udt_model.specs.Rate.{Ways}
use Rattle.udt_model.specs.Records.{peer_by, own_peer}
use Rattle.udt_model.specs.Routes.{handshake_in, to_target}
use Rattle.udt_model.specs.Wire.{read, target}
use Rattle.udt_model.proofs.PeerLemmas.{has_peer}
use Rattle.udt_laws.proofs.scripts.FirstFound.{none-passes, found-passes}
use Rattle.udt_laws.proofs.scripts.RouteFinds.{route-finds}
use Rattle.udt_laws.proofs.scripts.WhoAdopted.{who-adopted}

-- an address is the same as itself
same-number : (n : ℕ) → (n == n) ≡ true
same-number n = grind arith

same-ip : (ip : Ip) → same_ip ip ip ≡ true
same-ip (V4 bits) = same-number bits
same-ip (V6 bits) = same-number bits

both-true : (a b : Bool) → a ≡ true → b ≡ true → (a && b) ≡ true
both-true a b one other = rw (one, other) refl

pub same-addr : (addr : Addr) → same_addr addr addr ≡ true
same-addr addr = both-true _ _ (same-ip addr.ip) (same-number addr.port)

-- a socket with this origin and peer that names a pair has one
pair-tested : (addr : Addr) (id : ℕ) → is_pair addr id (Some (record { addr = addr; id = id })) ≡ true
pair-tested addr id = both-true _ _ (same-addr addr) (same-number id)

nobody-names : (from : Origin) (peer : Peer) (addr : Addr) (id : ℕ) → has_peer from ≡ false → is_pair addr id (peer_by from peer) ≡ true → ⊥
nobody-names origin.Nobody peer addr id none is = cc
nobody-names _ peer addr id none is = cc

module _ {C : Type 0} where
  -- no socket at this host has the pair as its own peer
  abbrev pub IsUnadopted : Ways C → List (ScriptSocket C) → Addr → Addr → ℕ → Type 0
  IsUnadopted w sockets host addr id =
      (k : ℕ) (socket : ScriptSocket C) → slice_get sockets k ≡ Some socket → socket.host ≡ host
      → own_peer w socket.history ≡ Some (record { addr = addr; id = id }) → ⊥

  pub none-first : (is_so : ScriptSocket C → Bool) (sockets : List (ScriptSocket C)) → first_id is_so sockets ≡ None → position is_so sockets ≡ None
  none-first is_so sockets none = no-place (position is_so sockets) none
    where
      no-place : (found : Option ℕ) → option_map (λ place. place + 1) found ≡ None → found ≡ None
      no-place None is = refl
      no-place (Some place) is = absurd (cc)

  pub some-first : (is_so : ScriptSocket C → Bool) (sockets : List (ScriptSocket C)) (id : ℕ) → first_id is_so sockets ≡ Some id
      → position is_so sockets ≡ Some (id - 1)
  some-first is_so sockets id is = a-place (position is_so sockets) id is
    where
      a-place : (found : Option ℕ) (id : ℕ) → option_map (λ place. place + 1) found ≡ Some id → found ≡ Some (id - 1)
      a-place None id is = absurd (cc)
      a-place (Some place) id is = let same : place + 1 ≡ id = cc in ap Some (omega (arith, same))

module _ {C : Type 0} (w : Ways C) where
  adopts-it : (host addr : Addr) (id : ℕ) (socket : ScriptSocket C) → socket.host ≡ host
      → own_peer w socket.history ≡ Some (record { addr = addr; id = id }) → has_adopted w host addr id socket ≡ true
  adopts-it host addr id socket stands names =
      both-true _ _ (ap (λ (a : Addr). same_addr socket.host a) (sym stands) ∙ same-addr socket.host)
      (ap (is_pair addr id) names ∙ pair-tested addr id)

  pub unadopted : (n : Network C) (datagram : ScriptDatagram) (place : ℕ) (socket : ScriptSocket C) (shake : Shake)
      → route w n datagram ≡ ToSocket place socket → handshake_in (read datagram.bytes) ≡ Some shake
      → has_peer (state_of w socket.history).origin ≡ false → IsUnadopted w n.sockets datagram.to datagram.from shake.id
  unadopted n datagram place socket shake goes reads none k other at stands names =
      let routed = route-finds w n datagram place socket goes in
      let is_so = has_adopted w datagram.to datagram.from shake.id in
      let test = adopts-it datagram.to datagram.from shake.id other stands names in
      let known = known_at w n.sockets datagram.to in
      let to_it : to_target known datagram.from (target datagram.bytes) (Some shake) ≡ routing.ToSocket routed.id =
      ap (to_target known datagram.from (target datagram.bytes)) (sym reads) ∙ routed.goes in
      elim (who-adopted known datagram.from shake routed.id (target datagram.bytes) to_it) [
        | inl nobody ↦
            let fails = none-passes is_so n.sockets (none-first is_so n.sockets nobody) k other at in
            absurd (cc)
        | inr adopter ↦
            let first = some-first is_so n.sockets routed.id adopter in
            let passes = found-passes is_so n.sockets (routed.id - 1) socket first (ap (slice_get n.sockets) routed.place_is ∙ routed.at) in
            absurd (nobody-names (state_of w socket.history).origin (state_of w socket.history).peer datagram.from shake.id none (and_parts _ _ passes).1)
      ]
