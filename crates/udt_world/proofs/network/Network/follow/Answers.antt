use Rattle.std.proofs.Common.{◌≡◌, ◌+◌, ◌++◌, ◌∷◌, [], ℕ, List, length, refl, ap, ◌∙◌, sym, subst, arith}
use Rattle.std.specs.Prelude.{decimal, vec_len}
use Rattle.std.proofs.lemmas.Option.{same_Some, slice_get_read}
use Rattle.udt_model.specs.Connections.{config_of}
use Rattle.udt_model.specs.Events.{Arrive, event}
use Rattle.udt_model.specs.Handshakes as handshakes
use Rattle.udt_model.specs.Opening.{opening}
use Rattle.udt_script.specs.CodeLines.{datagram_of}
use Rattle.udt_world.specs.Views.{HasEvent, Sight, sight_of, view_of}
use Rattle.udt_world.specs.Wiring.{new_sight, sights_of}
use Rattle.udt_world.proofs.EventLemmas.{kept_front, on_err_from}
use Rattle.udt_world.proofs.PromiseLemmas.{count-kept, count-more, count-seen, last-seen, may-hear_named, may-offer, no-room, offer-does, request-named, request-new, seen-made, withdraw-does}
use Rattle.udt_world.proofs.WiredLemmas.{sight-at}
use Rattle.udt_world.proofs.network.Network.follow.Goals as goal

-- there is no room, and the promise is taken back
pub returns-then-not-has_room-clause-done : goal.returns-then-not-has_room-clause-done
returns-then-not-has_room-clause-done g c = λ n listener s shows at host config.
    let network = c.args.self.now in
    withdraw-does g.C.Control.ways n c.args.now c.args.place listener (datagram_of c.args.datagram.now) c.args.shake
    (view_of network) shows (view_of c.event.new.self) c.args.out.now.items c.event.new.out.items
    (omega (
      arith,
      count-seen network,
      no-room c.has_room.result (vec_len network.sockets) c.if-not-has_room.true c.has_room.ensures,
    ))
    c.in_ok-event.ensures.ok

-- the socket that is made may be added
pub add-requires-clause-new : goal.add-requires-clause-new
add-requires-clause-new g c =
    let network = c.args.self.now in
    let listener = c.index-listener.result.now in
    let read = slice_get_read network.sockets.items (length network.sockets.items) c.args.place listener refl
    (omega (arith, network.sockets.ok.0, c.requires.place)) c.index-listener.ensures in
    let found = sight-at network c.args.place listener read in
    let own = c.len-count.result + 1 in
    request-new g.C.Control.ways network c.requires.wired c.args.place listener c.in_ok-named.field-0 read
    (c.requires.nobody (sight_of listener) found) (omega (arith, c.has_room.ensures.0 c.if-not-has_room.false))
    own (omega (arith, c.len-count.ensures)) (config_of listener.socket) c.args.datagram.now.from c.args.shake
    (seen-made c.in_ok-named.field-0 c.as_bytes-name.result.now (decimal own) listener.host c.in_ok-made.made _
    c.in_ok-named.ensures.sight (c.as_bytes-name.ensures.value ∙ c.format.ensures.text) c.in_ok-made.ensures)
    c.in_ok-named.ensures.endpoint (c.requires.unadopted (sight_of listener) found)

-- it is offered
pub event-requires-2-clause-place : goal.event-requires-2-clause-place
event-requires-2-clause-place g c =
    omega (arith, c.requires.place, count-more c.args.self.now c.add.new.self c.in_ok-named.field-0 c.in_ok-add.ensures.view)

pub event-requires-2-clause-may : goal.event-requires-2-clause-may
event-requires-2-clause-may g c =
    may-offer (sights_of c.add.new.self) c.args.place (c.len-count.result + 1) (omega arith)
    (omega (
      arith,
      c.len-count.ensures,
      count-seen c.add.new.self,
      count-more c.args.self.now c.add.new.self c.in_ok-named.field-0 c.in_ok-add.ensures.view,
    ))

-- and given the request
pub event-requires-3-clause-place : goal.event-requires-3-clause-place
event-requires-3-clause-place g c =
    omega (
      arith,
      c.len-count.ensures,
      count-kept c.add.new.self c.event-2.new.self c.args.place _ c.in_ok-event-2.ensures.ok.sockets,
      count-more c.args.self.now c.add.new.self c.in_ok-named.field-0 c.in_ok-add.ensures.view,
    )

pub event-requires-3-clause-may : goal.event-requires-3-clause-may
event-requires-3-clause-may g c =
    let network = c.args.self.now in
    let listener = c.index-listener.result.now in
    let made = c.in_ok-named.field-0 in
    let at = last-seen network c.add.new.self made c.in_ok-add.ensures.view c.event-2.new.self c.args.place _ c.requires.place
    c.in_ok-event-2.ensures.ok.sockets in
    let named = request-named g.C.Control.ways made (decimal (c.len-count.result + 1)) listener.host (c.len-count.result + 1)
    (config_of listener.socket) c.args.datagram.now.from c.args.shake
    (seen-made made c.as_bytes-name.result.now (decimal (c.len-count.result + 1)) listener.host c.in_ok-made.made _
    c.in_ok-named.ensures.sight (c.as_bytes-name.ensures.value ∙ c.format.ensures.text) c.in_ok-made.ensures) in
    may-hear_named (sights_of c.event-2.new.self) c.len-count.result (sight_of made) _ c.args.datagram.now.from c.deref.result.now
    (rw c.len-count.ensures at) named

-- what was printed before stays in front
pub returns-in_err-event-3-clause-err : goal.returns-in_err-event-3-clause-err
returns-in_err-event-3-clause-err g c =
    on_err_from c.from_residual-in_err-event-3.result
    (kept_front c.args.out.now.items c.event-2.new.out.items c.event-3.new.out.items _ (vec_len c.args.out.now)
    (vec_len c.event-2.new.out) (omega (arith, c.args.out.now.ok.0)) (omega (arith, c.event-2.new.out.ok.0))
    c.in_ok-event-2.ensures.ok.text c.in_err-event-3.ensures.err)

-- so what the definitions say is done
pub returns-clause-done : goal.returns-clause-done
returns-clause-done g c = λ n known s shows at host config.
    let network = c.args.self.now in
    let listener = c.index-listener.result.now in
    let count = c.len-count.result in
    let read = slice_get_read network.sockets.items (length network.sockets.items) c.args.place listener refl
    (omega (arith, network.sockets.ok.0, c.requires.place)) c.index-listener.ensures in
    let same : sight_of listener ≡ s = same_Some _ _ (sym (sight-at network c.args.place listener read) ∙ at) in
    let seen = seen-made c.in_ok-named.field-0 c.as_bytes-name.result.now (decimal (count + 1)) listener.host c.in_ok-made.made _
    c.in_ok-named.ensures.sight (c.as_bytes-name.ensures.value ∙ c.format.ensures.text) c.in_ok-made.ensures in
    let as_listener = ap (λ (x : Sight _). new_sight (decimal (count + 1)) x.host
    (opening g.C.Control.ways (count + 1) (config_of x.state)
    (handshakes.peer_in (config_of x.state) c.args.datagram.now.from c.args.shake) 0 0)) same in
    offer-does g.C.Control.ways n c.args.now c.args.place known (datagram_of c.args.datagram.now) c.args.shake
    (view_of network) shows s (view_of c.add.new.self) (view_of c.event-2.new.self) (view_of c.event-3.new.self) count
    c.args.out.now.items c.event-2.new.out.items c.event-3.new.out.items host config
    (c.len-count.ensures ∙ sym (count-seen network))
    (omega (arith, c.has_room.ensures.0 c.if-not-has_room.false, c.len-count.ensures))
    (c.in_ok-add.ensures.view
    ∙ ap (λ (x : Sight _). record (view_of network) { sockets = sights_of network ++ x ∷ [] }) (seen ∙ as_listener))
    c.in_ok-event-2.ensures.ok
    (subst (λ (bytes : List ℕ). HasEvent g.C.Control.ways count (event c.args.now (Arrive c.args.datagram.now.from bytes))
    (view_of c.event-2.new.self) (view_of c.event-3.new.self) c.event-2.new.out.items c.event-3.new.out.items)
    c.deref.ensures.value c.in_ok-event-3.ensures.ok)
