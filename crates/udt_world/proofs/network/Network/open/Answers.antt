use Rattle.std.proofs.Common.{◌+◌, ◌<◌, ap, ◌∙◌, sym, arith}
use Rattle.std.proofs.lemmas.List.{length-map}
use Rattle.std.specs.Prelude.{vec_len}
use Rattle.udt_model.specs.declared.limits.TheConstants.{MOST_SOCKETS}
use Rattle.udt_model.specs.Script.{open_config}
use Rattle.udt_script.specs.CodeLines.{opening_of}
use Rattle.udt_world.specs.declared.network.Network.{Network}
use Rattle.udt_world.specs.Views.{sight_of, view_of}
use Rattle.udt_world.specs.Wiring.{new_sight, place_seen, sights_of}
use Rattle.udt_world.proofs.NewLemmas.{added-seen, open-does, open-new}
use Rattle.udt_world.proofs.network.Network.open.Goals as goal

-- the socket is as one that is opened, under a new name
pub add-requires-clause-new : goal.add-requires-clause-new
add-requires-clause-new g c =
    let opening = c.args.opening.now in
    let network = c.endpoint_of.new.self in
    let kept = c.in_ok-endpoint.ensures.kept in
    let count = ap (λ (m : Network _). vec_len m.sockets) kept in
    let sight = c.in_ok-named.ensures.sight ∙ ap (new_sight opening.name.now c.in-Some.host) c.in_ok-socket.ensures in
    let room : vec_len c.args.self.now.sockets < MOST_SOCKETS = omega arith in
    open-new g.C.Control.ways network c.in_ok-endpoint.ensures.wired c.in_ok-named.field-0 c.in_ok-endpoint.endpoint
    (c.len-count.result + 1) 0 c.in_ok-named.ensures.endpoint
    (omega (arith, room, count)) (omega (arith, c.len-count.ensures, count))
    opening.name.now c.in-Some.host opening.isn (open_config (opening_of opening)) c.in_ok-endpoint.ensures.value sight
    (ap (λ (m : Network _). place_seen (sights_of m) opening.name.now) kept ∙ c.is_taken.ensures.free c.if-is_taken.false)
    c.requires.named (c.requires.wired.free opening.host.now c.in-Some.host (sym c.in-Some.ensures))

-- a line that opens a socket does so
pub returns-clause-done : goal.returns-clause-done
returns-clause-done g c = λ n shows.
    let opening = c.args.opening.now in
    let network = c.args.self.now in
    let sight = c.in_ok-named.ensures.sight ∙ ap (new_sight opening.name.now c.in-Some.host) c.in_ok-socket.ensures in
    open-does g.C.Control.ways n (opening_of opening) c.in-Some.host (view_of network) (view_of c.add.new.self) c.len-count.result
    c.args.out.now.items c.print_open.new.out.items shows
    (omega (arith, c.len-count.ensures, network.sockets.ok.0, length-map network.sockets.items sight_of))
    (omega (arith, c.len-count.ensures))
    (sym (c.is_taken.ensures.value n shows) ∙ c.if-is_taken.false) (sym c.in-Some.ensures)
    (added-seen network c.add.new.self c.endpoint_of.new.self c.in_ok-named.field-0 _ c.in_ok-endpoint.ensures.kept
    c.in_ok-add.ensures.view sight)
    c.in_ok-print_open.ensures.ok
