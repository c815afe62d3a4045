use Rattle.std.proofs.Common.{◌≡◌, ℕ, ◌-◌, Some, ◌∙◌, sym, subst, arith}
use Rattle.std.proofs.lemmas.List.{length-map}
use Rattle.std.proofs.lemmas.Option.{slice_get_within}
use Rattle.udt_model.specs.declared.addresses.Addr.{Addr}
use Rattle.udt_model.specs.Events.{Arrive}
use Rattle.udt_model.specs.Routes as routes
use Rattle.udt_world.specs.Views.{sight_of, view_of}
use Rattle.udt_world.specs.Wiring.{IsEndpoint, MayHappen, seen_at, sights_of}
use Rattle.udt_world.proofs.PushLemmas.{item_at}
use Rattle.udt_world.proofs.RouteLemmas.{may-hear, route_away, route_shown, socket-routed, stands}
use Rattle.udt_world.proofs.network.Network.route.Goals as goal

-- the ID is that of a socket
pub route_by-requires : goal.route_by-requires
route_by-requires g c = λ id is.
    let network = c.args.self.now in
    let known = item_at network.endpoints.items c.in-Some.place
    (omega (arith, network.endpoints.ok.0, c.requires.endpoint c.in-Some.place c.in-Some.is)) in
    let goes = c.destination.ensures.seen known.0 c.requires.wired known.1 in
    (stands (sights_of network) known.0.addr c.args.from c.args.bytes.now id (sym goes ∙ is)).some

-- no host has the address
pub returns-in-None-clause-value : goal.returns-in-None-clause-value
returns-in-None-clause-value g c = λ n to shows is.
    route_away g.C.Control.ways n (view_of c.args.self.now) shows c.args.from to c.args.bytes.now (rw c.in-None.is at is)

-- the endpoint there knows where it goes
pub returns-in-Some-clause-value : goal.returns-in-Some-clause-value
returns-in-Some-clause-value g c = λ n to shows is.
    let network = c.args.self.now in
    let there : IsEndpoint network (Some c.in-Some.place) to = rw c.in-Some.is at is in
    let goes = c.destination.ensures.seen there.0.endpoint c.requires.wired there.0.found in
    route_shown g.C.Control.ways n (view_of network) shows c.args.from to c.args.bytes.now c.destination.result c.route_by.result
    there.1
    (subst (λ (a : Addr). c.destination.result ≡ routes.route (seen_at (sights_of network) a) c.args.from c.args.bytes.now)
    there.0.addr_is goes)
    c.route_by.ensures

pub returns-in-Some-clause-within : goal.returns-in-Some-clause-within
returns-in-Some-clause-within g c = λ place is.
    let network = c.args.self.now in
    let known = item_at network.endpoints.items c.in-Some.place
    (omega (arith, network.endpoints.ok.0, c.requires.endpoint c.in-Some.place c.in-Some.is)) in
    let goes = c.destination.ensures.seen known.0 c.requires.wired known.1 in
    let so = socket-routed c.destination.result c.route_by.result place c.route_by.ensures is in
    let here = stands (sights_of network) known.0.addr c.args.from c.args.bytes.now so.0 (sym goes ∙ so.1) in
    omega (
      arith,
      so.2,
      slice_get_within (sights_of network) (so.0 - 1) here.sight here.at,
      network.sockets.ok.0,
      length-map network.sockets.items sight_of,
    )

-- and it may arrive there
pub returns-in-Some-clause-may : goal.returns-in-Some-clause-may
returns-in-Some-clause-may g c = λ to place there is.
    let network = c.args.self.now in
    let known = item_at network.endpoints.items c.in-Some.place
    (omega (arith, network.endpoints.ok.0, c.requires.endpoint c.in-Some.place c.in-Some.is)) in
    let goes = c.destination.ensures.seen known.0 c.requires.wired known.1 in
    let so = socket-routed c.destination.result c.route_by.result place c.route_by.ensures is in
    subst (λ (p : ℕ). MayHappen (sights_of network) p (Arrive c.args.from c.args.bytes.now)) (sym so.2)
    (may-hear (sights_of network) known.0.addr c.args.from c.args.bytes.now so.0 (sym goes ∙ so.1))
