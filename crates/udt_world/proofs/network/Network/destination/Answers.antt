use Rattle.std.proofs.Common.{◌≡◌, length, refl, ◌∙◌, sym, arith}
use Rattle.std.proofs.lemmas.Option.{same_Some, slice_get_read}
use Rattle.udt_routes.specs.Pairs.{adopter_of}
use Rattle.udt_routes.specs.Routing.{found_in, known_by, route as table_route}
use Rattle.udt_world.specs.Wiring.{seen_at, sights_of}
use Rattle.udt_world.proofs.KnownLemmas.{destination_known, route_same}
use Rattle.udt_world.proofs.network.Network.destination.Goals as goal

-- the endpoint's table knows what is seen of the sockets
pub returns-clause-value : goal.returns-clause-value
returns-clause-value g c = λ n known shows wired there.
    let endpoints = c.args.self.now.endpoints in
    let read = slice_get_read endpoints.items (length endpoints.items) c.args.endpoint c.index.result.now refl (omega (arith, endpoints.ok.0, c.requires)) c.index.ensures in
    let same : known ≡ c.index.result.now = same_Some _ _ (sym there ∙ read) in
    rw (same, c.destination_of.ensures)
    (destination_known g.C.Control.ways n.sockets c.index.result.now.addr c.index.result.now.routes (sights_of c.args.self.now) c.args.from c.args.bytes.now
    (wired.knows c.args.endpoint c.index.result.now read) shows.sockets_are)

-- and so goes where what is seen tells
pub returns-clause-seen : goal.returns-clause-seen
unfolding table_route
returns-clause-seen g c = λ known wired there.
    let endpoints = c.args.self.now.endpoints in
    let read = slice_get_read endpoints.items (length endpoints.items) c.args.endpoint c.index.result.now refl
    (omega (arith, endpoints.ok.0, c.requires)) c.index.ensures in
    let same : known ≡ c.index.result.now = same_Some _ _ (sym there ∙ read) in
    let t = c.index.result.now.routes in
    rw (same, c.destination_of.ensures)
    (route_same (known_by (found_in t) (adopter_of t.adoptions)) (seen_at (sights_of c.args.self.now) c.index.result.now.addr)
    (wired.knows c.args.endpoint c.index.result.now read).same c.args.from c.args.bytes.now)
