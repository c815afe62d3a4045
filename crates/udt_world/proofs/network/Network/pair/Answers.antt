use Rattle.std.proofs.Common.{◌+◌, ◌≤◌, refl, ap, ◌∙◌, sym, arith}
use Rattle.std.proofs.lemmas.List.{length-map}
use Rattle.std.specs.Prelude.{vec_len}
use Rattle.udt_model.specs.declared.limits.TheConstants.{MOST_SOCKETS}
use Rattle.udt_model.specs.Network.{first_host, second_host}
use Rattle.udt_script.specs.CodeLines.{pairing_of}
use Rattle.udt_world.specs.declared.network.Network.{Network}
use Rattle.udt_world.specs.Views.{sight_of, view_of}
use Rattle.udt_world.specs.Wiring.{new_sight, place_seen, sights_of}
use Rattle.udt_world.proofs.NewLemmas.{added-seen, first-new, pair-does, second-new, unseen-more}
use Rattle.udt_world.proofs.PromiseLemmas.{count-more}
use Rattle.udt_world.proofs.network.Network.pair.Goals as goal

-- the first socket is as one that is opened, under a new name
pub add-requires-clause-new : goal.add-requires-clause-new
add-requires-clause-new g c =
    let p = c.args.pairing.now in
    let network = c.endpoint_of-2.new.self in
    let kept = c.in_ok-there.ensures.kept
    ∙ ap (λ (m : Network _). record m { endpoints = network.endpoints }) c.in_ok-here.ensures.kept in
    let count = ap (λ (m : Network _). vec_len m.sockets) kept in
    let may = c.if-not-may_pair.false in
    let room : vec_len c.args.self.now.sockets + 2 ≤ MOST_SOCKETS = c.may_pair.ensures.room may in
    let sight = c.in_ok-named.ensures.sight ∙ ap (new_sight p.a.now first_host) c.in_ok-a.ensures in
    first-new g.C.Control.ways network c.in_ok-there.ensures.wired c.in_ok-named.field-0 c.in_ok-here.here
    (c.len-count.result + 1) (c.len-count.result + 2) c.in_ok-named.ensures.endpoint
    (omega (arith, room, count)) (omega (arith, c.len-count.ensures, count)) (pairing_of p)
    (c.in_ok-there.ensures.stands c.in_ok-here.here first_host c.in_ok-here.ensures.value) sight
    (ap (λ (m : Network _). place_seen (sights_of m) p.a.now) kept ∙ c.may_pair.ensures.first may)
    c.requires.first (omega (arith, c.len-count.ensures, count))

-- and the second, once the first was added
pub add-requires-2-clause-new : goal.add-requires-2-clause-new
add-requires-2-clause-new g c =
    let p = c.args.pairing.now in
    let old = c.args.self.now in
    let mid = c.endpoint_of-2.new.self in
    let network = c.add.new.self in
    let kept = c.in_ok-there.ensures.kept
    ∙ ap (λ (m : Network _). record m { endpoints = mid.endpoints }) c.in_ok-here.ensures.kept in
    let may = c.if-not-may_pair.false in
    let room : vec_len old.sockets + 2 ≤ MOST_SOCKETS = c.may_pair.ensures.room may in
    let sight = c.in_ok-named.ensures.sight ∙ ap (new_sight p.a.now first_host) c.in_ok-a.ensures in
    let seen = added-seen old network mid c.in_ok-named.field-0 _ kept c.in_ok-add.ensures.view sight in
    let count = ap (λ (m : Network _). vec_len m.sockets) kept in
    let more = count-more mid network c.in_ok-named.field-0 c.in_ok-add.ensures.view in
    second-new g.C.Control.ways network c.in_ok-add.ensures.wired c.in_ok-named-2.field-0 c.in_ok-there.there
    (c.len-count.result + 2) (c.len-count.result + 1) c.in_ok-named-2.ensures.endpoint
    (omega (arith, room, count, more)) (omega (arith, c.len-count.ensures, count, more)) (pairing_of p)
    (c.in_ok-add.ensures.stands c.in_ok-there.there second_host c.in_ok-there.ensures.value)
    (c.in_ok-named-2.ensures.sight ∙ ap (new_sight p.b.now second_host) c.in_ok-b.ensures)
    (unseen-more old network _ seen p.b.now (c.may_pair.ensures.second may) (c.may_pair.ensures.apart may))
    c.requires.second (omega (arith, c.len-count.ensures, count, more))

-- a line that makes a pair does so
pub returns-clause-done : goal.returns-clause-done
returns-clause-done g c = λ n shows.
    let p = c.args.pairing.now in
    let old = c.args.self.now in
    let mid = c.endpoint_of-2.new.self in
    let first = c.add.new.self in
    let kept = c.in_ok-there.ensures.kept
    ∙ ap (λ (m : Network _). record m { endpoints = mid.endpoints }) c.in_ok-here.ensures.kept in
    pair-does g.C.Control.ways n (pairing_of p) (view_of old) (view_of first) (view_of c.add-2.new.self) c.len-count.result
    c.args.out.now.items c.print_pair.new.out.items shows (sym (c.may_pair.ensures.may n shows) ∙ c.if-not-may_pair.false)
    (omega (arith, c.len-count.ensures, old.sockets.ok.0, length-map old.sockets.items sight_of))
    (added-seen old first mid c.in_ok-named.field-0 _ kept c.in_ok-add.ensures.view
    (c.in_ok-named.ensures.sight ∙ ap (new_sight p.a.now first_host) c.in_ok-a.ensures))
    (added-seen first c.add-2.new.self first c.in_ok-named-2.field-0 _ refl c.in_ok-add-2.ensures.view
    (c.in_ok-named-2.ensures.sight ∙ ap (new_sight p.b.now second_host) c.in_ok-b.ensures))
    c.in_ok-print_pair.ensures.ok
