use Rattle.std.proofs.Common.{List, Some, cond, length, refl, ap, ◌∙◌, sym, arith}
use Rattle.std.specs.Prelude.{slice_get}
use Rattle.std.specs.Map.{lookup}
use Rattle.std.proofs.lemmas.Option.{slice_get_read, slice_get_within}
use Rattle.udt_model.specs.Words.{is_word}
use Rattle.udt_world.specs.declared.network.Network.{Network}
use Rattle.udt_world.specs.Wiring.{IsWired, KeepsAddresses, place_under}
use Rattle.udt_world.proofs.AddLemmas.{room-added, was-added}
use Rattle.udt_world.proofs.NameLemmas.{is_named, kept_after}
use Rattle.udt_world.proofs.network.Network.add.Goals as goal

-- the endpoint has room for the pair of the socket
pub enter-requires-clause-room : goal.enter-requires-clause-room
enter-requires-clause-room g c = λ later e at found none.
    let network = c.args.self.now in
    let socket = c.args.socket in
    let home = c.index_mut.result.now in
    let read = slice_get_read network.endpoints.items (length network.endpoints.items) socket.endpoint home refl
    (slice_get_within network.endpoints.items socket.endpoint c.requires.new.stands.endpoint c.requires.new.stands.found)
    c.index_mut.ensures.value in
    room-added network socket c.requires.wired c.requires.new home read c.len-place.result
    (omega (arith, c.len-place.ensures, network.sockets.ok.0)) (omega (arith, network.sockets.ok.0))
    c.enrol.new.self c.enrol.result c.enrol.ensures.exact c.enrol.ensures.table later e
    (ap (λ (l : List _). slice_get l c.len-place.result) (sym c.in_ok-push.ensures.items) ∙ at) found

-- once it is told, all fits together
was_added : (g : _) (c : goal.After-enter g) → IsWired c.enter.new.self × KeepsAddresses c.args.self.now c.enter.new.self
was_added g c =
    let network = c.args.self.now in
    let socket = c.args.socket in
    let home = c.index_mut.result.now in
    let read = slice_get_read network.endpoints.items (length network.endpoints.items) socket.endpoint home refl
    (slice_get_within network.endpoints.items socket.endpoint c.requires.new.stands.endpoint c.requires.new.stands.found)
    c.index_mut.ensures.value in
    was-added network socket c.requires.wired c.requires.new home read c.len-place.result
    (omega (arith, c.len-place.ensures, network.sockets.ok.0)) (omega (arith, network.sockets.ok.0))
    c.enrol.new.self c.enrol.result c.enrol.ensures.exact c.enrol.ensures.table c.enter.new.self
    (ap (λ (n : Network _). n.sockets.items) c.enter.ensures.kept ∙ c.in_ok-push.ensures.items)
    (ap (λ (n : Network _). n.sockets.len) c.enter.ensures.kept ∙ c.in_ok-push.ensures.len)
    (ap (λ (n : Network _). n.hosts) c.enter.ensures.kept)
    (λ name. ap (λ (n : Network _). place_under n name) c.enter.ensures.kept
    ∙ (kept_after network.names c.insert.new.self c.in_ok-name.name.items (Some c.len-place.result) c.in_ok-insert.ensures.updates name
    ∙ ap (λ (word : List _). cond (is_word word name) (Some c.len-place.result) (lookup (is_named name) network.names.entries))
    (c.in_ok-name.ensures.items ∙ c.deref.ensures.value)))
    (λ later e at found. c.enter.ensures.told later e
    (ap (λ (l : List _). slice_get l c.len-place.result) c.in_ok-push.ensures.items ∙ at) found)

pub returns-clause-wired : goal.returns-clause-wired
returns-clause-wired g c = (was_added g c).0

pub returns-clause-stands : goal.returns-clause-stands
returns-clause-stands g c = (was_added g c).1
