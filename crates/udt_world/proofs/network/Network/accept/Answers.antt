use Rattle.std.proofs.Common.{length, refl, ◌∙◌, sym, arith}
use Rattle.std.proofs.lemmas.List.{length-map, map-set}
use Rattle.std.proofs.lemmas.Option.{slice_get_read}
use Rattle.udt_world.specs.Views.{sight_of, view_of}
use Rattle.udt_world.proofs.AcceptLemmas.{accept_moves, accept_named, accept_refused, accepts_waiting, count_with, named_with, view_with}
use Rattle.udt_world.proofs.AlikeLemmas.{accept-keeps, alike-wired}
use Rattle.udt_world.proofs.WiredLemmas.{sight-at}
use Rattle.udt_world.proofs.network.Network.accept.Goals as goal

-- the sockets and the endpoints fit together once the socket gave a connection
pub rename-requires-clause-wired : goal.rename-requires-clause-wired
rename-requires-clause-wired g c =
    let network = c.args.self.now in
    let socket = c.index_mut.result.now in
    let read = slice_get_read network.sockets.items (length network.sockets.items) c.in-Some.place socket refl
    (omega (arith, network.sockets.ok.0, c.in-Some.ensures.within)) c.index_mut.ensures.value in
    alike-wired network _ c.in-Some.place socket c.accept.new.self c.requires.wired read
    (rw c.accept.ensures.after (accept-keeps g.C.Control.ways socket.socket c.args.now)) refl
    (map-set sight_of network.sockets.items c.in-Some.place (record socket { socket = c.accept.new.self })) refl refl refl refl

-- which is a socket
pub rename-requires-clause-id : goal.rename-requires-clause-id
rename-requires-clause-id g c =
    let network = c.args.self.now in
    let socket = c.index_mut.result.now in
    let read = slice_get_read network.sockets.items (length network.sockets.items) c.in-Some.place socket refl
    (omega (arith, network.sockets.ok.0, c.in-Some.ensures.within)) c.index_mut.ensures.value in
    let waited = c.requires.wired.waits c.in-Some.place c.in-Ok.id (sight_of socket)
    (sight-at network c.in-Some.place socket read)
    (accepts_waiting g.C.Control.ways socket.socket c.args.now c.in-Ok.id c.in-Ok.ensures.reply) in
    waited.0

pub rename-requires-clause-within : goal.rename-requires-clause-within
rename-requires-clause-within g c =
    let network = c.args.self.now in
    let socket = c.index_mut.result.now in
    let read = slice_get_read network.sockets.items (length network.sockets.items) c.in-Some.place socket refl
    (omega (arith, network.sockets.ok.0, c.in-Some.ensures.within)) c.index_mut.ensures.value in
    let waited = c.requires.wired.waits c.in-Some.place c.in-Ok.id (sight_of socket)
    (sight-at network c.in-Some.place socket read)
    (accepts_waiting g.C.Control.ways socket.socket c.args.now c.in-Ok.id c.in-Ok.ensures.reply) in
    omega (arith, waited.1, network.sockets.ok.0, length-map network.sockets.items sight_of)

-- and the name is new still
pub rename-requires-clause-name : goal.rename-requires-clause-name
rename-requires-clause-name g c =
    let network = c.args.self.now in
    let socket = c.index_mut.result.now in
    let read = slice_get_read network.sockets.items (length network.sockets.items) c.in-Some.place socket refl
    (omega (arith, network.sockets.ok.0, c.in-Some.ensures.within)) c.index_mut.ensures.value in
    named_with network c.in-Some.place socket c.accept.new.self c.args.accepted.now read
    ∙ c.is_taken.ensures.free c.if-is_taken.false

-- the connection gets its name
pub returns-in_ok-print_accept-in-Ok-clause-done : goal.returns-in_ok-print_accept-in-Ok-clause-done
returns-in_ok-print_accept-in-Ok-clause-done g c = λ n shows.
    let network = c.args.self.now in
    let socket = c.index_mut.result.now in
    let read = slice_get_read network.sockets.items (length network.sockets.items) c.in-Some.place socket refl
    (omega (arith, network.sockets.ok.0, c.in-Some.ensures.within)) c.index_mut.ensures.value in
    let waited = c.requires.wired.waits c.in-Some.place c.in-Ok.id (sight_of socket)
    (sight-at network c.in-Some.place socket read)
    (accepts_waiting g.C.Control.ways socket.socket c.args.now c.in-Ok.id c.in-Ok.ensures.reply) in
    let free = sym c.if-is_taken.false ∙ c.is_taken.ensures.value n shows in
    let at = sym c.in-Some.is ∙ c.place_of.ensures.value n shows in
    let moves = accept_moves g.C.Control.ways network c.in-Some.place c.args.now socket c.accept.new.self c.accept.result
    c.accept.ensures.after c.accept.ensures.reply read in
    accept_named g.C.Control.ways n (view_of network) (view_with network c.in-Some.place socket c.accept.new.self) shows
    c.args.name.now c.args.accepted.now c.args.now c.in-Some.place (sight_of socket) free at
    (sight-at network c.in-Some.place socket read) moves c.in-Ok.id (view_of c.rename.new.self)
    c.args.out.now.items c.print_accept.new.out.items c.in-Ok.ensures.reply waited.0
    (omega (arith, waited.1, count_with network c.in-Some.place socket c.accept.new.self))
    c.in_ok-rename-in-Ok.ensures.view c.in_ok-print_accept-in-Ok.ensures.ok

-- the socket refused
pub returns-in_ok-print_reply-in-Err-clause-done : goal.returns-in_ok-print_reply-in-Err-clause-done
returns-in_ok-print_reply-in-Err-clause-done g c = λ n shows.
    let network = c.args.self.now in
    let socket = c.index_mut.result.now in
    let read = slice_get_read network.sockets.items (length network.sockets.items) c.in-Some.place socket refl
    (omega (arith, network.sockets.ok.0, c.in-Some.ensures.within)) c.index_mut.ensures.value in
    let free = sym c.if-is_taken.false ∙ c.is_taken.ensures.value n shows in
    let at = sym c.in-Some.is ∙ c.place_of.ensures.value n shows in
    let moves = accept_moves g.C.Control.ways network c.in-Some.place c.args.now socket c.accept.new.self c.accept.result
    c.accept.ensures.after c.accept.ensures.reply read in
    accept_refused g.C.Control.ways n (view_of network) (view_with network c.in-Some.place socket c.accept.new.self) shows
    c.args.name.now c.args.accepted.now c.args.now c.in-Some.place (sight_of socket) free at
    (sight-at network c.in-Some.place socket read) moves c.in-Err.why
    c.args.out.now.items c.print_reply.new.out.items c.in-Err.ensures.reply c.in_ok-print_reply-in-Err.ensures.ok

pub returns-in_ok-print_reply-in-Err-clause-wired : goal.returns-in_ok-print_reply-in-Err-clause-wired
returns-in_ok-print_reply-in-Err-clause-wired g c =
    let network = c.args.self.now in
    let socket = c.index_mut.result.now in
    let read = slice_get_read network.sockets.items (length network.sockets.items) c.in-Some.place socket refl
    (omega (arith, network.sockets.ok.0, c.in-Some.ensures.within)) c.index_mut.ensures.value in
    alike-wired network _ c.in-Some.place socket c.accept.new.self c.requires.wired read
    (rw c.accept.ensures.after (accept-keeps g.C.Control.ways socket.socket c.args.now)) refl
    (map-set sight_of network.sockets.items c.in-Some.place (record socket { socket = c.accept.new.self })) refl refl refl refl
