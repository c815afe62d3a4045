use Rattle.std.proofs.Common.{length, is_some, refl, ap, ◌∙◌, arith}
use Rattle.std.proofs.lemmas.Option.{slice_get_read}
use Rattle.udt_world.proofs.CallLemmas.{endpoint-within, listener-seen}
use Rattle.udt_world.proofs.network.Network.has_listener.Goals as goal

-- the endpoint of the socket is there
pub index-requires : goal.index-requires
index-requires g c =
    let network = c.args.self.now in
    let socket = c.index-socket.result.now in
    let read = slice_get_read network.sockets.items (length network.sockets.items) c.args.place socket refl
    (omega (arith, network.sockets.ok.0, c.requires.place)) c.index-socket.ensures in
    endpoint-within network c.args.place socket c.requires.wired read

-- and knows whether a socket of its host listens
pub returns : goal.returns
returns g c = λ sight there.
    let network = c.args.self.now in
    let socket = c.index-socket.result.now in
    let read = slice_get_read network.sockets.items (length network.sockets.items) c.args.place socket refl
    (omega (arith, network.sockets.ok.0, c.requires.place)) c.index-socket.ensures in
    let found = slice_get_read network.endpoints.items (length network.endpoints.items) socket.endpoint c.index.result.now refl
    (omega (arith, network.endpoints.ok.0, endpoint-within network c.args.place socket c.requires.wired read)) c.index.ensures in
    c.is_some.ensures ∙ (ap (λ o. is_some o) c.listener.ensures
    ∙ listener-seen network c.requires.wired c.args.place socket c.index.result.now read found sight there)
