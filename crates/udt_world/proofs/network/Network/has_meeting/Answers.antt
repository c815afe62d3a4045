use Rattle.std.proofs.Common.{length, is_some, refl, ap, ◌∙◌, sym, arith}
use Rattle.std.proofs.lemmas.Option.{slice_get_read}
use Rattle.udt_world.proofs.CallLemmas.{endpoint-within, meeting-seen, some-mapped, first-holds, then-asked, none-asked}
use Rattle.udt_world.proofs.network.Network.has_meeting.Goals as goal

-- the endpoint of the socket is there
pub index-requires : goal.index-requires
index-requires g c =
    let network = c.args.self.now in
    let socket = c.index-socket.result.now in
    let read = slice_get_read network.sockets.items (length network.sockets.items) c.args.place socket refl
    (omega (arith, network.sockets.ok.0, c.requires.place)) c.index-socket.ensures in
    endpoint-within network c.args.place socket c.requires.wired read

-- a socket of its host meets the address
pub returns-then-is_some : goal.returns-then-is_some
returns-then-is_some g c = λ sight there.
    let network = c.args.self.now in
    let socket = c.index-socket.result.now in
    let read = slice_get_read network.sockets.items (length network.sockets.items) c.args.place socket refl
    (omega (arith, network.sockets.ok.0, c.requires.place)) c.index-socket.ensures in
    let found = slice_get_read network.endpoints.items (length network.endpoints.items) socket.endpoint c.index.result.now refl
    (omega (arith, network.endpoints.ok.0, endpoint-within network c.args.place socket c.requires.wired read)) c.index.ensures in
    let seen = meeting-seen network c.requires.wired c.args.place socket c.index.result.now read found sight there c.args.to in
    first-holds c.is_some.result _ _ (c.is_some.ensures ∙ ap (λ o. is_some o) c.meeting.ensures.value) c.if-is_some.true ∙ seen

-- this one met an address, and may be closed
pub returns-then-is_some-2 : goal.returns-then-is_some-2
returns-then-is_some-2 g c = λ sight there.
    let network = c.args.self.now in
    let socket = c.index-socket.result.now in
    let read = slice_get_read network.sockets.items (length network.sockets.items) c.args.place socket refl
    (omega (arith, network.sockets.ok.0, c.requires.place)) c.index-socket.ensures in
    let found = slice_get_read network.endpoints.items (length network.endpoints.items) socket.endpoint c.index.result.now refl
    (omega (arith, network.endpoints.ok.0, endpoint-within network c.args.place socket c.requires.wired read)) c.index.ensures in
    let seen = meeting-seen network c.requires.wired c.args.place socket c.index.result.now read found sight there c.args.to in
    let none = sym c.if-is_some.false ∙ (c.is_some.ensures ∙ ap (λ o. is_some o) c.meeting.ensures.value) in
    let some = sym c.if-is_some-2.true ∙ c.is_some-else-is_some.ensures in
    let enrolled = c.is_some-then-is_some-2.ensures ∙ (sym (some-mapped (λ x. x.now) c.route.result)
    ∙ ap (λ o. is_some o) (rw c.own.ensures at c.route.ensures)) in
    then-asked _ _ c.is_some-then-is_some-2.result none some ∙ (rw enrolled seen)

-- it met none
pub returns-else-is_some-2 : goal.returns-else-is_some-2
returns-else-is_some-2 g c = λ sight there.
    let network = c.args.self.now in
    let socket = c.index-socket.result.now in
    let read = slice_get_read network.sockets.items (length network.sockets.items) c.args.place socket refl
    (omega (arith, network.sockets.ok.0, c.requires.place)) c.index-socket.ensures in
    let found = slice_get_read network.endpoints.items (length network.endpoints.items) socket.endpoint c.index.result.now refl
    (omega (arith, network.endpoints.ok.0, endpoint-within network c.args.place socket c.requires.wired read)) c.index.ensures in
    let seen = meeting-seen network c.requires.wired c.args.place socket c.index.result.now read found sight there c.args.to in
    let none = sym c.if-is_some.false ∙ (c.is_some.ensures ∙ ap (λ o. is_some o) c.meeting.ensures.value) in
    let other = sym c.if-is_some-2.false ∙ c.is_some-else-is_some.ensures in
    rw c.if-is_some-2.false (none-asked _ _ _ none other ∙ seen)
