use Rattle.std.proofs.Common.{map, arith}
use Rattle.std.proofs.lemmas.List.{length-map}
use Rattle.udt_model.specs.Events.{Arrive}
use Rattle.udt_script.specs.CodeLines.{datagram_of}
use Rattle.udt_world.proofs.PushLemmas.{item_at}
use Rattle.udt_world.proofs.WiredLemmas.{event-endpoint, event-room, entered-wired}
use Rattle.udt_world.proofs.network.Network.hear.Goals as goal

-- the endpoint of the socket is there, and has room
pub enter-requires-clause-endpoint : goal.enter-requires-clause-endpoint
enter-requires-clause-endpoint g c =
    let network = c.args.self.now in
    let d = item_at (map datagram_of network.datagrams.items) c.args.number (omega (arith, length-map network.datagrams.items datagram_of, network.datagrams.ok.0, c.requires.number)) in
    let e = c.in_ok-take_in.ensures.moves d.0 d.1 in
    event-endpoint g.C.Control.ways network c.take_in.new.self c.args.place c.args.now (Arrive d.0.from d.0.bytes) e.sight
    c.requires.wired (c.requires.may d.0 d.1) e.found e.sockets c.in_ok-take_in.ensures.kept

pub enter-requires-clause-room : goal.enter-requires-clause-room
enter-requires-clause-room g c =
    let network = c.args.self.now in
    let d = item_at (map datagram_of network.datagrams.items) c.args.number (omega (arith, length-map network.datagrams.items datagram_of, network.datagrams.ok.0, c.requires.number)) in
    let e = c.in_ok-take_in.ensures.moves d.0 d.1 in
    event-room g.C.Control.ways network c.take_in.new.self c.args.place c.args.now (Arrive d.0.from d.0.bytes) e.sight
    c.requires.wired (c.requires.may d.0 d.1) e.found e.sockets c.in_ok-take_in.ensures.kept

-- so they fit together once it was told
pub returns-clause-wired : goal.returns-clause-wired
returns-clause-wired g c =
    let network = c.args.self.now in
    let d = item_at (map datagram_of network.datagrams.items) c.args.number (omega (arith, length-map network.datagrams.items datagram_of, network.datagrams.ok.0, c.requires.number)) in
    let e = c.in_ok-take_in.ensures.moves d.0 d.1 in
    entered-wired g.C.Control.ways network c.take_in.new.self c.args.place c.args.now (Arrive d.0.from d.0.bytes) e.sight
    c.requires.wired (c.requires.may d.0 d.1) e.found e.sockets c.in_ok-take_in.ensures.kept c.enter.new.self c.enter.ensures.kept c.enter.ensures.told
