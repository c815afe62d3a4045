use Rattle.udt_world.specs.Views.{act_in}
use Rattle.udt_world.proofs.WiredLemmas.{event-endpoint, event-room, entered-wired, entered-stands}
use Rattle.udt_world.proofs.network.Network.event.Goals as goal

-- the endpoint of the socket is there, and has room
pub enter-requires-clause-endpoint : goal.enter-requires-clause-endpoint
enter-requires-clause-endpoint g c =
    let e = c.in_ok-reply.ensures.ok in
    event-endpoint g.C.Control.ways c.args.self.now c.react.new.self c.args.place c.args.now (act_in c.args.act.now) e.sight
    c.requires.wired c.requires.may e.found e.sockets c.in_ok-reply.ensures.kept

pub enter-requires-clause-room : goal.enter-requires-clause-room
enter-requires-clause-room g c =
    let e = c.in_ok-reply.ensures.ok in
    event-room g.C.Control.ways c.args.self.now c.react.new.self c.args.place c.args.now (act_in c.args.act.now) e.sight
    c.requires.wired c.requires.may e.found e.sockets c.in_ok-reply.ensures.kept

-- so they fit together once it was told
pub returns-clause-wired : goal.returns-clause-wired
returns-clause-wired g c =
    let e = c.in_ok-reply.ensures.ok in
    entered-wired g.C.Control.ways c.args.self.now c.react.new.self c.args.place c.args.now (act_in c.args.act.now) e.sight
    c.requires.wired c.requires.may e.found e.sockets c.in_ok-reply.ensures.kept c.enter.new.self c.enter.ensures.kept c.enter.ensures.told

pub returns-clause-stands : goal.returns-clause-stands
returns-clause-stands g c =
    let e = c.in_ok-reply.ensures.ok in
    entered-stands g.C.Control.ways c.args.self.now c.react.new.self c.args.place c.args.now (act_in c.args.act.now) e.sight
    c.requires.wired c.requires.may e.found e.sockets c.in_ok-reply.ensures.kept c.enter.new.self c.enter.ensures.kept c.enter.ensures.told
