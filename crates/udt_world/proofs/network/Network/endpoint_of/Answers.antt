use Rattle.std.proofs.Common.{◌-◌, sym, arith}
use Rattle.udt_world.proofs.EndpointLemmas.{endpoint-found, endpoint-last, endpoint-stands, endpoint-wired}
use Rattle.udt_world.proofs.network.Network.endpoint_of.Goals as goal

-- one has this address
pub returns-in-Some-clause-value : goal.returns-in-Some-clause-value
returns-in-Some-clause-value g c =
    endpoint-found c.args.self.now.endpoints.items c.args.addr c.in-Some.place (sym c.in-Some.ensures)

pub returns-in_ok-push-in-None-clause-value : goal.returns-in_ok-push-in-None-clause-value
returns-in_ok-push-in-None-clause-value g c =
    endpoint-last c.args.self.now c.push.new.self c.args.addr c.in_ok-endpoint-in-None.endpoint c.requires
    c.in_ok-push-in-None.ensures.items c.in_ok-endpoint-in-None.ensures.addr c.in_ok-endpoint-in-None.ensures.routes
    (sym c.in-None.ensures) (c.len.result - 1)
    (omega (arith, c.len.ensures, c.in_ok-push-in-None.ensures.len, c.args.self.now.endpoints.ok.0))

-- none had this address, and no socket stands there
pub returns-in_ok-push-in-None-clause-wired : goal.returns-in_ok-push-in-None-clause-wired
returns-in_ok-push-in-None-clause-wired g c =
    endpoint-wired c.args.self.now c.push.new.self c.args.addr c.in_ok-endpoint-in-None.endpoint c.requires
    c.in_ok-push-in-None.ensures.items c.in_ok-endpoint-in-None.ensures.addr c.in_ok-endpoint-in-None.ensures.routes (sym c.in-None.ensures)

pub returns-in_ok-push-in-None-clause-stands : goal.returns-in_ok-push-in-None-clause-stands
returns-in_ok-push-in-None-clause-stands g c =
    endpoint-stands c.args.self.now c.push.new.self c.args.addr c.in_ok-endpoint-in-None.endpoint c.requires
    c.in_ok-push-in-None.ensures.items c.in_ok-endpoint-in-None.ensures.addr c.in_ok-endpoint-in-None.ensures.routes (sym c.in-None.ensures)
