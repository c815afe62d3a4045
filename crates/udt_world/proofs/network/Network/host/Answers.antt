use Rattle.std.proofs.Common.{map}
use Rattle.udt_world.specs.Views.{host_of}
use Rattle.udt_world.proofs.OpeningLemmas.{host-wired, not-fixed}
use Rattle.udt_world.proofs.network.Network.host.Goals as goal

-- a new host is none of the hosts of pairs
pub returns-clause-wired : goal.returns-clause-wired
returns-clause-wired g c =
    let free = not-fixed (map host_of c.args.self.now.hosts.items) c.args.addr (c.may_host.ensures.free c.if-not-may_host.false) in
    host-wired c.endpoint_of.new.self c.push.new.self _ c.in_ok-endpoint_of.ensures.wired
    c.in_ok-push.ensures.items free
