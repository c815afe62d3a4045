use Rattle.std.proofs.Common.{length, refl, sym, arith}
use Rattle.std.proofs.lemmas.Option.{slice_get_read}
use Rattle.udt_world.proofs.HostLemmas.{named_at, none_named}
use Rattle.udt_world.proofs.network.Network.host_named.Goals as goal

-- the host is found
pub returns-in-Some : goal.returns-in-Some
returns-in-Some g c =
    let hosts = c.args.self.now.hosts in
    let host = c.index.result.now in
    let found = slice_get_read hosts.items (length hosts.items) c.in-Some.place host refl (omega (arith, hosts.ok.0, c.in-Some.ensures.within)) c.index.ensures in
    sym (named_at hosts.items c.args.name.now c.in-Some.place host (sym c.in-Some.ensures.value) found)

-- no host has the name
pub returns-in-None : goal.returns-in-None
returns-in-None g c = sym (none_named c.args.self.now.hosts.items c.args.name.now (sym c.in-None.ensures.value))
