use Rattle.std.proofs.Common.{◌≡◌, false, ◌∙◌, sym}
use Rattle.udt_model.specs.Addresses.{same_addr}
use Rattle.udt_model.specs.Network.{first_host, second_host}
use Rattle.udt_world.proofs.HostLemmas.{host_found}
use Rattle.udt_world.proofs.network.Network.is_host.Goals as goal

-- it is none of the two of paired sockets
pub returns : goal.returns
returns g c =
    let one : same_addr c.args.addr first_host ≡ false = sym c.is_same.ensures ∙ c.if-is_same.false in
    let two : same_addr c.args.addr second_host ≡ false = sym c.is_same-2.ensures ∙ c.if-is_same-2.false in
    rw (one, two, c.is_some.ensures, c.host_at.ensures) (host_found c.args.self.now.hosts.items c.args.addr)
