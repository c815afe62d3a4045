-- The protocol's addresses as the system has them.
use Rattle.std.specs.declared.net.ip_addr.IpAddr.{IpAddr}
use Rattle.std.specs.declared.net.ip_addr.IpAddr.TheVariants as system
use Rattle.std.specs.declared.net.socket_addr.SocketAddr.{SocketAddr}
use Rattle.std.specs.Net.Addr.{ipv4_bits, ipv6_bits}
use Rattle.std.specs.Net.Socket.{socket_ip, socket_port}
use Rattle.udt_model.specs.declared.addresses.Ip.{Ip}
use Rattle.udt_model.specs.declared.addresses.Ip.TheVariants as ip
use Rattle.udt_model.specs.declared.addresses.Addr.{Addr}

-- the IP address of the same bits, of the same family
abbrev pub ip_of : IpAddr → Ip
ip_of (system.V4 a) = ip.V4 (ipv4_bits a)
ip_of (system.V6 a) = ip.V6 (ipv6_bits a)

-- the address of the same IP address and port. The flow label and the scope of an IPv6 address are left out
abbrev pub addr_of : SocketAddr → Addr
addr_of a = record { ip = ip_of (socket_ip a); port = socket_port a }
