-- Addresses in an order.
use Rattle.std.specs.Prelude.{ℕ, ◌==◌, Bool, ◌&&◌}
use Rattle.std.specs.declared.cmp.Ordering.{Ordering}
use Rattle.std.specs.Ordering.{nat_cmp, ordering_then}
use Rattle.udt_model.specs.declared.addresses.Addr.{Addr}
use Rattle.udt_model.specs.declared.addresses.Ip.{Ip}
use Rattle.udt_model.specs.declared.addresses.Ip.TheVariants.{V4, V6}

-- which kind of IP address, its bits, and the port
abbrev pub AddrKey : Type 0
AddrKey = ℕ × ℕ × ℕ

abbrev pub ip_key_of : Ip → ℕ → AddrKey
ip_key_of (V4 bits) port = (4, bits, port)
ip_key_of (V6 bits) port = (6, bits, port)

abbrev pub key_of : Addr → AddrKey
key_of addr = ip_key_of addr.ip addr.port

-- V4 comes first, then the lesser bits, then the lesser port
abbrev pub key_cmp : AddrKey → AddrKey → Ordering
key_cmp a b = ordering_then (ordering_then (nat_cmp a.0 b.0) (nat_cmp a.1 b.1)) (nat_cmp a.2 b.2)

-- an address, and the ID of a socket there
abbrev pub PairKey : Type 0
PairKey = AddrKey × ℕ

abbrev pub pair_key_of : Addr × ℕ → PairKey
pair_key_of pair = (key_of pair.0, pair.1)

-- the keys are of the same pair
abbrev pub same_pair_key : PairKey → PairKey → Bool
same_pair_key a b = ((a.0.0 == b.0.0 && a.0.1 == b.0.1) && a.0.2 == b.0.2) && a.1 == b.1
