-- Addresses that test as the same are equal.
use Rattle.std.proofs.Common.{◌≡◌, ℕ, true, ap}
use Rattle.std.proofs.lemmas.Bool.{eqb-true, and_parts}
use Rattle.udt_model.specs.declared.addresses.Addr.{Addr}
use Rattle.udt_model.specs.declared.addresses.Ip.{Ip}
use Rattle.udt_model.specs.declared.addresses.Ip.TheVariants.{V4, V6}
use Rattle.udt_model.specs.Addresses.{same_ip, same_addr}

pub same_ip-is : (a b : Ip) → same_ip a b ≡ true → a ≡ b
same_ip-is (V4 a) (V4 b) same = ap V4 (eqb-true a b same)
same_ip-is (V6 a) (V6 b) same = ap V6 (eqb-true a b same)
same_ip-is (V4 a) (V6 b) same = absurd (cc)
same_ip-is (V6 a) (V4 b) same = absurd (cc)

addr_from : Ip → ℕ → Addr
addr_from ip port = record { ip = ip; port = port }

addr_from-same : (a b : Ip) (m n : ℕ) → a ≡ b → m ≡ n → addr_from a m ≡ addr_from b n
addr_from-same a b m n ip port = cc

pub same_addr-is : (a b : Addr) → same_addr a b ≡ true → a ≡ b
unfolding addr_from
same_addr-is a b same =
    let parts = and_parts (same_ip a.ip b.ip) _ same in
    addr_from-same a.ip b.ip a.port b.port (same_ip-is a.ip b.ip parts.0) (eqb-true a.port b.port parts.1)
