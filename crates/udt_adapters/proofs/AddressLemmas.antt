-- The address of given bits has these bits.
use Rattle.std.proofs.Common.{◌≡◌, ℕ, zero, suc, ◌+◌, ◌*◌, ◌/◌, ◌%◌, ◌^◌, ◌<◌, ◌∷◌, refl, ap, ◌∙◌, w32, arith}
use native.Mathlib.Nat as nat
use Rattle.std.proofs.lemmas.Nat.{from_be_bytes-to_be_bytes_4}
use Rattle.std.specs.Int.{w128, byte_at, bytes_high_first, from_be_bytes, to_be_bytes}
use Rattle.std.specs.Net.Addr.{segments_of, octets_of, ipv4_bits, ipv6_bits, IsIpv4OfBits, IsIpv6OfBits}
use Rattle.std.specs.declared.net.ipv4_addr.Ipv4Addr.{Ipv4Addr}
use Rattle.std.specs.declared.net.ipv6_addr.Ipv6Addr.{Ipv6Addr}

-- an IPv4 address
pub bits_of_v4 : (a : Ipv4Addr) (bits : ℕ) → bits < 2 ^ 32 → IsIpv4OfBits a bits → ipv4_bits a ≡ bits
unfolding IsIpv4OfBits ipv4_bits
bits_of_v4 a bits fits is = ap (from_be_bytes w32) is ∙ from_be_bytes-to_be_bytes_4 bits fits

-- each byte of a number is below 256
byte_at-lt : (i n : ℕ) → byte_at i n < 256
byte_at-lt zero n = omega arith
byte_at-lt (suc i) n = omega arith

abbrev twice : ℕ → ℕ
twice zero = zero
twice (suc k) = suc (suc (twice k))

-- bytes that were joined in pairs are taken apart again
octets_of-segments_of : (k n : ℕ)
    → octets_of (segments_of (bytes_high_first (twice k) n)) ≡ bytes_high_first (twice k) n
octets_of-segments_of zero n = refl
octets_of-segments_of (suc k) n =
    let high : ℕ = byte_at (suc (twice k)) n in
    let low : ℕ = byte_at (twice k) n in
    let at_high : (high * 256 + low) / 256 ≡ high = omega (arith, byte_at-lt (twice k) n) in
    let at_low : (high * 256 + low) % 256 ≡ low = omega (arith, byte_at-lt (twice k) n) in
    λ i. at_high i ∷ at_low i ∷ octets_of-segments_of k n i

-- what stands above a byte's place is that byte and what stands above it
byte_and_rest : (n p : ℕ) → n / p ≡ n / p % 256 + n / (p * 256) * 256
byte_and_rest n p = omega (arith, nat.div-div-eq-div-mul n p 256)

-- bytes down to a place, and one byte more
step : (n p sum : ℕ) → sum ≡ n / (p * 256) * (p * 256) → sum + n / p % 256 * p ≡ n / p * p
step n p sum above = omega (arith, ap (λ q. q * p) (byte_and_rest n p), above)

-- the sixteen bytes of a number give it back
joined : (n : ℕ) → n < 2 ^ 128 → from_be_bytes w128 (to_be_bytes w128 n) ≡ n
joined n fits =
    let at_15 : n / 256 ^ 15 % 256 * 256 ^ 15 ≡ n / 256 ^ 15 * 256 ^ 15 = omega arith in
    let at_14 = step n (256 ^ 14) _ at_15 in
    let at_13 = step n (256 ^ 13) _ at_14 in
    let at_12 = step n (256 ^ 12) _ at_13 in
    let at_11 = step n (256 ^ 11) _ at_12 in
    let at_10 = step n (256 ^ 10) _ at_11 in
    let at_9 = step n (256 ^ 9) _ at_10 in
    let at_8 = step n (256 ^ 8) _ at_9 in
    let at_7 = step n (256 ^ 7) _ at_8 in
    let at_6 = step n (256 ^ 6) _ at_7 in
    let at_5 = step n (256 ^ 5) _ at_6 in
    let at_4 = step n (256 ^ 4) _ at_5 in
    let at_3 = step n (256 ^ 3) _ at_4 in
    let at_2 = step n (256 ^ 2) _ at_3 in
    let at_1 = step n (256 ^ 1) _ at_2 in
    ap (λ high. high + n % 256) at_1 ∙ omega (arith)

-- an IPv6 address
pub bits_of_v6 : (a : Ipv6Addr) (bits : ℕ) → bits < 2 ^ 128 → IsIpv6OfBits a bits → ipv6_bits a ≡ bits
unfolding IsIpv6OfBits ipv6_bits
bits_of_v6 a bits fits is =
    ap (λ segments. from_be_bytes w128 (octets_of segments)) is
    ∙ ap (from_be_bytes w128) (octets_of-segments_of 8 bits) ∙ joined bits fits
