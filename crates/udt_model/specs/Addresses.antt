-- Addresses of datagrams.
use Rattle.std.specs.Prelude.{ℕ, ◌+◌, ◌-◌, ◌*◌, ◌/◌, ◌%◌, ◌^◌, ◌==◌, Bool, false, not, ◌&&◌, List, [], ◌∷◌, ◌++◌, length, take, drop, replicate, nat_lt, nat_le, decimal, codes, Option, Some, None, option_map, if◌then◌else◌}
use Rattle.std.specs.List.{slice_split, prefix_len, list_all}
use Rattle.std.specs.Char.{is_digit}
use Rattle.std.specs.Fmt.{digits}
use Rattle.std.specs.Int.Digits.{number_from_digits}
use Rattle.std.specs.Str.Parse.{digits_value}
use Rattle.udt_model.specs.Words.{◌>>=◌, number_within}
use Rattle.udt_model.specs.declared.addresses.Addr.{Addr}
use Rattle.udt_model.specs.declared.addresses.Ip.{Ip}
use Rattle.udt_model.specs.declared.addresses.Ip.TheVariants.{V4, V6}
use Rattle.udt_model.specs.declared.addresses.Family.{Family}
use Rattle.udt_model.specs.declared.addresses.Family.TheVariants.{Four, Six}

-- the kind of an address
abbrev pub family_of : Ip → Family
family_of (V4 bits) = Four
family_of (V6 bits) = Six

-- the addresses are the same. One that maps another isn't
abbrev pub same_ip : Ip → Ip → Bool
same_ip (V4 a) (V4 b) = a == b
same_ip (V6 a) (V6 b) = a == b
same_ip (V4 a) (V6 b) = false
same_ip (V6 a) (V4 b) = false

abbrev pub same_addr : Addr → Addr → Bool
same_addr a b = same_ip a.ip b.ip && (a.port == b.port)

-- four bytes in decimal, with dots between them
abbrev pub dotted : ℕ → List ℕ
dotted bits =
    decimal (bits / 2 ^ 24) ++ 46 ∷ decimal (bits / 2 ^ 16 % 256)
    ++ 46 ∷ decimal (bits / 2 ^ 8 % 256) ++ 46 ∷ decimal (bits % 256)

-- this many groups of sixteen bits in hexadecimal, with colons between them
abbrev pub group_of : ℕ → ℕ → List ℕ
group_of bits place = digits 16 false (bits / 2 ^ (16 * place) % 2 ^ 16)

abbrev pub grouped : ℕ → List ℕ
grouped bits =
    group_of bits 7 ++ 58 ∷ group_of bits 6 ++ 58 ∷ group_of bits 5 ++ 58 ∷ group_of bits 4
    ++ 58 ∷ group_of bits 3 ++ 58 ∷ group_of bits 2 ++ 58 ∷ group_of bits 1 ++ 58 ∷ group_of bits 0

abbrev pub ip_text : Ip → List ℕ
ip_text (V4 bits) = dotted bits
ip_text (V6 bits) = codes "[" ++ grouped bits ++ codes "]"

-- the one printed form of an address
unfoldable pub address_text : Addr → List ℕ
address_text addr = ip_text addr.ip ++ 58 ∷ decimal addr.port

-- ---- reading

-- the pieces of a text between bytes of one kind
abbrev pub pieces_of : ℕ → List ℕ → List (List ℕ)
pieces_of byte text = slice_split (λ c. c == byte) text

-- the numbers that the pieces spell, where each of them spells one
abbrev pub each_of : (List ℕ → Option ℕ) → List (List ℕ) → Option (List ℕ)
each_of spelled [] = Some []
each_of spelled (piece ∷ pieces) = do
  number ← spelled piece
  numbers ← each_of spelled pieces
  Some (number ∷ numbers)

-- the numbers, where there are this many
abbrev pub if_many : ℕ → List ℕ → Option (List ℕ)
if_many many numbers = if length numbers == many then Some numbers else None

-- a V4 text: four decimal numbers of at most 255, with dots between them
unfoldable pub bytes_of_v4 : List ℕ → Option (List ℕ)
bytes_of_v4 text = each_of (number_within 0 255) (pieces_of 46 text) >>= if_many 4

-- one to four hexadecimal digits of either case
abbrev pub is_hex_group : List ℕ → Bool
is_hex_group text =
    nat_lt 0 (length text) && nat_le (length text) 4 && list_all (λ c. is_digit c 16) text

-- the number that such a group spells
abbrev pub hex_group : List ℕ → Option ℕ
hex_group text = if is_hex_group text then Some (digits_value 16 text) else None

-- groups with colons between them, or nothing at all
abbrev pub hex_groups : List ℕ → Option (List ℕ)
hex_groups [] = Some []
hex_groups (c ∷ cs) = each_of hex_group (pieces_of 58 (c ∷ cs))

-- the text begins with this byte
abbrev pub begins_with : ℕ → List ℕ → Bool
begins_with byte [] = false
begins_with byte (c ∷ cs) = c == byte

-- what stands before and after the first `::`
unfoldable pub around_double : List ℕ → Option (List ℕ × List ℕ)
around_double [] = None
around_double (c ∷ cs) =
    if (c == 58) && begins_with 58 cs then Some ([], drop 1 cs)
    else option_map (λ halves. (c ∷ halves.0, halves.1)) (around_double cs)

-- eight groups, of which those between are zero, at least one
abbrev pub filled : List ℕ → List ℕ → Option (List ℕ)
filled head tail =
    if nat_lt (length head + length tail) 8
    then Some (head ++ replicate (8 - length head - length tail) 0 ++ tail)
    else None

-- eight groups where there is no `::`, or those around it with zeros between them
abbrev pub groups_at : List ℕ → Option (List ℕ × List ℕ) → Option (List ℕ)
groups_at text None = hex_groups text >>= if_many 8
groups_at text (Some halves) = do
  head ← hex_groups halves.0
  tail ← hex_groups halves.1
  filled head tail

-- a V6 text: eight groups, or fewer with one `::` in the place of the zeros
unfoldable pub groups_of_v6 : List ℕ → Option (List ℕ)
groups_of_v6 text = groups_at text (around_double text)

-- the V4 address of the four bytes, the highest first
abbrev pub v4_of : List ℕ → Option Ip
v4_of text = option_map (λ bytes. V4 (number_from_digits 256 bytes)) (bytes_of_v4 text)

-- the V6 address of the eight groups, the highest first
abbrev pub v6_of : List ℕ → Option Ip
v6_of text = option_map (λ groups. V6 (number_from_digits 65536 groups)) (groups_of_v6 text)

-- the first of two that is there
abbrev pub or_else : Option Ip → Option Ip → Option Ip
or_else None other = other
or_else (Some ip) other = Some ip

-- the IP address that a text spells
abbrev pub ip_of : List ℕ → Option Ip
ip_of text = or_else (v4_of text) (v6_of text)

-- how many bytes stand before the first of this kind
abbrev pub length_before : ℕ → List ℕ → ℕ
length_before byte text = prefix_len (λ c. not (c == byte)) text

-- what stands before the first byte of this kind
abbrev pub before : ℕ → List ℕ → List ℕ
before byte text = take (length_before byte text) text

-- what stands after the first byte of this kind
abbrev pub following : ℕ → List ℕ → List ℕ
following byte text = drop (length_before byte text + 1) text

-- the address of both, where both are there
abbrev pub with_port : Option Ip → Option ℕ → Option Addr
with_port ip port = do
  i ← ip
  p ← port
  Some (record { ip = i; port = p })

-- the port after a colon: a decimal number of at most 65,535
abbrev pub port_of : List ℕ → Option ℕ
port_of [] = None
port_of (c ∷ cs) = if c == 58 then number_within 0 65535 cs else None

-- the address that a text spells: a V4 text, a colon and the port, or a V6 text in brackets, a
-- colon and the port
unfoldable pub addr_of : List ℕ → Option Addr
addr_of text =
    if begins_with 91 text then with_port (v6_of (before 93 (drop 1 text))) (port_of (following 93 (drop 1 text)))
    else with_port (v4_of (before 58 text)) (number_within 0 65535 (following 58 text))
