-- What an event emits.
use Rattle.std.specs.Prelude.{ℕ, List, [], ◌∷◌, map, Option, Some, None}
use Rattle.udt_model.specs.declared.addresses.Addr.{Addr}
use Rattle.udt_model.specs.declared.answers.Packed.{Packed}
use Rattle.udt_model.specs.declared.answers.Packed.TheVariants as packed
use Rattle.udt_model.specs.Losses.{LostRange}
use Rattle.udt_model.specs.Numbers.{sequence_number}
use Rattle.udt_model.specs.State.{Datagram, Emission}
use Rattle.udt_model.specs.Wire.{Packet, WireRange, Nak, ranges_bytes, spelling}

-- the datagram that carries a packet to an address
abbrev pub datagram_to : Addr → Packet → Datagram
datagram_to addr packet = record { addr = addr; bytes = spelling packet }

-- that of a packet, where there is one
abbrev pub datagrams_to : Addr → Option Packet → List Datagram
datagrams_to addr None = []
datagrams_to addr (Some packet) = datagram_to addr packet ∷ []

-- the datagrams of emissions
abbrev pub datagrams_of : List Emission → List Datagram
datagrams_of emissions = map (λ emission. emission.datagram) emissions

-- what packing wrote down, where it wrote down a packet
abbrev pub written_by : Packed → Datagram → List Datagram
written_by (packed.Block size) datagram = datagram ∷ []
written_by (packed.DropAsk size) datagram = datagram ∷ []
written_by (packed.NotYet until) datagram = []
written_by packed.Nothing datagram = []

-- ---- NAKs

-- the range from the first of these offsets to the second
abbrev pub range_of : ℕ × ℕ → LostRange
range_of ends = record { first = ends.0; last = ends.1 }

-- the sequence numbers of a range, in a direction that begins with this initial sequence number
abbrev pub numbers_from : (isn : ℕ) → LostRange → WireRange
numbers_from isn range = record {
  first = sequence_number isn range.first;
  last = sequence_number isn range.last;
}

-- the words of ranges, one after the other
abbrev pub numbers_bytes : (isn : ℕ) → List LostRange → List ℕ
numbers_bytes isn ranges = ranges_bytes (map (numbers_from isn) ranges)

-- the NAK of these ranges
abbrev pub nak_packet : (stamp dest isn : ℕ) → List LostRange → Packet
nak_packet stamp dest isn ranges = Nak stamp dest (map (numbers_from isn) ranges)

-- and none where there are none
abbrev pub nak_where_any : (stamp dest isn : ℕ) → List LostRange → Option Packet
nak_where_any stamp dest isn [] = None
nak_where_any stamp dest isn (range ∷ ranges) = Some (nak_packet stamp dest isn (range ∷ ranges))
