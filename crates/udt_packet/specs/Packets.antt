-- The code's packets, as the definitions of the protocol see them.
use Rattle.std.specs.Prelude.{◌≡◌, ℕ, ◌<◌, ◌≤◌, ◌^◌, List, [], ◌++◌, length, drop, All, None, Result, Ok, Err}
use Rattle.udt_model.specs.declared.packets.AckBody.{AckBody}
use Rattle.udt_model.specs.declared.packets.AckBody.TheVariants.{Light, Buffer, Full}
use Rattle.udt_model.specs.declared.packets.Malformed.{Malformed}
use Rattle.udt_model.specs.declared.packets.Malformed.TheVariants.{TooShort, UnknownType, BadHandshakeLength, BadNakRange, BadDropLength, BadAckLength}
use Rattle.udt_model.specs.Wire as wire
use Rattle.udt_packet.specs.declared.packet.Packet.{Packet}
use Rattle.udt_packet.specs.declared.reading.BlockPacket.{BlockPacket}
use Rattle.udt_packet.specs.declared.packet.Packet.TheVariants as code

-- a packet without where its bytes lie in memory
abbrev pub packet_of : Packet → wire.Packet
packet_of (code.Block seq flags stamp dest bytes) = wire.Block seq flags stamp dest bytes.now
packet_of (code.Handshake stamp dest shake) = wire.Handshake stamp dest shake
packet_of (code.KeepAlive stamp dest) = wire.KeepAlive stamp dest
packet_of (code.Ack number stamp dest body) = wire.Ack number stamp dest body
packet_of (code.Nak stamp dest ranges) = wire.Nak stamp dest ranges
packet_of (code.Shutdown stamp dest) = wire.Shutdown stamp dest
packet_of (code.Ack2 number stamp dest) = wire.Ack2 number stamp dest
packet_of (code.DropAsk message stamp dest first last) = wire.DropAsk message stamp dest first last

-- a block's packet likewise
abbrev pub block_packet_of : BlockPacket → wire.Packet
block_packet_of block = wire.Block block.seq block.flags block.stamp block.dest block.bytes.now

-- the bytes that are written of it
abbrev pub spelled : Packet → List ℕ
spelled packet = wire.spelling (packet_of packet)

-- what stands after the header of a control packet without ranges
abbrev pub short_of : wire.Packet → List ℕ
short_of (wire.Handshake stamp dest shake) = wire.shake_bytes shake
short_of (wire.Ack number stamp dest body) = wire.ack_bytes body
short_of (wire.DropAsk message stamp dest first last) = wire.word first ++ wire.word last
short_of packet = []

-- the acknowledged number
abbrev pub acked : AckBody → ℕ
acked (Light ack) = ack
acked (Buffer ack rtt var buffer) = ack
acked (Full ack rtt var buffer rate capacity) = ack

-- the packet numbers of a packet have 31 bits and its message number has 29, and a NAK has a range that is
-- left
abbrev pub IsWritable : Packet → Type 0
IsWritable (code.Block seq flags stamp dest bytes) = (seq < 2 ^ 31) × (flags.message < 2 ^ 29)
IsWritable (code.Handshake stamp dest shake) = shake.isn < 2 ^ 31
IsWritable (code.Ack number stamp dest body) = acked body < 2 ^ 31
IsWritable (code.Nak stamp dest ranges) = 0 < length ranges
IsWritable (code.DropAsk message stamp dest first last) = (message < 2 ^ 29) × (first < 2 ^ 31) × (last < 2 ^ 31)
IsWritable packet = Unit {0}

-- what was read, so seen
abbrev pub reading_of : Result Packet Malformed → Result wire.Packet Malformed
reading_of (Ok packet) = Ok (packet_of packet)
reading_of (Err why) = Err why

-- the bytes are those of a control packet of this type
pub record IsOfType (type : wire.ControlType) (bytes : List ℕ) : Type 0 where
  pub long : 16 ≤ length bytes
  pub control : 2 ^ 31 ≤ wire.word_at 0 bytes
  pub is : wire.control_type (wire.type_of (wire.word_at 0 bytes)) ≡ type

-- where bytes are refused for this reason
abbrev pub IsRefusedFor : List ℕ → Malformed → Type 0
IsRefusedFor bytes TooShort = length bytes < 16
IsRefusedFor bytes UnknownType = IsOfType wire.NoType bytes
IsRefusedFor bytes BadHandshakeLength = IsOfType wire.HandshakeType bytes × (length bytes < 64)
IsRefusedFor bytes BadNakRange = IsOfType wire.NakType bytes × (wire.ranges_of (drop 16 bytes) ≡ None)
IsRefusedFor bytes BadDropLength = IsOfType wire.DropAskType bytes × (length bytes < 24)
IsRefusedFor bytes BadAckLength = IsOfType wire.AckType bytes × (length bytes < 20)

-- ---- one spelling

-- each number of the list is a byte
abbrev pub AreBytes : List ℕ → Type 0
AreBytes bytes = All (λ byte. byte < 2 ^ 8) bytes

-- the packet is a block of data
abbrev pub IsBlock : wire.Packet → Type 0
IsBlock (wire.Block seq flags stamp dest bytes) = Unit {0}
IsBlock packet = ⊥

-- the bytes are read as a block of data
pub record SpellsBlock (bytes : List ℕ) : Type 0 where
  pub packet : wire.Packet
  pub is_block : IsBlock packet
  pub read : wire.read bytes ≡ Ok packet

-- a packet that bytes are read as has numbers that fit their places
abbrev pub IsReadInRange : wire.Packet → Type 0
IsReadInRange packet = (bytes : List ℕ) → AreBytes bytes → wire.read bytes ≡ Ok packet → wire.IsInRange packet

-- bytes that are read as this packet are its spelling
abbrev pub HasOneSpelling : wire.Packet → Type 0
HasOneSpelling packet = (bytes : List ℕ) → AreBytes bytes → wire.read bytes ≡ Ok packet → bytes ≡ wire.spelling packet
