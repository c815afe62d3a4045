-- Packets, and the bytes that spell them in a datagram. All numbers are big-endian. The layout is that of draft-gg-udt-03,
-- section 3; what is read leniently, the numbers of the socket types and the use of the address field are this project's own.
use Rattle.std.specs.Prelude.{◌≡◌, ℕ, ◌+◌, ◌-◌, ◌*◌, ◌/◌, ◌%◌, ◌^◌, ◌<◌, ◌==◌, Bool, true, false, ◌&&◌, List, [], ◌∷◌, ◌++◌, length, take, drop, All, Option, Some, None, Result, Ok, Err, FitsSigned, nat_lt, nat_le, if◌then◌else◌}
use Rattle.std.specs.Int.{w32, to_be_bytes, from_be_bytes, cast_signed, cast_unsigned}
use Rattle.udt_model.specs.declared.packets.Flags.{Flags}
use Rattle.udt_model.specs.declared.packets.Shake.{Shake}
use Rattle.udt_model.specs.declared.packets.AckBody.{AckBody}
use Rattle.udt_model.specs.declared.packets.AckBody.TheVariants.{Light, Buffer, Full}
use Rattle.udt_model.specs.declared.packets.Malformed.{Malformed}
use Rattle.udt_model.specs.declared.packets.Malformed.TheVariants.{TooShort, UnknownType, BadHandshakeLength, BadNakRange, BadDropLength, BadAckLength}

-- lost numbers, from the first to the last
pub record WireRange : Type 0 where
  pub first : ℕ
  pub last : ℕ

-- a packet: a block of data with its sequence number, flags, time stamp and destination; or a control packet of one of
-- seven types, with its time stamp and destination and what this type carries
pub data Packet : Type 0 where
  Block : (seq : ℕ) → (flags : Flags) → (stamp : ℕ) → (dest : ℕ) → (bytes : List ℕ) → Packet
  Handshake : (stamp : ℕ) → (dest : ℕ) → (shake : Shake) → Packet
  KeepAlive : (stamp : ℕ) → (dest : ℕ) → Packet
  Ack : (number : ℕ) → (stamp : ℕ) → (dest : ℕ) → (body : AckBody) → Packet
  Nak : (stamp : ℕ) → (dest : ℕ) → (ranges : List WireRange) → Packet
  Shutdown : (stamp : ℕ) → (dest : ℕ) → Packet
  Ack2 : (number : ℕ) → (stamp : ℕ) → (dest : ℕ) → Packet
  DropAsk : (message : ℕ) → (stamp : ℕ) → (dest : ℕ) → (first : ℕ) → (last : ℕ) → Packet

-- ---- words

-- a flag as a number
abbrev pub bit : Bool → ℕ
bit set = if set then 1 else 0

-- the second word of a data packet
abbrev pub flags_word : Flags → ℕ
flags_word flags = 2 ^ 31 * bit flags.first + 2 ^ 30 * bit flags.last + 2 ^ 29 * bit flags.order + flags.message

-- the flags of such a word
abbrev pub flags_of : ℕ → Flags
flags_of word = record {
  first = nat_le (2 ^ 31) word;
  last = word / 2 ^ 30 % 2 == 1;
  order = word / 2 ^ 29 % 2 == 1;
  message = word % 2 ^ 29;
}

-- the first word of a control packet of this type: the first bit, 15 bits of type, and 16 bits that are reserved
abbrev pub type_word : ℕ → ℕ
type_word type = 2 ^ 31 + 2 ^ 16 * type

-- the type of such a word
abbrev pub type_of : ℕ → ℕ
type_of word = word / 2 ^ 16 % 2 ^ 15

-- a number in four bytes
abbrev pub word : ℕ → List ℕ
word number = to_be_bytes w32 number

-- the word that four bytes spell, which has 32 bits
abbrev pub word_of : List ℕ → ℕ
word_of bytes = from_be_bytes w32 bytes % 2 ^ 32

-- the number that the four bytes from this place on spell
abbrev pub word_at : ℕ → List ℕ → ℕ
word_at place bytes = word_of (take 4 (drop place bytes))

-- the sequence number that they spell, whose first bit is ignored
abbrev pub number_at : ℕ → List ℕ → ℕ
number_at place bytes = word_at place bytes % 2 ^ 31

-- four words, which every packet begins with
abbrev pub header : ℕ → ℕ → ℕ → ℕ → List ℕ
header first second third fourth = word first ++ word second ++ word third ++ word fourth

-- ---- the one spelling that is written

-- a handshake has eight words and the address
abbrev pub shake_bytes : Shake → List ℕ
shake_bytes shake =
    word shake.version ++ word shake.kind ++ word shake.isn ++ word shake.packet ++ word shake.flow
    ++ word (cast_unsigned w32 shake.ask) ++ word shake.id ++ word shake.cookie ++ shake.address

-- an ACK has one word, four or six
abbrev pub ack_bytes : AckBody → List ℕ
ack_bytes (Light ack) = word ack
ack_bytes (Buffer ack rtt var buffer) = word ack ++ word rtt ++ word var ++ word buffer
ack_bytes (Full ack rtt var buffer rate capacity) =
    word ack ++ word rtt ++ word var ++ word buffer ++ word rate ++ word capacity

-- a range is one word where its ends are equal, and otherwise two, of which the first has its first bit set
abbrev pub range_bytes : WireRange → List ℕ
range_bytes range =
    if range.first == range.last then word range.first else word (2 ^ 31 + range.first) ++ word range.last

-- ranges stand one after the other
unfoldable pub ranges_bytes : List WireRange → List ℕ
ranges_bytes [] = []
ranges_bytes (range ∷ ranges) = range_bytes range ++ ranges_bytes ranges

-- the four words that a packet begins with. Reserved bits, and words without a meaning, are 0
abbrev pub header_of : Packet → List ℕ
header_of (Block seq flags stamp dest bytes) = header seq (flags_word flags) stamp dest
header_of (Handshake stamp dest shake) = header (type_word 0) 0 stamp dest
header_of (KeepAlive stamp dest) = header (type_word 1) 0 stamp dest
header_of (Ack number stamp dest body) = header (type_word 2) number stamp dest
header_of (Nak stamp dest ranges) = header (type_word 3) 0 stamp dest
header_of (Shutdown stamp dest) = header (type_word 5) 0 stamp dest
header_of (Ack2 number stamp dest) = header (type_word 6) number stamp dest
header_of (DropAsk message stamp dest first last) = header (type_word 7) message stamp dest

-- what stands after them
abbrev pub field_of : Packet → List ℕ
field_of (Block seq flags stamp dest bytes) = bytes
field_of (Handshake stamp dest shake) = shake_bytes shake
field_of (KeepAlive stamp dest) = []
field_of (Ack number stamp dest body) = ack_bytes body
field_of (Nak stamp dest ranges) = ranges_bytes ranges
field_of (Shutdown stamp dest) = []
field_of (Ack2 number stamp dest) = []
field_of (DropAsk message stamp dest first last) = word first ++ word last

-- the one spelling of a packet that is written
unfoldable pub spelling : Packet → List ℕ
spelling packet = header_of packet ++ field_of packet

-- ---- which packets can be spelled

-- the numbers of a handshake fit their places
pub record IsShakeInRange (shake : Shake) : Type 0 where
  pub version : shake.version < 2 ^ 32
  pub kind : shake.kind < 2 ^ 32
  pub isn : shake.isn < 2 ^ 31
  pub packet : shake.packet < 2 ^ 32
  pub flow : shake.flow < 2 ^ 32
  pub ask : FitsSigned w32 shake.ask
  pub id : shake.id < 2 ^ 32
  pub cookie : shake.cookie < 2 ^ 32
  pub address : length shake.address ≡ 16

-- the numbers of an ACK fit their places
abbrev pub IsAckInRange : AckBody → Type 0
IsAckInRange (Light ack) = ack < 2 ^ 31
IsAckInRange (Buffer ack rtt var buffer) = (ack < 2 ^ 31) × (rtt < 2 ^ 32) × (var < 2 ^ 32) × (buffer < 2 ^ 32)
IsAckInRange (Full ack rtt var buffer rate capacity) =
    (ack < 2 ^ 31) × (rtt < 2 ^ 32) × (var < 2 ^ 32) × (buffer < 2 ^ 32) × (rate < 2 ^ 32) × (capacity < 2 ^ 32)

-- how far the end of a range lies ahead of its start, round the end of the numbers if need be
abbrev pub reach : ℕ → ℕ → ℕ
reach first last = (last + 2 ^ 31 - first) % 2 ^ 31

-- the ends of a range are packet numbers, of which the last lies less than 2^30 ahead of the first
pub record IsRange (range : WireRange) : Type 0 where
  pub first : range.first < 2 ^ 31
  pub last : range.last < 2 ^ 31
  pub near : reach range.first range.last < 2 ^ 30

-- the numbers of a packet fit their places, and a NAK has a range
abbrev pub IsInRange : Packet → Type 0
IsInRange (Block seq flags stamp dest bytes) = (seq < 2 ^ 31) × (flags.message < 2 ^ 29) × (stamp < 2 ^ 32) × (dest < 2 ^ 32)
IsInRange (Handshake stamp dest shake) = IsShakeInRange shake × (stamp < 2 ^ 32) × (dest < 2 ^ 32)
IsInRange (KeepAlive stamp dest) = (stamp < 2 ^ 32) × (dest < 2 ^ 32)
IsInRange (Ack number stamp dest body) = IsAckInRange body × (number < 2 ^ 32) × (stamp < 2 ^ 32) × (dest < 2 ^ 32)
IsInRange (Nak stamp dest ranges) = (0 < length ranges) × All IsRange ranges × (stamp < 2 ^ 32) × (dest < 2 ^ 32)
IsInRange (Shutdown stamp dest) = (stamp < 2 ^ 32) × (dest < 2 ^ 32)
IsInRange (Ack2 number stamp dest) = (number < 2 ^ 32) × (stamp < 2 ^ 32) × (dest < 2 ^ 32)
IsInRange (DropAsk message stamp dest first last) =
    (message < 2 ^ 29) × (first < 2 ^ 31) × (last < 2 ^ 31) × (stamp < 2 ^ 32) × (dest < 2 ^ 32)

-- ---- what bytes are read as. All bytes after the header of a data packet are its block, and all of a NAK are ranges; in
-- every other packet those after the bytes that are needed are ignored

-- the data packet that these bytes spell
abbrev pub block_of : List ℕ → Packet
block_of bytes = Block (word_at 0 bytes) (flags_of (word_at 4 bytes)) (word_at 8 bytes) (word_at 12 bytes) (drop 16 bytes)

-- the handshake that a field of 48 bytes or more spells
abbrev pub shake_of : List ℕ → Shake
shake_of field = record {
  version = word_at 0 field;
  kind = word_at 4 field;
  isn = number_at 8 field;
  packet = word_at 12 field;
  flow = word_at 16 field;
  ask = cast_signed w32 (word_at 20 field);
  id = word_at 24 field;
  cookie = word_at 28 field;
  address = take 16 (drop 32 field);
}

-- the ACK that a field of four bytes or more spells: light below 16 bytes, full from 24 on
abbrev pub ack_of : List ℕ → AckBody
ack_of field =
    if nat_lt (length field) 16
    then Light (number_at 0 field)
    else (if nat_lt (length field) 24
    then Buffer (number_at 0 field) (word_at 4 field) (word_at 8 field) (word_at 12 field)
    else Full (number_at 0 field) (word_at 4 field) (word_at 8 field) (word_at 12 field) (word_at 16 field) (word_at 20 field))

-- the words of these bytes, four by four
unfoldable pub words_of : List ℕ → List ℕ
words_of (a ∷ b ∷ c ∷ d ∷ bytes) = word_of (a ∷ b ∷ c ∷ d ∷ []) ∷ words_of bytes
words_of bytes = []

-- this range, and then these, if there are some
abbrev pub before : WireRange → Option (List WireRange) → Option (List WireRange)
before range (Some ranges) = Some (range ∷ ranges)
before range None = None

-- the ranges that words spell, where a range may have begun before them: a word whose first bit isn't set ends the
-- range that has begun, or is a number alone; one whose first bit is set begins a range, which then must end
unfoldable pub ranges_from : Option ℕ → List ℕ → Option (List WireRange)
ranges_from None [] = Some []
ranges_from (Some first) [] = None
ranges_from None (word ∷ words) =
    if nat_lt word (2 ^ 31)
    then before (record { first = word; last = word }) (ranges_from None words)
    else ranges_from (Some (word % 2 ^ 31)) words
ranges_from (Some first) (word ∷ words) =
    if nat_lt word (2 ^ 31) && nat_lt (reach first word) (2 ^ 30)
    then before (record { first = first; last = word }) (ranges_from None words)
    else None

-- the ranges that a field spells, which is made of whole words and has at least one
unfoldable pub ranges_of : List ℕ → Option (List WireRange)
ranges_of field =
    if nat_lt 0 (length field) && (length field % 4 == 0) then ranges_from None (words_of field) else None

-- a handshake
abbrev pub read_shake : ℕ → ℕ → List ℕ → Result Packet Malformed
read_shake stamp dest field =
    if nat_lt (length field) 48 then Err BadHandshakeLength else Ok (Handshake stamp dest (shake_of field))

-- an ACK
abbrev pub read_ack : ℕ → ℕ → ℕ → List ℕ → Result Packet Malformed
read_ack number stamp dest field =
    if nat_lt (length field) 4 then Err BadAckLength else Ok (Ack number stamp dest (ack_of field))

-- lost numbers
abbrev pub read_losses : ℕ → ℕ → Option (List WireRange) → Result Packet Malformed
read_losses stamp dest (Some ranges) = Ok (Nak stamp dest ranges)
read_losses stamp dest None = Err BadNakRange

-- a request to drop a message, whose number has 29 bits
abbrev pub read_drop : ℕ → ℕ → ℕ → List ℕ → Result Packet Malformed
read_drop message stamp dest field =
    if nat_lt (length field) 8
    then Err BadDropLength
    else Ok (DropAsk (message % 2 ^ 29) stamp dest (number_at 0 field) (number_at 4 field))

-- the types of control packets, and none of them
pub data ControlType : Type 0 where
  HandshakeType : ControlType
  KeepAliveType : ControlType
  AckType : ControlType
  NakType : ControlType
  ShutdownType : ControlType
  Ack2Type : ControlType
  DropAskType : ControlType
  NoType : ControlType

-- the type that this number names
abbrev pub control_type : ℕ → ControlType
control_type number =
    if number == 0 then HandshakeType
    else (if number == 1 then KeepAliveType
    else (if number == 2 then AckType
    else (if number == 3 then NakType
    else (if number == 5 then ShutdownType
    else (if number == 6 then Ack2Type
    else (if number == 7 then DropAskType
    else NoType))))))

-- the control packet of this type, by the other three words of its header and the field after it
unfoldable pub read_control : ControlType → (info stamp dest : ℕ) → (field : List ℕ) → Result Packet Malformed
read_control HandshakeType info stamp dest field = read_shake stamp dest field
read_control KeepAliveType info stamp dest field = Ok (KeepAlive stamp dest)
read_control AckType info stamp dest field = read_ack info stamp dest field
read_control NakType info stamp dest field = read_losses stamp dest (ranges_of field)
read_control ShutdownType info stamp dest field = Ok (Shutdown stamp dest)
read_control Ack2Type info stamp dest field = Ok (Ack2 info stamp dest)
read_control DropAskType info stamp dest field = read_drop info stamp dest field
read_control NoType info stamp dest field = Err UnknownType

-- the packet that these bytes spell, or why they spell none. The first bit is set in control packets
unfoldable pub read : List ℕ → Result Packet Malformed
read bytes =
    if nat_lt (length bytes) 16
    then Err TooShort
    else (if nat_lt (word_at 0 bytes) (2 ^ 31)
    then Ok (block_of bytes)
    else read_control (control_type (type_of (word_at 0 bytes)))
    (word_at 4 bytes) (word_at 8 bytes) (word_at 12 bytes) (drop 16 bytes))

-- the socket ID of the destination, which stands in the fourth word of each packet
unfoldable pub target : List ℕ → Option ℕ
target bytes = if nat_lt (length bytes) 16 then None else Some (word_at 12 bytes)

-- ---- whom a packet is for

-- the ID that a packet names as its destination
abbrev pub destination : Packet → ℕ
destination (Block seq flags stamp dest bytes) = dest
destination (Handshake stamp dest shake) = dest
destination (KeepAlive stamp dest) = dest
destination (Ack number stamp dest body) = dest
destination (Nak stamp dest ranges) = dest
destination (Shutdown stamp dest) = dest
destination (Ack2 number stamp dest) = dest
destination (DropAsk message stamp dest first last) = dest

-- handshakes alone are sent before there is a peer
abbrev pub is_handshake : Packet → Bool
is_handshake (Block seq flags stamp dest bytes) = false
is_handshake (Handshake stamp dest shake) = true
is_handshake (KeepAlive stamp dest) = false
is_handshake (Ack number stamp dest body) = false
is_handshake (Nak stamp dest ranges) = false
is_handshake (Shutdown stamp dest) = false
is_handshake (Ack2 number stamp dest) = false
is_handshake (DropAsk message stamp dest first last) = false
