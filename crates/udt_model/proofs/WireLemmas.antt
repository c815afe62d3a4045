-- Each packet whose numbers are in range reads back from its spelling, and bytes are for the destination of the packet
-- that they are read as.
use Rattle.std.proofs.Common.{◌≡◌, ℕ, ◌+◌, ◌*◌, ◌%◌, ◌/◌, ◌^◌, ◌<◌, ◌≤◌, Bool, true, false, ℤ, List, [], ◌++◌, drop, Option, Some, None, Result, Ok, Err, refl, sym, ap, ◌∙◌, arith, inl, inr}
use Rattle.std.specs.Prelude.{nat_le, nat_lt, length, ◌==◌, if◌then◌else◌, All}
use Rattle.std.specs.Int.{w32, cast_signed, cast_unsigned}
use Rattle.std.proofs.lemmas.Bool.{cases_lt, lt-ltb, le-ltb}
use Rattle.std.proofs.lemmas.Bool.Decides.{nat_tests}
use Rattle.std.proofs.lemmas.List.{take_all, length-take, length-drop}
use Rattle.std.proofs.Math.Facts.{to_z-of_z, Fits-of_z, sfits_to_z}
use Rattle.udt_model.specs.declared.packets.Flags.{Flags}
use Rattle.udt_model.specs.declared.packets.Shake.{Shake}
use Rattle.udt_model.specs.declared.packets.AckBody.{AckBody}
use Rattle.udt_model.specs.declared.packets.AckBody.TheVariants.{Light, Buffer, Full}
use Rattle.udt_model.specs.declared.packets.Malformed.{Malformed}
use Rattle.udt_model.specs.declared.packets.Malformed.TheVariants.{TooShort, BadHandshakeLength, BadDropLength, BadAckLength}
use Rattle.udt_model.proofs.RangeLemmas.{word_of-word, ranges_of-bytes}
use Rattle.udt_model.specs.Wire.{Packet, Block, Handshake, KeepAlive, Ack, Nak, Shutdown, Ack2, DropAsk, WireRange, ControlType, HandshakeType, KeepAliveType, AckType, NakType, ShutdownType, Ack2Type, DropAskType, NoType, control_type, bit, flags_word, flags_of, type_word, type_of, word, word_at, number_at, header, shake_bytes, ack_bytes, ranges_bytes, spelling, destination, IsShakeInRange, IsAckInRange, IsRange, IsInRange, block_of, shake_of, ack_of, ranges_of, read_losses, read_control, read, target}

-- ---- flags

first-reads : (first last order : Bool) (message : ℕ) → message < 2 ^ 29
    → nat_le (2 ^ 31) (2 ^ 31 * bit first + 2 ^ 30 * bit last + 2 ^ 29 * bit order + message) ≡ first
first-reads true true true message fits = grind (arith, nat_tests)
first-reads true true false message fits = grind (arith, nat_tests)
first-reads true false true message fits = grind (arith, nat_tests)
first-reads true false false message fits = grind (arith, nat_tests)
first-reads false true true message fits = grind (arith, nat_tests)
first-reads false true false message fits = grind (arith, nat_tests)
first-reads false false true message fits = grind (arith, nat_tests)
first-reads false false false message fits = grind (arith, nat_tests)

last-reads : (first last order : Bool) (message : ℕ) → message < 2 ^ 29
    → ((2 ^ 31 * bit first + 2 ^ 30 * bit last + 2 ^ 29 * bit order + message) / 2 ^ 30 % 2 == 1) ≡ last
last-reads true true true message fits = grind (arith, nat_tests)
last-reads true true false message fits = grind (arith, nat_tests)
last-reads true false true message fits = grind (arith, nat_tests)
last-reads true false false message fits = grind (arith, nat_tests)
last-reads false true true message fits = grind (arith, nat_tests)
last-reads false true false message fits = grind (arith, nat_tests)
last-reads false false true message fits = grind (arith, nat_tests)
last-reads false false false message fits = grind (arith, nat_tests)

order-reads : (first last order : Bool) (message : ℕ) → message < 2 ^ 29
    → ((2 ^ 31 * bit first + 2 ^ 30 * bit last + 2 ^ 29 * bit order + message) / 2 ^ 29 % 2 == 1) ≡ order
order-reads true true true message fits = grind (arith, nat_tests)
order-reads true true false message fits = grind (arith, nat_tests)
order-reads true false true message fits = grind (arith, nat_tests)
order-reads true false false message fits = grind (arith, nat_tests)
order-reads false true true message fits = grind (arith, nat_tests)
order-reads false true false message fits = grind (arith, nat_tests)
order-reads false false true message fits = grind (arith, nat_tests)
order-reads false false false message fits = grind (arith, nat_tests)

message-reads : (first last order : Bool) (message : ℕ) → message < 2 ^ 29
    → (2 ^ 31 * bit first + 2 ^ 30 * bit last + 2 ^ 29 * bit order + message) % 2 ^ 29 ≡ message
message-reads first last order message fits = omega arith

bits-fit : (first last order : Bool) (message : ℕ) → message < 2 ^ 29
    → 2 ^ 31 * bit first + 2 ^ 30 * bit last + 2 ^ 29 * bit order + message < 2 ^ 32
bits-fit true true true message fits = omega arith
bits-fit true true false message fits = omega arith
bits-fit true false true message fits = omega arith
bits-fit true false false message fits = omega arith
bits-fit false true true message fits = omega arith
bits-fit false true false message fits = omega arith
bits-fit false false true message fits = omega arith
bits-fit false false false message fits = omega arith

-- the second word of a data packet fits in four bytes
pub flags-fit : (flags : Flags) → flags.message < 2 ^ 29 → flags_word flags < 2 ^ 32
flags-fit flags fits = bits-fit flags.first flags.last flags.order flags.message fits

flags_from : Bool → Bool → Bool → ℕ → Flags
flags_from first last order message = record { first = first; last = last; order = order; message = message }

flags_from-same : (a b c d e f : Bool) (m n : ℕ) → a ≡ b → c ≡ d → e ≡ f → m ≡ n → flags_from a c e m ≡ flags_from b d f n
flags_from-same a b c d e f m n first last order message = cc

-- and tells the flags
pub flags-read : (flags : Flags) → flags.message < 2 ^ 29 → flags_of (flags_word flags) ≡ flags
unfolding flags_from
flags-read flags fits = flags_from-same _ _ _ _ _ _ _ _
    (first-reads flags.first flags.last flags.order flags.message fits)
    (last-reads flags.first flags.last flags.order flags.message fits)
    (order-reads flags.first flags.last flags.order flags.message fits)
    (message-reads flags.first flags.last flags.order flags.message fits)

-- ---- headers

module _ (first second third fourth : ℕ) (field : List ℕ) where
  pub length-header : length (header first second third fourth ++ field) ≡ 16 + length field
  length-header = omega arith

  pub first_word : first < 2 ^ 32 → word_at 0 (header first second third fourth ++ field) ≡ first
  first_word fits = word_of-word first fits

  pub second_word : second < 2 ^ 32 → word_at 4 (header first second third fourth ++ field) ≡ second
  second_word fits = word_of-word second fits

  third_word : third < 2 ^ 32 → word_at 8 (header first second third fourth ++ field) ≡ third
  third_word fits = word_of-word third fits

  pub fourth_word : fourth < 2 ^ 32 → word_at 12 (header first second third fourth ++ field) ≡ fourth
  fourth_word fits = word_of-word fourth fits

  pub field-header : drop 16 (header first second third fourth ++ field) ≡ field
  field-header = refl

-- bytes whose first bit is set are read by the type that they tell
pub read-ack_emitted : (bytes : List ℕ) (first info stamp dest : ℕ) (field : List ℕ) → 16 ≤ length bytes → 2 ^ 31 ≤ first → word_at 0 bytes ≡ first
    → word_at 4 bytes ≡ info → word_at 8 bytes ≡ stamp → word_at 12 bytes ≡ dest → drop 16 bytes ≡ field
    → read bytes ≡ read_control (control_type (type_of first)) info stamp dest field
unfolding read
read-ack_emitted bytes first info stamp dest field long set is_first is_info is_stamp is_dest is_field =
    let short : nat_lt (length bytes) 16 ≡ false = le-ltb (length bytes) 16 long in
    let data_bit : nat_lt (word_at 0 bytes) (2 ^ 31) ≡ false = le-ltb (word_at 0 bytes) (2 ^ 31) (omega arith) in
    rw (short, data_bit, is_first, is_info, is_stamp, is_dest, is_field) refl

-- so what stands after the header of a control packet is read by its type
pub read-header : (type info stamp dest : ℕ) (field : List ℕ) → type < 2 ^ 15 → info < 2 ^ 32 → stamp < 2 ^ 32 → dest < 2 ^ 32
    → read (header (type_word type) info stamp dest ++ field) ≡ read_control (control_type type) info stamp dest field
read-header type info stamp dest field fits info_fits stamp_fits dest_fits =
    let first : ℕ = type_word type in
    let long = length-header first info stamp dest field in
    let ack_emitted : type_of (type_word type) ≡ type = omega arith in
    read-ack_emitted (header first info stamp dest ++ field) first info stamp dest field (omega arith) (omega arith)
    (first_word first info stamp dest field (omega arith)) (second_word first info stamp dest field info_fits)
    (third_word first info stamp dest field stamp_fits) (fourth_word first info stamp dest field dest_fits) (field-header first info stamp dest field)
    ∙ ap (λ (t : ℕ). read_control (control_type t) info stamp dest field) ack_emitted

-- ---- fields

shake_from : (version kind isn packet flow : ℕ) → ℤ → (id cookie : ℕ) → List ℕ → Shake
shake_from version kind isn packet flow ask id cookie address = record {
  version = version;
  kind = kind;
  isn = isn;
  packet = packet;
  flow = flow;
  ask = ask;
  id = id;
  cookie = cookie;
  address = address;
}

shake_from-same : (a b c d e f g h i j : ℕ) (y z : ℤ) (k l m n : ℕ) (x w : List ℕ) → a ≡ b → c ≡ d → e ≡ f → g ≡ h → i ≡ j → y ≡ z → k ≡ l → m ≡ n → x ≡ w
    → shake_from a c e g i y k m x ≡ shake_from b d f h j z l n w
shake_from-same a b c d e f g h i j y z k l m n x w p q r s t u v o aa = cc

-- a packet number that fits reads back
pub number-reads : (n m : ℕ) → n < 2 ^ 31 → m ≡ n → m % 2 ^ 31 ≡ n
number-reads n m fits same = omega arith

-- a handshake reads back
shake-reads : (shake : Shake) → IsShakeInRange shake → shake_of (shake_bytes shake) ≡ shake
unfolding shake_from
shake-reads shake fits = shake_from-same _ _ _ _ _ _ _ _ _ _ _ _ _ _ _ _ _ _
    (word_of-word shake.version fits.version)
    (word_of-word shake.kind fits.kind)
    (number-reads shake.isn _ fits.isn (word_of-word shake.isn (omega arith)))
    (word_of-word shake.packet fits.packet)
    (word_of-word shake.flow fits.flow)
    (ap (cast_signed w32) (word_of-word (cast_unsigned w32 shake.ask) (Fits-of_z fits.ask).fits) ∙ to_z-of_z fits.ask)
    (word_of-word shake.id fits.id)
    (word_of-word shake.cookie fits.cookie)
    (take_all 16 shake.address (omega arith))

length-shake : (shake : Shake) → IsShakeInRange shake → length (shake_bytes shake) ≡ 48
length-shake shake fits = omega arith

shake-read : (stamp dest : ℕ) (shake : Shake) → IsShakeInRange shake → read_control HandshakeType 0 stamp dest (shake_bytes shake) ≡ Ok (Handshake stamp dest shake)
unfolding read_control
shake-read stamp dest shake fits =
    let long : nat_lt (length (shake_bytes shake)) 48 ≡ false = le-ltb _ _ (omega (arith, length-shake shake fits)) in
    rw long (ap (λ (s : Shake). Ok (Handshake stamp dest s)) (shake-reads shake fits))

-- an acknowledgement reads back
ack-reads : (body : AckBody) → IsAckInRange body → ack_of (ack_bytes body) ≡ body
ack-reads (Light ack) fits = ap Light (number-reads ack _ fits (word_of-word ack (omega arith)))
ack-reads (Buffer ack rtt var buffer) fits =
    let a = number-reads ack _ fits.0 (word_of-word ack (omega arith)) in
    let r = word_of-word rtt fits.1 in
    let v = word_of-word var fits.2 in
    let b = word_of-word buffer fits.3 in
    cc
ack-reads (Full ack rtt var buffer rate capacity) fits =
    let a = number-reads ack _ fits.0 (word_of-word ack (omega arith)) in
    let r = word_of-word rtt fits.1 in
    let v = word_of-word var fits.2 in
    let b = word_of-word buffer fits.3 in
    let s = word_of-word rate fits.4 in
    let c = word_of-word capacity fits.5 in
    cc

ack-read : (number stamp dest : ℕ) (body : AckBody) → IsAckInRange body → read_control AckType number stamp dest (ack_bytes body) ≡ Ok (Ack number stamp dest body)
unfolding read_control
ack-read number stamp dest (Light ack) fits = ap (λ (b : AckBody). Ok (Ack number stamp dest b)) (ack-reads (Light ack) fits)
ack-read number stamp dest (Buffer ack rtt var buffer) fits =
    ap (λ (b : AckBody). Ok (Ack number stamp dest b)) (ack-reads (Buffer ack rtt var buffer) fits)
ack-read number stamp dest (Full ack rtt var buffer rate capacity) fits =
    ap (λ (b : AckBody). Ok (Ack number stamp dest b)) (ack-reads (Full ack rtt var buffer rate capacity) fits)

drop_from-same : (stamp dest a b c d e f : ℕ) → a ≡ b → c ≡ d → e ≡ f → DropAsk a stamp dest c e ≡ DropAsk b stamp dest d f
drop_from-same stamp dest a b c d e f p q r = cc

-- ---- packets

-- lost numbers read back
losses-read : (stamp dest : ℕ) (ranges : List WireRange) → 0 < length ranges → All IsRange ranges
    → read_control NakType 0 stamp dest (ranges_bytes ranges) ≡ Ok (Nak stamp dest ranges)
unfolding read_control
losses-read stamp dest ranges some each = rw (ranges_of-bytes ranges some each) refl

-- the other control packets
alive-read : (stamp dest : ℕ) → read_control KeepAliveType 0 stamp dest [] ≡ Ok (KeepAlive stamp dest)
unfolding read_control
alive-read stamp dest = refl

shutdown-read : (stamp dest : ℕ) → read_control ShutdownType 0 stamp dest [] ≡ Ok (Shutdown stamp dest)
unfolding read_control
shutdown-read stamp dest = refl

ack2-read : (number stamp dest : ℕ) → read_control Ack2Type number stamp dest [] ≡ Ok (Ack2 number stamp dest)
unfolding read_control
ack2-read number stamp dest = refl

drop-read : (message stamp dest first last : ℕ) → message < 2 ^ 29 → first < 2 ^ 31 → last < 2 ^ 31
    → read_control DropAskType message stamp dest (word first ++ word last) ≡ Ok (DropAsk message stamp dest first last)
unfolding read_control
drop-read message stamp dest first last fits first_fits last_fits =
    ap Ok (drop_from-same stamp dest (message % 2 ^ 29) message _ first _ last (omega arith)
    (number-reads first _ first_fits (word_of-word first (omega arith)))
    (number-reads last _ last_fits (word_of-word last (omega arith))))

block-read : (seq : ℕ) (flags : Flags) (stamp dest : ℕ) (bytes : List ℕ) → IsInRange (Block seq flags stamp dest bytes)
    → read (header seq (flags_word flags) stamp dest ++ bytes) ≡ Ok (Block seq flags stamp dest bytes)
unfolding read
block-read seq flags stamp dest bytes fits =
    let word_of = flags_word flags in
    let whole = header seq word_of stamp dest ++ bytes in
    let long = length-header seq word_of stamp dest bytes in
    let first = first_word seq word_of stamp dest bytes (omega arith) in
    let second = second_word seq word_of stamp dest bytes (flags-fit flags fits.1) in
    let third = third_word seq word_of stamp dest bytes fits.2 in
    let fourth = fourth_word seq word_of stamp dest bytes fits.3 in
    let payload = field-header seq word_of stamp dest bytes in
    let ack_emitted = flags-read flags fits.1 in
    grind (arith, nat_tests)

-- a packet reads back from its spelling
pub read-spelling : (packet : Packet) → IsInRange packet → read (spelling packet) ≡ Ok packet
unfolding spelling
read-spelling (Block seq flags stamp dest bytes) fits = block-read seq flags stamp dest bytes fits
read-spelling (Handshake stamp dest shake) fits =
    read-header 0 0 stamp dest (shake_bytes shake) (omega arith) (omega arith) fits.1 fits.2 ∙ shake-read stamp dest shake fits.0
read-spelling (KeepAlive stamp dest) fits = read-header 1 0 stamp dest [] (omega arith) (omega arith) fits.0 fits.1 ∙ alive-read stamp dest
read-spelling (Ack number stamp dest body) fits =
    read-header 2 number stamp dest (ack_bytes body) (omega arith) fits.1 fits.2 fits.3 ∙ ack-read number stamp dest body fits.0
read-spelling (Nak stamp dest ranges) fits =
    read-header 3 0 stamp dest (ranges_bytes ranges) (omega arith) (omega arith) fits.2 fits.3 ∙ losses-read stamp dest ranges fits.0 fits.1
read-spelling (Shutdown stamp dest) fits = read-header 5 0 stamp dest [] (omega arith) (omega arith) fits.0 fits.1 ∙ shutdown-read stamp dest
read-spelling (Ack2 number stamp dest) fits = read-header 6 number stamp dest [] (omega arith) fits.0 fits.1 fits.2 ∙ ack2-read number stamp dest
read-spelling (DropAsk message stamp dest first last) fits =
    read-header 7 message stamp dest (word first ++ word last) (omega arith) (omega arith) fits.3 fits.4
    ∙ drop-read message stamp dest first last fits.0 fits.1 fits.2

-- ---- destinations

-- what is long enough was read as the packet that it tells, and what is too short as none
pub read_long : (short : Bool) (why : Malformed) (made packet : Packet) → (if short then Err why else Ok made) ≡ Ok packet
    → (short ≡ false) × (made ≡ packet)
read_long true why made packet read = cc
read_long false why made packet read = (refl, cc)

losses-dest : (packet : Packet) (stamp dest : ℕ) (ranges : Option (List WireRange)) → read_losses stamp dest ranges ≡ Ok packet → destination packet ≡ dest
losses-dest packet stamp dest (Some ranges) read = let same : Nak stamp dest ranges ≡ packet = cc in ap destination (sym same)
losses-dest packet stamp dest None read = cc

-- a control packet is for the ID in its header
control-dest : (type : ControlType) (info stamp dest : ℕ) (field : List ℕ) (packet : Packet) → read_control type info stamp dest field ≡ Ok packet
    → destination packet ≡ dest
unfolding read_control
control-dest HandshakeType info stamp dest field packet read =
    ap destination (sym (read_long (nat_lt (length field) 48) BadHandshakeLength (Handshake stamp dest (shake_of field)) packet read).1)
control-dest KeepAliveType info stamp dest field packet read =
    let same : KeepAlive stamp dest ≡ packet = cc in ap destination (sym same)
control-dest AckType info stamp dest field packet read =
    ap destination (sym (read_long (nat_lt (length field) 4) BadAckLength (Ack info stamp dest (ack_of field)) packet read).1)
control-dest NakType info stamp dest field packet read = losses-dest packet stamp dest (ranges_of field) read
control-dest ShutdownType info stamp dest field packet read =
    let same : Shutdown stamp dest ≡ packet = cc in ap destination (sym same)
control-dest Ack2Type info stamp dest field packet read =
    let same : Ack2 info stamp dest ≡ packet = cc in ap destination (sym same)
control-dest DropAskType info stamp dest field packet read =
    ap destination (sym (read_long (nat_lt (length field) 8) BadDropLength (DropAsk (info % 2 ^ 29) stamp dest (number_at 0 field) (number_at 4 field)) packet read).1)
control-dest NoType info stamp dest field packet read = cc

chosen-dest : (data_bit : Bool) (block packet : Packet) (control : Result Packet Malformed) (dest : ℕ) → destination block ≡ dest
    → (control ≡ Ok packet → destination packet ≡ dest) → (if data_bit then Ok block else control) ≡ Ok packet → destination packet ≡ dest
chosen-dest true block packet control dest is f read = let same : block ≡ packet = cc in ap destination (sym same) ∙ is
chosen-dest false block packet control dest is f read = f read

-- what is read has a header
pub read-has_header : (bytes : List ℕ) (packet : Packet) → read bytes ≡ Ok packet → 16 ≤ length bytes
unfolding read
read-has_header bytes packet reads =
    elim (cases_lt (length bytes) 16) [
      | inl short ↦
          let yes : nat_lt (length bytes) 16 ≡ true = lt-ltb (length bytes) 16 short in
          let none : (let why : Result Packet Malformed = Err TooShort in why) ≡ Ok packet = rw yes at reads in
          cc
      | inr long ↦ long
    ]

-- a datagram is for the destination of the packet that it is read as
pub target-of-read : (bytes : List ℕ) (packet : Packet) → read bytes ≡ Ok packet → target bytes ≡ Some (destination packet)
unfolding read target
target-of-read bytes packet reads =
    let long : nat_lt (length bytes) 16 ≡ false = le-ltb (length bytes) 16 (read-has_header bytes packet reads) in
    let is : destination packet ≡ word_at 12 bytes =
    chosen-dest (nat_lt (word_at 0 bytes) (2 ^ 31)) (block_of bytes) packet _ (word_at 12 bytes) refl
    (control-dest (control_type (type_of (word_at 0 bytes))) (word_at 4 bytes) (word_at 8 bytes) (word_at 12 bytes) (drop 16 bytes) packet) (rw long at reads) in
    rw (long, is) refl

-- of a block's datagram too
pub target-read : (seq : ℕ) (flags : Flags) (stamp dest : ℕ) (bytes payload : List ℕ)
    → read bytes ≡ Ok (Block seq flags stamp dest payload) → target bytes ≡ Some dest
target-read seq flags stamp dest bytes payload reads = target-of-read bytes (Block seq flags stamp dest payload) reads

-- a packet's spelling is for its destination
pub target-spelling : (packet : Packet) → IsInRange packet → target (spelling packet) ≡ Some (destination packet)
target-spelling packet fits = target-of-read (spelling packet) packet (read-spelling packet fits)

-- a word that is read has 32 bits
pub word_at-below : (place : ℕ) (bytes : List ℕ) → word_at place bytes < 2 ^ 32
word_at-below place bytes = omega arith

-- and so has one that is written
pub word-mod : (n : ℕ) → word (n % 2 ^ 32) ≡ word n
word-mod n =
    let first : n % 2 ^ 32 / 2 ^ 24 % 2 ^ 8 ≡ n / 2 ^ 24 % 2 ^ 8 = omega arith in
    let second : n % 2 ^ 32 / 2 ^ 16 % 2 ^ 8 ≡ n / 2 ^ 16 % 2 ^ 8 = omega arith in
    let third : n % 2 ^ 32 / 2 ^ 8 % 2 ^ 8 ≡ n / 2 ^ 8 % 2 ^ 8 = omega arith in
    let fourth : n % 2 ^ 32 % 2 ^ 8 ≡ n % 2 ^ 8 = omega arith in
    grind (arith, first, second, third, fourth)

-- ---- handshakes

-- a handshake that a field spells has numbers in range
pub shake_of-in_range : (field : List ℕ) → 48 ≤ length field → IsShakeInRange (shake_of field)
shake_of-in_range field long = record {
  version = word_at-below 0 field;
  kind = word_at-below 4 field;
  isn = omega arith;
  packet = word_at-below 12 field;
  flow = word_at-below 16 field;
  ask = sfits_to_z (record { fits = word_at-below 20 field });
  id = word_at-below 24 field;
  cookie = word_at-below 28 field;
  address = omega (arith, length-take 16 (drop 32 field), length-drop 32 field);
}
