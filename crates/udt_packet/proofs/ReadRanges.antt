-- The numbers of what was read fit their places.
use Rattle.std.proofs.Common.{◌≡◌, ℕ, ◌+◌, ◌%◌, ◌^◌, ◌<◌, Bool, true, false, List, length, drop, get_or, Option, Some, None, Ok, refl, sym, subst, ◌∙◌, arith}
use Rattle.std.specs.Prelude.{IfOk, Result, Err, nat_lt, if◌then◌else◌}
use Rattle.std.proofs.lemmas.Bool.{ltb-false}
use Rattle.std.proofs.lemmas.List.{length-drop, get_or-drop, get_or_default}
use Rattle.udt_model.specs.declared.packets.AckBody.{AckBody}
use Rattle.udt_model.specs.declared.packets.AckBody.TheVariants.{Light, Buffer, Full}
use Rattle.udt_model.specs.declared.packets.Malformed.{Malformed}
use Rattle.udt_model.specs.declared.packets.Malformed.TheVariants.{BadHandshakeLength, BadDropLength, BadAckLength}
use Rattle.udt_model.specs.Wire.{Packet, Handshake, KeepAlive, Ack, Nak, Shutdown, Ack2, DropAsk, WireRange, ControlType, HandshakeType, KeepAliveType, AckType, NakType, ShutdownType, Ack2Type, DropAskType, NoType, word_at, number_at, shake_of, ack_of, ranges_of, read, read_losses, read_control, block_of, IsAckInRange, IsInRange}
use Rattle.udt_model.proofs.WireLemmas.{read_long, word_at-below, shake_of-in_range}
use Rattle.udt_packet.specs.declared.packet.Packet as code
use Rattle.udt_packet.specs.Packets.{AreBytes, IsReadInRange, packet_of, reading_of}
use Rattle.udt_packet.proofs.Refusals.{by_way}
use Rattle.udt_packet.proofs.RangeWords.{field-in_range}

-- what stands after a header is bytes
following-bytes : (bytes : List ℕ) → AreBytes bytes → AreBytes (drop 16 bytes)
following-bytes bytes are k d lt = rw (get_or-drop 16 bytes k d) (are (16 + k) d (omega (arith, length-drop 16 bytes)))

number_at-below : (place : ℕ) (bytes : List ℕ) → number_at place bytes < 2 ^ 31
number_at-below place bytes = omega arith

ack-chosen : (light buffer : Bool) (a b c : AckBody) → IsAckInRange a → IsAckInRange b → IsAckInRange c
    → IsAckInRange (if light then a else (if buffer then b else c))
ack-chosen true buffer a b c is_a is_b is_c = is_a
ack-chosen false true a b c is_a is_b is_c = is_b
ack-chosen false false a b c is_a is_b is_c = is_c

ack-in_range : (field : List ℕ) → AreBytes field → IsAckInRange (ack_of field)
ack-in_range field are =
    let ack = number_at-below 0 field in
    let rtt = word_at-below 4 field in
    let var = word_at-below 8 field in
    let buffer = word_at-below 12 field in
    ack-chosen (nat_lt (length field) 16) (nat_lt (length field) 24)
    (Light (number_at 0 field))
    (Buffer (number_at 0 field) (word_at 4 field) (word_at 8 field) (word_at 12 field))
    (Full (number_at 0 field) (word_at 4 field) (word_at 8 field) (word_at 12 field) (word_at 16 field) (word_at 20 field))
    ack
    (ack, rtt, var, buffer)
    (ack, rtt, var, buffer, word_at-below 16 field, word_at-below 20 field)

losses-in_range : (stamp dest : ℕ) (field : List ℕ) (ranges : Option (List WireRange)) (packet : Packet) → stamp < 2 ^ 32 → dest < 2 ^ 32
    → ranges ≡ ranges_of field → read_losses stamp dest ranges ≡ Ok packet → IsInRange packet
losses-in_range stamp dest field (Some ranges) packet stamp_fits dest_fits is reads =
    let same : Nak stamp dest ranges ≡ packet = cc in
    let each = field-in_range field ranges (sym is) in
    subst IsInRange same (each.0, each.1, stamp_fits, dest_fits)
losses-in_range stamp dest field None packet stamp_fits dest_fits is reads = cc

module _ (info stamp dest : ℕ) (field : List ℕ) (are : AreBytes field) (info_fits : info < 2 ^ 32) (stamp_fits : stamp < 2 ^ 32) (dest_fits : dest < 2 ^ 32) where
  control-in_range : (type : ControlType) (packet : Packet) → read_control type info stamp dest field ≡ Ok packet → IsInRange packet
  unfolding read_control
  control-in_range HandshakeType packet reads =
      let is = read_long (nat_lt (length field) 48) BadHandshakeLength (Handshake stamp dest (shake_of field)) packet reads in
      subst IsInRange is.1 (shake_of-in_range field (ltb-false (length field) 48 is.0), stamp_fits, dest_fits)
  control-in_range AckType packet reads =
      subst IsInRange (read_long (nat_lt (length field) 4) BadAckLength (Ack info stamp dest (ack_of field)) packet reads).1
      (ack-in_range field are, info_fits, stamp_fits, dest_fits)
  control-in_range NakType packet reads = losses-in_range stamp dest field (ranges_of field) packet stamp_fits dest_fits refl reads
  control-in_range DropAskType packet reads =
      subst IsInRange (read_long (nat_lt (length field) 8) BadDropLength (DropAsk (info % 2 ^ 29) stamp dest (number_at 0 field) (number_at 4 field)) packet reads).1
      (omega arith, number_at-below 0 field, number_at-below 4 field, stamp_fits, dest_fits)
  control-in_range KeepAliveType packet reads = let same : KeepAlive stamp dest ≡ packet = cc in subst IsInRange same (stamp_fits, dest_fits)
  control-in_range ShutdownType packet reads = let same : Shutdown stamp dest ≡ packet = cc in subst IsInRange same (stamp_fits, dest_fits)
  control-in_range Ack2Type packet reads = let same : Ack2 info stamp dest ≡ packet = cc in subst IsInRange same (info_fits, stamp_fits, dest_fits)
  control-in_range NoType packet reads = cc

-- a packet that was read is in range
pub in_range : (packet : Packet) → IsReadInRange packet
in_range packet bytes are reads =
    by_way (IsInRange packet) bytes (λ short is. cc)
    (λ long low is.
    let same : block_of bytes ≡ packet = cc in
    subst IsInRange same (low, omega arith, word_at-below 8 bytes, word_at-below 12 bytes))
    (λ long high is. control-in_range (word_at 4 bytes) (word_at 8 bytes) (word_at 12 bytes) (drop 16 bytes) (following-bytes bytes are)
    (word_at-below 4 bytes) (word_at-below 8 bytes) (word_at-below 12 bytes) _ packet (sym is ∙ reads))

-- what the code read
pub are_bytes : (bytes : List ℕ) → ((k : ℕ) → get_or bytes k 0 < 2 ^ 8) → AreBytes bytes
are_bytes bytes fits k d lt = rw (get_or_default bytes k d 0 lt) (fits k)

pub seen-in_range : (bytes : List ℕ) (result : Result code.Packet Malformed) → AreBytes bytes → reading_of result ≡ read bytes
    → IfOk result (λ packet. IsInRange (packet_of packet))
seen-in_range bytes (Ok packet) are value = in_range (packet_of packet) bytes are (sym value)
seen-in_range bytes (Err why) are value = tt
