-- Bytes that are read as a block are its one spelling.
use Rattle.std.proofs.Common.{◌≡◌, ℕ, ◌+◌, ◌%◌, ◌^◌, ◌<◌, ◌≤◌, List, ◌++◌, length, get_or, take, drop, Ok, refl, sym, ap, subst, ◌∙◌, append_assoc, arith, inl, inr}
use Rattle.std.proofs.lemmas.Bool.{cases_lt}
use Rattle.std.proofs.lemmas.List.{take-append-drop, length-take, length-drop, get_or-drop, get_or-take, get_or_past, drop-drop}
use Rattle.std.proofs.lemmas.Nat.{be_bytes_4}
use Rattle.udt_model.specs.declared.packets.Malformed.TheVariants.{BadHandshakeLength, BadDropLength, BadAckLength}
use Rattle.udt_model.specs.Wire.{Packet, Handshake, KeepAlive, Ack, Nak, Shutdown, Ack2, DropAsk, WireRange, ControlType, HandshakeType, KeepAliveType, AckType, NakType, ShutdownType, Ack2Type, DropAskType, NoType, flags_word, flags_of, word, word_at, number_at, shake_of, ack_of, ranges_of, spelling, read, read_losses, read_control, block_of}
use Rattle.udt_model.proofs.WireLemmas.{read_long, word-mod, word_at-below}
use Rattle.udt_packet.proofs.Refusals.{by_way}
use Rattle.std.specs.Prelude.{Option, None, Some, nat_lt}
use Rattle.udt_packet.specs.Packets.{AreBytes, IsBlock, HasOneSpelling}

-- a word makes the flags that it tells
word_again : (n : ℕ) → n < 2 ^ 32 → flags_word (flags_of n) ≡ n
word_again n lt = grind arith

-- ---- words

-- each number at a place of the bytes, and past their end, is a byte
byte_at : (bytes : List ℕ) → AreBytes bytes → (i : ℕ) → get_or bytes i 0 < 256
byte_at bytes are i =
    elim (cases_lt i (length bytes)) [
      | inl lt ↦ are i 0 lt
      | inr le ↦ rw (get_or_past bytes i 0 le) (omega arith)
    ]

-- so it is in the four bytes from a place on
part_at : (place : ℕ) (bytes : List ℕ) → AreBytes bytes → (i : ℕ) → get_or (take 4 (drop place bytes)) i 0 < 256
part_at place bytes are i =
    elim (cases_lt i 4) [
      | inl lt ↦ rw (get_or-take 4 (drop place bytes) i 0 lt, get_or-drop) (byte_at bytes are (place + i))
      | inr le ↦ rw (get_or_past (take 4 (drop place bytes)) i 0 (omega (arith, length-take 4 (drop place bytes)))) (omega arith)
    ]

-- a word that was read spells the four bytes that it was read from
word_at-spells : (place : ℕ) (bytes : List ℕ) → AreBytes bytes → place + 4 ≤ length bytes → word (word_at place bytes) ≡ take 4 (drop place bytes)
word_at-spells place bytes are long =
    word-mod _
    ∙ be_bytes_4 (take 4 (drop place bytes)) _
    (omega (arith, length-take 4 (drop place bytes), length-drop place bytes)) (part_at place bytes are) refl

-- four bytes from a place on, and all after them
next_four : (place : ℕ) (bytes : List ℕ) → take 4 (drop place bytes) ++ drop (place + 4) bytes ≡ drop place bytes
next_four place bytes = ap (λ (rest : List ℕ). take 4 (drop place bytes) ++ rest) (sym (drop-drop 4 place bytes)) ∙ take-append-drop 4 (drop place bytes)

-- four words, and all after them
four_words : (bytes a b c d : List ℕ) → a ≡ take 4 (drop 0 bytes) → b ≡ take 4 (drop 4 bytes) → c ≡ take 4 (drop 8 bytes) → d ≡ take 4 (drop 12 bytes)
    → a ++ b ++ c ++ d ++ drop 16 bytes ≡ bytes
four_words bytes a b c d first second third fourth =
    let w4 = take 4 (drop 4 bytes) in
    let w8 = take 4 (drop 8 bytes) in
    rw (first, second, third, fourth, append_assoc (take 4 bytes ++ w4 ++ w8) (take 4 (drop 12 bytes)) (drop 16 bytes), next_four 12 bytes, append_assoc (take 4 bytes ++ w4) w8 (drop 12 bytes), next_four 8 bytes, append_assoc (take 4 bytes) w4 (drop 8 bytes), next_four 4 bytes) (next_four 0 bytes)

-- ---- blocks

-- bytes that are long enough are the spelling of the block that they spell
spells : (bytes : List ℕ) → AreBytes bytes → 16 ≤ length bytes → spelling (block_of bytes) ≡ bytes
unfolding spelling
spells bytes are long =
    four_words bytes _ _ _ _
    (word_at-spells 0 bytes are (omega arith))
    (ap word (word_again (word_at 4 bytes) (word_at-below 4 bytes)) ∙ word_at-spells 4 bytes are (omega arith))
    (word_at-spells 8 bytes are (omega arith))
    (word_at-spells 12 bytes are (omega arith))

-- what a control packet spells is no block
losses-no_block : (stamp dest : ℕ) (ranges : Option (List WireRange)) (packet : Packet) → IsBlock packet → read_losses stamp dest ranges ≡ Ok packet → ⊥
losses-no_block stamp dest (Some ranges) packet is reads = let same : Nak stamp dest ranges ≡ packet = cc in subst IsBlock (sym same) is
losses-no_block stamp dest None packet is reads = cc

control-no_block : (type : ControlType) (info stamp dest : ℕ) (field : List ℕ) (packet : Packet) → IsBlock packet → read_control type info stamp dest field ≡ Ok packet → ⊥
unfolding read_control
control-no_block HandshakeType info stamp dest field packet is reads =
    subst IsBlock (sym (read_long (nat_lt (length field) 48) BadHandshakeLength (Handshake stamp dest (shake_of field)) packet reads).1) is
control-no_block AckType info stamp dest field packet is reads =
    subst IsBlock (sym (read_long (nat_lt (length field) 4) BadAckLength (Ack info stamp dest (ack_of field)) packet reads).1) is
control-no_block NakType info stamp dest field packet is reads = losses-no_block stamp dest (ranges_of field) packet is reads
control-no_block DropAskType info stamp dest field packet is reads =
    subst IsBlock (sym (read_long (nat_lt (length field) 8) BadDropLength (DropAsk (info % 2 ^ 29) stamp dest (number_at 0 field) (number_at 4 field)) packet reads).1) is
control-no_block KeepAliveType info stamp dest field packet is reads = let same : KeepAlive stamp dest ≡ packet = cc in subst IsBlock (sym same) is
control-no_block ShutdownType info stamp dest field packet is reads = let same : Shutdown stamp dest ≡ packet = cc in subst IsBlock (sym same) is
control-no_block Ack2Type info stamp dest field packet is reads = let same : Ack2 info stamp dest ≡ packet = cc in subst IsBlock (sym same) is
control-no_block NoType info stamp dest field packet is reads = cc

-- a block that was read is that of the bytes. There are enough of them, and the first bit isn't set
pub record IsBlockOf (bytes : List ℕ) (packet : Packet) : Type 0 where
  pub long : 16 ≤ length bytes
  pub low : word_at 0 bytes < 2 ^ 31
  pub is : block_of bytes ≡ packet

pub read_as_block : (bytes : List ℕ) (packet : Packet) → IsBlock packet → read bytes ≡ Ok packet → IsBlockOf bytes packet
read_as_block bytes packet is_block reads =
    by_way (IsBlockOf bytes packet) bytes (λ short is. cc) (λ long low is. record { long = long; low = low; is = cc })
    (λ long high is. absurd (control-no_block _ _ _ _ _ packet is_block (sym is ∙ reads)))

-- so the bytes are its spelling
block_spelled : (bytes : List ℕ) (packet : Packet) → AreBytes bytes → IsBlock packet → read bytes ≡ Ok packet → bytes ≡ spelling packet
block_spelled bytes packet are is_block reads =
    let is = read_as_block bytes packet is_block reads in
    sym (spells bytes are is.long) ∙ ap spelling is.is

pub one_spelling : (packet : Packet) → IsBlock packet → HasOneSpelling packet
one_spelling packet is_block bytes are reads = block_spelled bytes packet are is_block reads
