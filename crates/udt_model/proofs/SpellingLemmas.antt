-- What spellings are read as, whether or not their numbers fit their places.
use Rattle.std.proofs.Common.{◌≡◌, ℕ, ◌%◌, ◌^◌, ◌<◌, Bool, true, false, List, [], ◌++◌, drop, Option, Some, None, Result, Ok, refl, sym, ap, subst, ◌∙◌, arith}
use Rattle.std.specs.Prelude.{FitsSigned, nat_lt, length, if◌then◌else◌}
use Rattle.std.specs.Int.{w32, cast_signed, cast_unsigned}
use Rattle.std.proofs.lemmas.Bool.{lt-ltb, le-ltb, ltb-false}
use Rattle.std.proofs.lemmas.Option.{same_Some}
use Rattle.std.proofs.Math.Facts.{to_z-of_z, Fits-of_z}
use Rattle.udt_model.specs.declared.packets.Shake.{Shake}
use Rattle.udt_model.specs.declared.packets.Malformed.{Malformed}
use Rattle.udt_model.specs.declared.packets.Malformed.TheVariants.{BadHandshakeLength, BadDropLength, BadAckLength}
use Rattle.udt_model.proofs.RangeLemmas.{word_of-word}
use Rattle.udt_model.specs.Wire.{Packet, Block, Handshake, KeepAlive, Ack, Nak, Shutdown, Ack2, DropAsk, WireRange, ControlType, HandshakeType, AckType, NakType, DropAskType, control_type, flags_word, type_word, type_of, word, word_at, number_at, header, shake_bytes, ack_bytes, ranges_bytes, spelling, destination, IsShakeInRange, IsInRange, block_of, shake_of, ack_of, ranges_of, read_shake, read_losses, read_control, read, target}
use Rattle.udt_model.proofs.WireLemmas.{length-header, first_word, second_word, fourth_word, field-header, read-ack_emitted, number-reads, read_long, read-has_header, target-of-read, word_at-below, shake_of-in_range}

-- ---- handshakes

shake-long : (stamp dest : ℕ) (field : List ℕ) (packet : Packet) → read_shake stamp dest field ≡ Ok packet
    → IsShakeInRange (shake_of field) × (Handshake stamp dest (shake_of field) ≡ packet)
shake-long stamp dest field packet reads =
    let is = read_long (nat_lt (length field) 48) BadHandshakeLength (Handshake stamp dest (shake_of field)) packet
    reads in
    (shake_of-in_range field (ltb-false (length field) 48 is.0), is.1)

losses-no_shake : (stamp dest s d : ℕ) (ranges : Option (List WireRange)) (shake : Shake)
    → read_losses stamp dest ranges ≡ Ok (Handshake s d shake) → ⊥
losses-no_shake stamp dest s d (Some ranges) shake reads = cc
losses-no_shake stamp dest s d None shake reads = cc

-- a handshake that was read, of the words of its header
control-shake : (type : ControlType) (info stamp dest : ℕ) (field : List ℕ) (s d : ℕ) (shake : Shake)
    → read_control type info stamp dest field ≡ Ok (Handshake s d shake)
    → IsShakeInRange (shake_of field) × (Handshake stamp dest (shake_of field) ≡ Handshake s d shake)
unfolding read_control
control-shake HandshakeType info stamp dest field s d shake reads = shake-long stamp dest field (Handshake s d shake)
    reads
control-shake AckType info stamp dest field s d shake reads =
    let is = (read_long (nat_lt (length field) 4) BadAckLength (Ack info stamp dest (ack_of field))
    (Handshake s d shake) reads).1 in
    absurd (cc)
control-shake NakType info stamp dest field s d shake reads =
    absurd (losses-no_shake stamp dest s d (ranges_of field) shake reads)
control-shake DropAskType info stamp dest field s d shake reads =
    let is =
    (read_long (nat_lt (length field) 8) BadDropLength (DropAsk (info % 2 ^ 29) stamp dest (number_at 0 field)
    (number_at 4 field)) (Handshake s d shake) reads).1 in
    absurd (cc)
control-shake _ info stamp dest field s d shake reads = absurd (cc)

chosen-shake : (data_bit : Bool) (block : List ℕ) (control : Result Packet Malformed) (s d : ℕ) (shake : Shake)
    → (if data_bit then Ok (block_of block) else control) ≡ Ok (Handshake s d shake)
    → control ≡ Ok (Handshake s d shake)
chosen-shake true block control s d shake reads = absurd (cc)
chosen-shake false block control s d shake reads = reads

-- each handshake that is read has numbers in range
pub read-in_range : (bytes : List ℕ) (stamp dest : ℕ) (shake : Shake) → read bytes ≡ Ok (Handshake stamp dest shake)
    → IsInRange (Handshake stamp dest shake)
unfolding read
read-in_range bytes stamp dest shake reads =
    let long : nat_lt (length bytes) 16 ≡ false =
    le-ltb (length bytes) 16 (read-has_header bytes (Handshake stamp dest shake) reads) in
    let is =
    control-shake (control_type (type_of (word_at 0 bytes))) (word_at 4 bytes) (word_at 8 bytes) (word_at 12 bytes)
    (drop 16 bytes) stamp dest shake
    (chosen-shake (nat_lt (word_at 0 bytes) (2 ^ 31)) bytes _ stamp dest shake (rw long at reads)) in
    subst IsInRange is.1 (is.0, word_at-below 8 bytes, word_at-below 12 bytes)

-- what a handshake's spelling is read as is a handshake for the same ID, of the same type, ID and initial sequence
-- number, where these fit their places
pub record IsReadShake (stamp dest : ℕ) (shake : Shake) (packet : Packet) : Type 0 where
  pub read_stamp : ℕ
  pub read_dest : ℕ
  pub read_shake : Shake
  pub is : packet ≡ Handshake read_stamp read_dest read_shake
  pub same_dest : dest < 2 ^ 32 → read_dest ≡ dest
  pub same_ask : FitsSigned w32 shake.ask → read_shake.ask ≡ shake.ask
  pub same_id : shake.id < 2 ^ 32 → read_shake.id ≡ shake.id
  pub same_isn : shake.isn < 2 ^ 31 → read_shake.isn ≡ shake.isn
  pub same_kind : shake.kind < 2 ^ 32 → read_shake.kind ≡ shake.kind

shake-field : (stamp dest : ℕ) (shake : Shake) (packet : Packet) → read (spelling (Handshake stamp dest shake))
    ≡ Ok packet
    → Handshake (word_at 8 (spelling (Handshake stamp dest shake))) (word_at 12 (spelling (Handshake stamp dest shake)))
    (shake_of (shake_bytes shake)) ≡ packet
unfolding spelling read_control
shake-field stamp dest shake packet reads =
    let field = shake_bytes shake in
    let bytes = header (type_word 0) 0 stamp dest ++ field in
    let is =
    read-ack_emitted bytes (type_word 0) 0 (word_at 8 bytes) (word_at 12 bytes) field
    (omega (arith, length-header (type_word 0) 0 stamp dest field))
    (omega arith) (first_word (type_word 0) 0 stamp dest field (omega arith))
    (second_word (type_word 0) 0 stamp dest field (omega arith))
    refl refl (field-header (type_word 0) 0 stamp dest field) in
    (shake-long (word_at 8 bytes) (word_at 12 bytes) field packet (sym is ∙ reads)).1

-- of each spelling of a handshake that is read at all
pub read-shake_spelling : (stamp dest : ℕ) (shake : Shake) (packet : Packet)
    → read (spelling (Handshake stamp dest shake)) ≡ Ok packet
    → IsReadShake stamp dest shake packet
unfolding spelling
read-shake_spelling stamp dest shake packet reads = record {
  read_stamp = word_at 8 (spelling (Handshake stamp dest shake));
  read_dest = word_at 12 (spelling (Handshake stamp dest shake));
  read_shake = shake_of (shake_bytes shake);
  is = sym (shake-field stamp dest shake packet reads);
  same_dest = λ fits. fourth_word (type_word 0) 0 stamp dest (shake_bytes shake) fits;
  same_ask = λ fits. ap (cast_signed w32) (word_of-word (cast_unsigned w32 shake.ask) (Fits-of_z fits).fits)
      ∙ to_z-of_z fits;
  same_id = λ fits. word_of-word shake.id fits;
  same_isn = λ fits. number-reads shake.isn _ fits (word_of-word shake.isn (omega arith));
  same_kind = λ fits. word_of-word shake.kind fits;
}

-- ---- destinations of spellings

header-target : (first second third fourth : ℕ) (field : List ℕ) → fourth < 2 ^ 32
    → target (header first second third fourth ++ field) ≡ Some fourth
unfolding target
header-target first second third fourth field fits =
    let bytes = header first second third fourth ++ field in
    let long : nat_lt (length bytes) 16 ≡ false =
    le-ltb (length bytes) 16 (omega (arith, length-header first second third fourth field)) in
    rw (long, fourth_word first second third fourth field fits) refl

spelling-target : (packet : Packet) → destination packet < 2 ^ 32 → target (spelling packet) ≡ Some (destination packet)
unfolding spelling
spelling-target (Block seq flags stamp dest bytes) fits = header-target seq (flags_word flags) stamp dest bytes fits
spelling-target (Handshake stamp dest shake) fits = header-target (type_word 0) 0 stamp dest (shake_bytes shake) fits
spelling-target (KeepAlive stamp dest) fits = header-target (type_word 1) 0 stamp dest [] fits
spelling-target (Ack number stamp dest body) fits = header-target (type_word 2) number stamp dest (ack_bytes body) fits
spelling-target (Nak stamp dest ranges) fits = header-target (type_word 3) 0 stamp dest (ranges_bytes ranges) fits
spelling-target (Shutdown stamp dest) fits = header-target (type_word 5) 0 stamp dest [] fits
spelling-target (Ack2 number stamp dest) fits = header-target (type_word 6) number stamp dest [] fits
spelling-target (DropAsk message stamp dest first last) fits =
    header-target (type_word 7) message stamp dest (word first ++ word last) fits

-- what a spelling is read as is for the ID that the packet names, where this fits its place
pub spelling-dest : (packet read_as : Packet) → destination packet < 2 ^ 32 → read (spelling packet) ≡ Ok read_as
    → destination read_as ≡ destination packet
spelling-dest packet read_as fits reads =
    same_Some (destination read_as) (destination packet) (sym (target-of-read (spelling packet) read_as reads)
    ∙ spelling-target packet fits)

-- ---- what reads as no handshake

-- the spelling of a packet that is no handshake, whose sequence number fits its place
abbrev pub IsPlain : Packet → Type 0
IsPlain (Block seq flags stamp dest bytes) = seq < 2 ^ 31
IsPlain (Handshake stamp dest shake) = ⊥
IsPlain other = Unit {0}

control-no_shake : (type : ControlType) (info stamp dest : ℕ) (field : List ℕ) (s d : ℕ) (shake : Shake)
    → (type ≡ HandshakeType → ⊥)
    → read_control type info stamp dest field ≡ Ok (Handshake s d shake) → ⊥
unfolding read_control
control-no_shake HandshakeType info stamp dest field s d shake other reads = other refl
control-no_shake AckType info stamp dest field s d shake other reads =
    let is = (read_long (nat_lt (length field) 4) BadAckLength (Ack info stamp dest (ack_of field))
    (Handshake s d shake) reads).1 in
    cc
control-no_shake NakType info stamp dest field s d shake other reads = losses-no_shake stamp dest s d (ranges_of field)
    shake reads
control-no_shake DropAskType info stamp dest field s d shake other reads =
    let is =
    (read_long (nat_lt (length field) 8) BadDropLength (DropAsk (info % 2 ^ 29) stamp dest (number_at 0 field)
    (number_at 4 field)) (Handshake s d shake) reads).1 in
    cc
control-no_shake _ info stamp dest field s d shake other reads = cc

-- what stands after the header of a control packet is read by its type, whatever its other words are
header-no_shake : (type info stamp dest : ℕ) (field : List ℕ) (s d : ℕ) (shake : Shake) → type < 2 ^ 15
    → (control_type type ≡ HandshakeType → ⊥)
    → read (header (type_word type) info stamp dest ++ field) ≡ Ok (Handshake s d shake) → ⊥
header-no_shake type info stamp dest field s d shake fits other reads =
    let bytes = header (type_word type) info stamp dest ++ field in
    let is_type : type_of (type_word type) ≡ type = omega arith in
    let is =
    read-ack_emitted bytes (type_word type) (word_at 4 bytes) (word_at 8 bytes) (word_at 12 bytes) field
    (omega (arith, length-header (type_word type) info stamp dest field)) (omega arith)
    (first_word (type_word type) info stamp dest field (omega arith)) refl refl refl
    (field-header (type_word type) info stamp dest field)
    ∙ ap (λ (t : ℕ). read_control (control_type t) (word_at 4 bytes) (word_at 8 bytes) (word_at 12 bytes) field) is_type
    in
    control-no_shake (control_type type) (word_at 4 bytes) (word_at 8 bytes) (word_at 12 bytes) field s d shake other
    (sym is ∙ reads)

block-no_shake : (seq second stamp dest : ℕ) (field : List ℕ) (s d : ℕ) (shake : Shake) → seq < 2 ^ 31
    → read (header seq second stamp dest ++ field) ≡ Ok (Handshake s d shake) → ⊥
unfolding read
block-no_shake seq second stamp dest field s d shake fits reads =
    let bytes = header seq second stamp dest ++ field in
    let long : nat_lt (length bytes) 16 ≡ false =
    le-ltb (length bytes) 16 (omega (arith, length-header seq second stamp dest field)) in
    let first = first_word seq second stamp dest field (omega arith) in
    let data_bit : nat_lt (word_at 0 bytes) (2 ^ 31) ≡ true =
    lt-ltb (word_at 0 bytes) (2 ^ 31) (omega (arith, first, fits)) in
    let is : Ok (block_of bytes) ≡ Ok (Handshake s d shake) = rw (long, data_bit) at reads in
    cc

-- it is never read as a handshake
pub plain-no_shake : (packet : Packet) (s d : ℕ) (shake : Shake) → IsPlain packet → read (spelling packet)
    ≡ Ok (Handshake s d shake) → ⊥
unfolding spelling
plain-no_shake (Block seq flags stamp dest bytes) s d shake plain reads = block-no_shake seq (flags_word flags) stamp
    dest bytes s d shake plain reads
plain-no_shake (Handshake stamp dest other) s d shake plain reads = plain
plain-no_shake (KeepAlive stamp dest) s d shake plain reads = header-no_shake 1 0 stamp dest [] s d shake (omega arith)
    (λ is. cc) reads
plain-no_shake (Ack number stamp dest body) s d shake plain reads =
    header-no_shake 2 number stamp dest (ack_bytes body) s d shake (omega arith) (λ is. cc) reads
plain-no_shake (Nak stamp dest ranges) s d shake plain reads =
    header-no_shake 3 0 stamp dest (ranges_bytes ranges) s d shake (omega arith) (λ is. cc) reads
plain-no_shake (Shutdown stamp dest) s d shake plain reads = header-no_shake 5 0 stamp dest [] s d shake (omega arith)
    (λ is. cc) reads
plain-no_shake (Ack2 number stamp dest) s d shake plain reads = header-no_shake 6 number stamp dest [] s d shake
    (omega arith) (λ is. cc) reads
plain-no_shake (DropAsk message stamp dest first last) s d shake plain reads =
    header-no_shake 7 message stamp dest (word first ++ word last) s d shake (omega arith) (λ is. cc) reads
