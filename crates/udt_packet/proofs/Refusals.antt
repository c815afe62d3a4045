-- Which bytes are read as what, and which are refused for which reason.
use Rattle.std.proofs.Common.{◌≡◌, ℕ, ◌%◌, ◌^◌, ◌<◌, ◌≤◌, Bool, true, false, List, length, drop, Option, Some, None, Result, Ok, Err, refl, sym, ap, subst, ◌∙◌, arith, inl, inr}
use Rattle.std.specs.Prelude.{◌↔◌, nat_lt, if◌then◌else◌}
use Rattle.std.proofs.lemmas.Bool.{cases_lt, lt-ltb, le-ltb, ltb-true}
use Rattle.std.proofs.lemmas.List.{length-drop}
use Rattle.udt_model.specs.declared.packets.Malformed.{Malformed}
use Rattle.udt_model.specs.declared.packets.Malformed.TheVariants.{TooShort, UnknownType, BadHandshakeLength, BadNakRange, BadDropLength, BadAckLength}
use Rattle.udt_model.specs.Wire.{Packet, Handshake, Ack, DropAsk, WireRange, word_at, number_at, type_of, shake_of, ack_of, ranges_of, block_of, ControlType, HandshakeType, KeepAliveType, AckType, NakType, ShutdownType, Ack2Type, DropAskType, NoType, control_type, read_losses, read_control, read}
use Rattle.udt_packet.specs.declared.packet.Packet as code
use Rattle.udt_packet.specs.Packets.{IsOfType, IsRefusedFor, reading_of}

-- ---- the three ways of a reading

short-read : (bytes : List ℕ) → length bytes < 16 → read bytes ≡ Err TooShort
unfolding read
short-read bytes short = let is : nat_lt (length bytes) 16 ≡ true = lt-ltb (length bytes) 16 short in rw is refl

pub data-read : (bytes : List ℕ) → 16 ≤ length bytes → word_at 0 bytes < 2 ^ 31 → read bytes ≡ Ok (block_of bytes)
unfolding read
data-read bytes long low =
    let is : nat_lt (length bytes) 16 ≡ false = le-ltb (length bytes) 16 long in
    let data_bit : nat_lt (word_at 0 bytes) (2 ^ 31) ≡ true = lt-ltb (word_at 0 bytes) (2 ^ 31) low in
    rw (is, data_bit) refl

-- a control packet by the bytes of its datagram
abbrev pub control_of : List ℕ → Result Packet Malformed
control_of bytes = read_control (control_type (type_of (word_at 0 bytes))) (word_at 4 bytes) (word_at 8 bytes) (word_at 12 bytes) (drop 16 bytes)

pub control-read : (bytes : List ℕ) → 16 ≤ length bytes → 2 ^ 31 ≤ word_at 0 bytes → read bytes ≡ control_of bytes
unfolding read
control-read bytes long high =
    let is : nat_lt (length bytes) 16 ≡ false = le-ltb (length bytes) 16 long in
    let data_bit : nat_lt (word_at 0 bytes) (2 ^ 31) ≡ false = le-ltb (word_at 0 bytes) (2 ^ 31) high in
    rw (is, data_bit) refl

-- bytes are too short, or are data, or are control
pub by_way : (P : Type 0) (bytes : List ℕ) → (length bytes < 16 → read bytes ≡ Err TooShort → P)
    → (16 ≤ length bytes → word_at 0 bytes < 2 ^ 31 → read bytes ≡ Ok (block_of bytes) → P)
    → (16 ≤ length bytes → 2 ^ 31 ≤ word_at 0 bytes → read bytes ≡ control_of bytes → P) → P
by_way P bytes short block control =
    elim (cases_lt (length bytes) 16) [
      | inl less ↦ short less (short-read bytes less)
      | inr long ↦
          elim (cases_lt (word_at 0 bytes) (2 ^ 31)) [
            | inl low ↦ block long low (data-read bytes long low)
            | inr high ↦ control long high (control-read bytes long high)
          ]
    ]

-- ---- what refuses a field

-- what was refused was too short
refused_short : (short : Bool) (mine why : Malformed) (made : Packet) → (if short then Err mine else Ok made) ≡ Err why → (short ≡ true) × (mine ≡ why)
refused_short true mine why made refuses = (refl, cc)
refused_short false mine why made refuses = cc

-- why the field of a control packet of this type is refused
abbrev IsWhy : ControlType → List ℕ → Malformed → Type 0
IsWhy type field TooShort = ⊥
IsWhy type field UnknownType = type ≡ NoType
IsWhy type field BadHandshakeLength = (type ≡ HandshakeType) × (length field < 48)
IsWhy type field BadNakRange = (type ≡ NakType) × (ranges_of field ≡ None)
IsWhy type field BadDropLength = (type ≡ DropAskType) × (length field < 8)
IsWhy type field BadAckLength = (type ≡ AckType) × (length field < 4)

losses-refuse : (stamp dest : ℕ) (ranges : Option (List WireRange)) (why : Malformed) → read_losses stamp dest ranges ≡ Err why → (ranges ≡ None) × (BadNakRange ≡ why)
losses-refuse stamp dest (Some ranges) why refuses = cc
losses-refuse stamp dest None why refuses = (refl, cc)

control-refuses : (type : ControlType) (info stamp dest : ℕ) (field : List ℕ) (why : Malformed) → read_control type info stamp dest field ≡ Err why
    → IsWhy type field why
unfolding read_control
control-refuses HandshakeType info stamp dest field why refuses =
    let is = refused_short (nat_lt (length field) 48) BadHandshakeLength why (Handshake stamp dest (shake_of field)) refuses in
    subst (IsWhy HandshakeType field) is.1 (refl, ltb-true (length field) 48 is.0)
control-refuses AckType info stamp dest field why refuses =
    let is = refused_short (nat_lt (length field) 4) BadAckLength why (Ack info stamp dest (ack_of field)) refuses in
    subst (IsWhy AckType field) is.1 (refl, ltb-true (length field) 4 is.0)
control-refuses NakType info stamp dest field why refuses =
    let is = losses-refuse stamp dest (ranges_of field) why refuses in
    subst (IsWhy NakType field) is.1 (refl, is.0)
control-refuses DropAskType info stamp dest field why refuses =
    let is = refused_short (nat_lt (length field) 8) BadDropLength why (DropAsk (info % 2 ^ 29) stamp dest (number_at 0 field) (number_at 4 field)) refuses in
    subst (IsWhy DropAskType field) is.1 (refl, ltb-true (length field) 8 is.0)
control-refuses NoType info stamp dest field why refuses = let same : UnknownType ≡ why = cc in subst (IsWhy NoType field) same refl
control-refuses KeepAliveType info stamp dest field why refuses = cc
control-refuses ShutdownType info stamp dest field why refuses = cc
control-refuses Ack2Type info stamp dest field why refuses = cc

-- and it is refused wherever there is such a reason
refuses-control : (type : ControlType) (info stamp dest : ℕ) (field : List ℕ) (why : Malformed) → IsWhy type field why
    → read_control type info stamp dest field ≡ Err why
unfolding read_control
refuses-control type info stamp dest field TooShort is = absurd is
refuses-control type info stamp dest field UnknownType is = rw is refl
refuses-control type info stamp dest field BadHandshakeLength is =
    let short : nat_lt (length field) 48 ≡ true = lt-ltb (length field) 48 is.1 in rw (is.0, short) refl
refuses-control type info stamp dest field BadNakRange is = rw (is.0, is.1) refl
refuses-control type info stamp dest field BadDropLength is =
    let short : nat_lt (length field) 8 ≡ true = lt-ltb (length field) 8 is.1 in rw (is.0, short) refl
refuses-control type info stamp dest field BadAckLength is =
    let short : nat_lt (length field) 4 ≡ true = lt-ltb (length field) 4 is.1 in rw (is.0, short) refl

-- ---- what refuses bytes

-- the reason of the field is the reason of the bytes
why-from : (bytes : List ℕ) (why : Malformed) → 16 ≤ length bytes → 2 ^ 31 ≤ word_at 0 bytes
    → IsWhy (control_type (type_of (word_at 0 bytes))) (drop 16 bytes) why → IsRefusedFor bytes why
why-from bytes TooShort long high is = absurd is
why-from bytes UnknownType long high is = record { long = long; control = high; is = is }
why-from bytes BadHandshakeLength long high is = (record { long = long; control = high; is = is.0 }, omega (arith, length-drop 16 bytes, is.1))
why-from bytes BadNakRange long high is = (record { long = long; control = high; is = is.0 }, is.1)
why-from bytes BadDropLength long high is = (record { long = long; control = high; is = is.0 }, omega (arith, length-drop 16 bytes, is.1))
why-from bytes BadAckLength long high is = (record { long = long; control = high; is = is.0 }, omega (arith, length-drop 16 bytes, is.1))

refuses-read : (bytes : List ℕ) (why : Malformed) → read bytes ≡ Err why → IsRefusedFor bytes why
refuses-read bytes why refuses =
    by_way (IsRefusedFor bytes why) bytes (λ short is. let same : TooShort ≡ why = cc in subst (IsRefusedFor bytes) same short) (λ long low is. cc)
    (λ long high is. why-from bytes why long high (control-refuses _ _ _ _ _ why (sym is ∙ refuses)))

refused_of : (bytes : List ℕ) (why : Malformed) (type : ControlType) → IsOfType type bytes → IsWhy type (drop 16 bytes) why → read bytes ≡ Err why
refused_of bytes why type of is =
    control-read bytes of.long of.control
    ∙ refuses-control _ (word_at 4 bytes) (word_at 8 bytes) (word_at 12 bytes) (drop 16 bytes) why (subst (λ (t : ControlType). IsWhy t (drop 16 bytes) why) (sym of.is) is)

read-refuses : (bytes : List ℕ) (why : Malformed) → IsRefusedFor bytes why → read bytes ≡ Err why
read-refuses bytes TooShort is = short-read bytes is
read-refuses bytes UnknownType is = refused_of bytes UnknownType NoType is refl
read-refuses bytes BadHandshakeLength is = refused_of bytes BadHandshakeLength HandshakeType is.0 (refl, omega (arith, length-drop 16 bytes, is.1, is.0.long))
read-refuses bytes BadNakRange is = refused_of bytes BadNakRange NakType is.0 (refl, is.1)
read-refuses bytes BadDropLength is = refused_of bytes BadDropLength DropAskType is.0 (refl, omega (arith, length-drop 16 bytes, is.1, is.0.long))
read-refuses bytes BadAckLength is = refused_of bytes BadAckLength AckType is.0 (refl, omega (arith, length-drop 16 bytes, is.1, is.0.long))

refused-seen : (result : Result code.Packet Malformed) (why : Malformed) → reading_of result ≡ Err why → result ≡ Err why
refused-seen (Ok packet) why refuses = cc
refused-seen (Err mine) why refuses = cc

-- bytes are refused for a reason exactly where it holds of them
pub refused : (bytes : List ℕ) (result : Result code.Packet Malformed) → reading_of result ≡ read bytes
    → (why : Malformed) → (result ≡ Err why ↔ IsRefusedFor bytes why)
refused bytes result value why =
    (λ refuses. refuses-read bytes why (sym value ∙ ap reading_of refuses), λ is. refused-seen result why (value ∙ read-refuses bytes why is))
