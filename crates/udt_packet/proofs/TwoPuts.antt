-- A packet is written as its header, and then its field.
use Rattle.std.proofs.Common.{◌≡◌, ℕ, ◌+◌, List, ◌++◌, length, take, drop, refl, sym, ap, subst, ◌∙◌, arith}
use Rattle.std.proofs.lemmas.List.{length-append, take_at, drop_at, drop-drop}
use Rattle.udt_model.specs.declared.packets.Flags.{Flags}
use Rattle.udt_model.specs.Wire.{WireRange, field_of}
use Rattle.udt_packet.specs.declared.packet.Packet.{Packet}
use Rattle.udt_packet.specs.declared.packet.Packet.TheVariants.{Block, Handshake, KeepAlive, Ack, Nak, Shutdown, Ack2, DropAsk}
use Rattle.udt_packet.specs.Packets.{packet_of, short_of}

-- the field of what is neither a block nor lost numbers is a short one
pub short-is_field : (packet : Packet) → ((seq : ℕ) (flags : Flags) (stamp dest : ℕ) (bytes : _) → packet ≡ Block seq flags stamp dest bytes → ⊥)
    → ((stamp dest : ℕ) (ranges : List WireRange) → packet ≡ Nak stamp dest ranges → ⊥) → short_of (packet_of packet) ≡ field_of (packet_of packet)
short-is_field (Block seq flags stamp dest bytes) no_block no_losses = absurd (no_block seq flags stamp dest bytes refl)
short-is_field (Nak stamp dest ranges) no_block no_losses = absurd (no_losses stamp dest ranges refl)
short-is_field (Handshake stamp dest shake) no_block no_losses = refl
short-is_field (KeepAlive stamp dest) no_block no_losses = refl
short-is_field (Ack number stamp dest body) no_block no_losses = refl
short-is_field (Shutdown stamp dest) no_block no_losses = refl
short-is_field (Ack2 number stamp dest) no_block no_losses = refl
short-is_field (DropAsk message stamp dest first last) no_block no_losses = refl

-- both stand at the front, and the rest stays
pub record AtFront (old new spelling : List ℕ) (end : ℕ) : Type 0 where
  pub value : end ≡ length spelling
  pub after : new ≡ spelling ++ drop end old

placed-front : (old one two head field : List ℕ) (place end : ℕ) → place ≡ 0 + length head → one ≡ head ++ drop place old
    → end ≡ place + length field → two ≡ take place one ++ field ++ drop end one → AtFront old two (head ++ field) end
placed-front old one two head field place end place_is one_is end_is two_is =
    let front : take place one ≡ head = ap (take place) one_is ∙ take_at head (drop place old) place (omega arith) in
    let rest : drop place one ≡ drop place old = ap (drop place) one_is ∙ drop_at head (drop place old) place (omega arith) in
    let further : (xs : List ℕ) → drop end xs ≡ drop (length field) (drop place xs) =
    λ xs. ap (λ (n : ℕ). drop n xs) end_is ∙ sym (drop-drop (length field) place xs) in
    let following : drop end one ≡ drop end old = further one ∙ ap (drop (length field)) rest ∙ sym (further old) in
    record {
      value = omega (arith, length-append head field);
      after = two_is ∙ ap (λ (xs : List ℕ). xs ++ field ++ drop end one) front ∙ ap (λ (xs : List ℕ). head ++ field ++ xs) following;
    }

pub at-front : (old one two head field first rest : List ℕ) (place end : ℕ) → head ≡ first → field ≡ rest → place ≡ 0 + length head
    → one ≡ head ++ drop place old → end ≡ place + length field → two ≡ take place one ++ field ++ drop end one → AtFront old two (first ++ rest) end
at-front old one two head field first rest place end first_is rest_is place_is one_is end_is two_is =
    subst (λ (spelling : List ℕ). AtFront old two spelling end) (ap (λ (xs : List ℕ). xs ++ field) first_is ∙ ap (λ (xs : List ℕ). first ++ xs) rest_is)
    (placed-front old one two head field place end place_is one_is end_is two_is)
