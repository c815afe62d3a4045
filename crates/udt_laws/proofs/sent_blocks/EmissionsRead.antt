-- What a socket emits reads as the packet that it is, which goes to the peer.
use Rattle.std.proofs.Common.{◌≡◌, ℕ, ◌*◌, ◌/◌, ◌%◌, ◌^◌, ◌<◌, ◌≤◌, Bool, true, false, List, [], ◌∷◌, ◌++◌, Ok, refl, ap, ◌∙◌, sym, subst, arith}
use Rattle.std.specs.Prelude.{map, length, filter, sum, ◌||◌, ◌==◌, nat_le, if◌then◌else◌}
use Rattle.std.specs.List.{AllByRecursion}
use Rattle.std.proofs.lemmas.List.Elements.{All-from_recursion}
use Rattle.std.proofs.Math.Nat.{div-le_self}
use Rattle.udt_model.specs.declared.addresses.Addr.{Addr}
use Rattle.udt_model.specs.declared.addresses.Ip.{Ip}
use Rattle.udt_model.specs.declared.addresses.Ip.TheVariants.{V4, V6}
use Rattle.udt_model.specs.declared.handshakes.Asked.{Asked}
use Rattle.udt_model.specs.declared.handshakes.Caller.{Caller}
use Rattle.udt_model.specs.declared.limits.TheConstants.{MOST_BLOCKS, MOST_PAYLOAD}
use Rattle.udt_model.specs.declared.packets.Kind.{Kind}
use Rattle.udt_model.specs.declared.packets.Kind.TheVariants as kind
use Rattle.udt_model.specs.declared.packets.Shake.{Shake}
use Rattle.udt_model.specs.Calls.{stamp_of, emission as emits}
use Rattle.udt_model.specs.Connections.{caller_of}
use Rattle.udt_model.specs.Handshakes.{asked, kind_number, address_field, says}
use Rattle.udt_model.specs.Records.{is_answer}
use Rattle.udt_model.specs.Events.{Act, Reply}
use Rattle.udt_model.specs.Rate.{Ways}
use Rattle.udt_model.specs.ReceiveHalf.{after_block}
use Rattle.udt_model.specs.ReceiveReports.{full_ack, light_ack}
use Rattle.udt_model.specs.SendBlocks.{Message}
use Rattle.udt_model.specs.SendHalf.{block_packet, drop_packet}
use Rattle.udt_model.specs.State.{State, Emission}
use Rattle.udt_model.specs.Ticks.{numbers_of}
use Rattle.udt_model.specs.Timing.{in_a_second, near_median, is_near, median, is_short, speed_of, capacity_of}
use Rattle.udt_model.specs.Wire.{Packet, Handshake, IsShakeInRange, KeepAlive, Ack, Nak, Shutdown, Ack2, IsRange, destination, IsInRange, read, spelling, type_word, word}
use Rattle.udt_model.proofs.EmissionLemmas.{Emitting, NewBlock, LostBlock, DropRequest, FullAck, LightAck, Reports, ReportsGap, ReportsDropGap, AnswersAck, SendsKeepAlive, TheEnd, SendsHandshake, SendsShake, Requests, Meets, AnswersPeer, AnswersNew, Agrees, AnswersAgain, GivesCookie, Refuses}
use Rattle.udt_model.proofs.HandshakeTells.{type-fits, asked-type, again-answers}
use Rattle.udt_model.proofs.PhaseLemmas.{is_settled}
use Rattle.udt_model.proofs.SendingLemmas.{MessagesFit, MessagesFit-at, MessagesFit-number, kept_at-is, packing-sends, packing-again, packing-drops}
use Rattle.udt_model.proofs.TickLemmas.{ack_outcome-tells}
use Rattle.udt_model.proofs.WireLemmas.{read-spelling, word-mod}
use Rattle.udt_laws.proofs.sent_blocks.ReportsFit.{RoundTripFits, ReportsFit}
use Rattle.udt_laws.proofs.sent_blocks.NakRanges.{EndsMeet, IsBetween, nak-ends, block-gap, drop-gap, numbers-are, gap-number}

-- ---- rates have 32 bits

filter-short : (test : ℕ → Bool) (xs : List ℕ) → length (filter test xs) ≤ length xs
filter-short test [] = omega arith
filter-short test (x ∷ xs) =
    let rest = filter-short test xs in
    elim (test x) as (λ keeps. length (if keeps then x ∷ filter test xs else filter test xs) ≤ length (x ∷ xs)) [
      | true ↦ omega (arith, rest)
      | false ↦ omega (arith, rest)
    ]

second-fits : (count micros : ℕ) → count ≤ 16 → in_a_second count micros < 2 ^ 32
second-fits count micros few =
    let most = div-le_self (count * 1000000) micros in
    elim (micros == 0) as (λ none. (if none then 0 else count * 1000000 / micros) < 2 ^ 32) [
      | true ↦ omega arith
      | false ↦ omega (arith, most, few)
    ]

speed-fits : (samples : List ℕ) → length samples ≤ 16 → speed_of samples < 2 ^ 32
speed-fits samples short =
    let kept = near_median samples in
    let few = filter-short (is_near (median samples)) samples in
    elim (is_short samples || nat_le (length kept) 8) as (λ none. (if none then 0 else in_a_second (length kept) (sum kept)) < 2 ^ 32) [
      | true ↦ omega arith
      | false ↦ second-fits (length kept) (sum kept) (omega (arith, few, short))
    ]

capacity-fits : (samples : List ℕ) → capacity_of samples < 2 ^ 32
capacity-fits samples = elim (is_short samples) as (λ none. (if none then 0 else in_a_second 1 (median samples)) < 2 ^ 32) [
  | true ↦ omega arith
  | false ↦ second-fits 1 (median samples) (omega arith)
]

-- ---- handshakes

kind-fits : (k : Kind) → kind_number k < 2 ^ 32
kind-fits kind.Stream = omega arith
kind-fits kind.Message = omega arith

length-address : (ip : Ip) → length (address_field ip) ≡ 16
length-address (V4 bits) = refl
length-address (V6 bits) = refl

-- what a socket says of itself fits its places
pub says-fits : (caller : Caller) (payload : ℕ) (answer : Asked) → caller.own < 2 ^ 32 → caller.isn < 2 ^ 31 → payload ≤ MOST_PAYLOAD
    → caller.config.rcv_blocks ≤ MOST_BLOCKS → IsShakeInRange (says caller payload answer 0)
says-fits caller payload answer own isn within blocks = record {
  version = omega arith;
  kind = kind-fits caller.config.kind;
  isn = isn;
  packet = omega (arith, within);
  flow = omega (arith, blocks);
  ask = type-fits answer;
  id = own;
  cookie = omega arith;
  address = length-address caller.to.ip;
}

-- ---- packets

module _ {C : Type 0} where
  -- what has to hold of a state, so that its packets can be spelled
  pub record CanSpell (s : State C) : Type 0 where
    pub settled : is_settled s.phase ≡ true
    pub own : s.own < 2 ^ 32
    pub isn : s.isn < 2 ^ 31
    pub payload : s.receiving.payload ≤ MOST_PAYLOAD
    pub id : s.peer.id < 2 ^ 32
    pub rtt : RoundTripFits s.rtt
    pub reports : ReportsFit s.receiving
    pub messages : MessagesFit s.sending.blocks.kept

module _ {C : Type 0} where
  -- a handshake that a settled socket emits is an answer to its peer
  record IsAnswerTo (s : State C) (to : Addr) (dest : ℕ) (shake : Shake) : Type 0 where
    to_is : to ≡ s.peer.addr
    dest_is : dest ≡ s.peer.id
    answers : is_answer (asked shake.ask) ≡ true
    fits : IsShakeInRange shake

  answer-is : (s : State C) (act : Act) (to : Addr) (dest : ℕ) (shake : Shake) → CanSpell s → SendsShake s act to dest shake
      → IsAnswerTo s to dest shake
  answer-is s act _ _ _ can (Requests c again cookie is) = absurd (cc)
  answer-is s act _ _ _ can (Meets m again is) = absurd (cc)
  answer-is s act _ _ _ can (AnswersPeer m again peer is adopts) = absurd (cc)
  answer-is s act _ _ _ can (AnswersNew m again from raw stamp dest shake peer is arrives reads sees) = absurd (cc)
  answer-is s act _ _ _ can (Agrees m again from raw stamp dest shake peer is arrives reads sees) = absurd (cc)
  answer-is s act _ _ _ can (AnswersAgain again answer connected answers) = record {
    to_is = refl;
    dest_is = refl;
    answers = ap is_answer (asked-type answer) ∙ again-answers s.origin again answer answers;
    fits = says-fits (caller_of s s.peer.addr) s.receiving.payload answer can.own can.isn can.payload can.reports.capacity;
  }
  answer-is s act _ _ _ can (GivesCookie b from raw stamp shake answer is arrives reads asks named judges) = absurd (cc)
  answer-is s act _ _ _ can (Refuses b from raw stamp shake answer is arrives reads asks named judges) = absurd (cc)

-- the spelling of an ACK2 has 32 bits of its number
ack2-spelling : (number stamp dest : ℕ) → spelling (Ack2 number stamp dest) ≡ spelling (Ack2 (number % 2 ^ 32) stamp dest)
unfolding spelling
ack2-spelling number stamp dest =
    ap (λ (numbered : List ℕ). word (type_word 6) ++ numbered ++ word stamp ++ word dest ++ []) (sym (word-mod number))

module _ {C : Type 0} (w : Ways C) where
  -- the packet that an emission is
  abbrev pub packet_of : (s : State C) → (act : Act) → (reply : Reply) → (emission : Emission) → Emitting w s act reply emission → Packet
  packet_of s act reply emission (NewBlock block connected packs is) = block_packet s.sending (stamp_of s) s.peer.id s.sending.next block
  packet_of s act reply emission (LostBlock offset block connected packs is) = block_packet s.sending (stamp_of s) s.peer.id offset block
  packet_of s act reply emission (DropRequest message connected packs is) = drop_packet s.sending (stamp_of s) s.peer.id message
  packet_of s act reply emission (FullAck ack connected tells is) = Ack ack.number (stamp_of s) s.peer.id (full_ack s.receiving s.rtt ack.offset)
  packet_of s act reply emission (LightAck from raw number flags stamp bytes connected arrives carries sender replies is) =
      Ack 0 (stamp_of s) s.peer.id (light_ack (after_block s.receiving s.last number flags bytes))
  packet_of s act reply emission (Reports range ranges connected reports is) = Nak (stamp_of s) s.peer.id (map (numbers_of s) (range ∷ ranges))
  packet_of s act reply emission (ReportsGap from raw number flags stamp bytes ends connected arrives carries sender gap is) =
      Nak (stamp_of s) s.peer.id
      (numbers_of (record s { receiving = after_block s.receiving s.last number flags bytes }) (record { first = ends.0; last = ends.1 }) ∷ [])
  packet_of s act reply emission (ReportsDropGap from raw message stamp first last range ends connected arrives asks sender messages taken gap is) =
      Nak (stamp_of s) s.peer.id (numbers_of s (record { first = ends.0; last = ends.1 }) ∷ [])
  packet_of s act reply emission (AnswersAck number connected is) = Ack2 (number % 2 ^ 32) (stamp_of s) s.peer.id
  packet_of s act reply emission (SendsKeepAlive connected is) = KeepAlive (stamp_of s) s.peer.id
  packet_of s act reply emission (TheEnd closing is) = Shutdown (stamp_of s) s.peer.id
  packet_of s act reply emission (SendsHandshake to dest shake sends is) = Handshake (stamp_of s) dest shake

  -- it is for the peer
  pub packet-dest : (s : State C) (act : Act) (reply : Reply) (emission : Emission) (x : Emitting w s act reply emission) → CanSpell s
      → destination (packet_of s act reply emission x) ≡ s.peer.id
  packet-dest s act reply emission (NewBlock block connected packs is) can = refl
  packet-dest s act reply emission (LostBlock offset block connected packs is) can = refl
  packet-dest s act reply emission (DropRequest message connected packs is) can = refl
  packet-dest s act reply emission (FullAck ack connected tells is) can = refl
  packet-dest s act reply emission (LightAck from raw number flags stamp bytes connected arrives carries sender replies is) can = refl
  packet-dest s act reply emission (Reports range ranges connected reports is) can = refl
  packet-dest s act reply emission (ReportsGap from raw number flags stamp bytes ends connected arrives carries sender gap is) can = refl
  packet-dest s act reply emission (ReportsDropGap from raw message stamp first last range ends connected arrives asks sender messages taken gap is) can = refl
  packet-dest s act reply emission (AnswersAck number connected is) can = refl
  packet-dest s act reply emission (SendsKeepAlive connected is) can = refl
  packet-dest s act reply emission (TheEnd closing is) can = refl
  packet-dest s act reply emission (SendsHandshake to dest shake sends is) can = (answer-is s act to dest shake can sends).dest_is

  packet-in_range : (s : State C) (act : Act) (reply : Reply) (emission : Emission) (x : Emitting w s act reply emission) → CanSpell s
      → IsInRange (packet_of s act reply emission x)
  packet-in_range s act reply emission (NewBlock block connected packs is) can =
      let at = kept_at-is s.sending.blocks s.sending.next block (packing-sends w s.sending s.last block packs) in
      (omega arith, MessagesFit-at s.sending.blocks.kept _ block can.messages at.found, omega arith, can.id)
  packet-in_range s act reply emission (LostBlock offset block connected packs is) can =
      let at = kept_at-is s.sending.blocks offset block (packing-again w s.sending s.last offset block packs).kept in
      (omega arith, MessagesFit-at s.sending.blocks.kept _ block can.messages at.found, omega arith, can.id)
  packet-in_range s act reply emission (DropRequest message connected packs is) can =
      let dropped = packing-drops w s.sending s.last message packs in
      let at = kept_at-is s.sending.blocks dropped.offset dropped.block dropped.least.kept in
      let number = MessagesFit-number s.sending.blocks.kept _ dropped.block can.messages at.found in (
        subst (λ (m : Message). m.number < 2 ^ 29) dropped.is number,
        omega arith,
        omega arith,
        omega arith,
        can.id,
      )
  packet-in_range s act reply emission (FullAck ack connected tells is) can =
      let told = ack_outcome-tells s.receiving s.last s.rtt ack tells in
      let number : ack.number < 2 ^ 32 = omega (arith, told.number, can.reports.number) in
      let room = can.reports.capacity in
      let rtt = can.rtt.rtt in
      let var = can.rtt.var in (
        (omega arith, omega (arith, rtt), omega (arith, var), omega (arith, room), speed-fits s.receiving.arrivals can.reports.arrivals, capacity-fits s.receiving.pairs),
        number,
        omega arith,
        can.id,
      )
  packet-in_range s act reply emission (LightAck from raw number flags stamp bytes connected arrives carries sender replies is) can =
      (omega arith, omega arith, omega arith, can.id)
  packet-in_range s act reply emission (Reports range ranges connected reports is) can =
      let ends = subst (λ l. EndsMeet (IsBetween s.receiving) l) reports (nak-ends s.receiving s.last s.rtt can.reports) in
      (omega arith, All-from_recursion IsRange (map (numbers_of s) (range ∷ ranges)) (numbers-are s s (range ∷ ranges) can.reports ends), omega arith, can.id)
  packet-in_range s act reply emission (ReportsGap from raw number flags stamp bytes ends connected arrives carries sender gap is) can =
      let t = record s { receiving = after_block s.receiving s.last number flags bytes } in
      let one : AllByRecursion IsRange (numbers_of t (record { first = ends.0; last = ends.1 }) ∷ []) =
      (gap-number s t ends can.reports (block-gap s.receiving number ends gap), tt) in
      (omega arith, All-from_recursion IsRange (numbers_of t (record { first = ends.0; last = ends.1 }) ∷ []) one, omega arith, can.id)
  packet-in_range s act reply emission (ReportsDropGap from raw message stamp first last range ends connected arrives asks sender messages taken gap is) can =
      let one : AllByRecursion IsRange (numbers_of s (record { first = ends.0; last = ends.1 }) ∷ []) =
      (gap-number s s ends can.reports (drop-gap s.receiving first last range ends taken gap), tt) in
      (omega arith, All-from_recursion IsRange (numbers_of s (record { first = ends.0; last = ends.1 }) ∷ []) one, omega arith, can.id)
  packet-in_range s act reply emission (AnswersAck number connected is) can = (omega arith, omega arith, can.id)
  packet-in_range s act reply emission (SendsKeepAlive connected is) can = (omega arith, can.id)
  packet-in_range s act reply emission (TheEnd closing is) can = (omega arith, can.id)
  packet-in_range s act reply emission (SendsHandshake to dest shake sends is) can =
      let answer = answer-is s act to dest shake can sends in
      (answer.fits, omega arith, omega (arith, answer.dest_is, can.id))

  -- an emission spells its packet, and goes to the peer's address
  record Spells (s : State C) (emission : Emission) (packet : Packet) : Type 0 where
    bytes : emission.datagram.bytes ≡ spelling packet
    sent_to : emission.datagram.addr ≡ s.peer.addr

  spells-by : (s : State C) (emission : Emission) (packet : Packet) (offsets : List ℕ) → emission ≡ emits s packet offsets → Spells s emission packet
  spells-by s emission packet offsets is =
      record { bytes = ap (λ (e : Emission). e.datagram.bytes) is; sent_to = ap (λ (e : Emission). e.datagram.addr) is }

  spells : (s : State C) (act : Act) (reply : Reply) (emission : Emission) (x : Emitting w s act reply emission) → CanSpell s
      → Spells s emission (packet_of s act reply emission x)
  spells s act reply emission (NewBlock block connected packs is) can = spells-by s emission _ _ is
  spells s act reply emission (LostBlock offset block connected packs is) can = spells-by s emission _ _ is
  spells s act reply emission (DropRequest message connected packs is) can = spells-by s emission _ _ is
  spells s act reply emission (FullAck ack connected tells is) can = spells-by s emission _ _ is
  spells s act reply emission (LightAck from raw number flags stamp bytes connected arrives carries sender replies is) can = spells-by s emission _ _ is
  spells s act reply emission (Reports range ranges connected reports is) can = spells-by s emission _ _ is
  spells s act reply emission (ReportsGap from raw number flags stamp bytes ends connected arrives carries sender gap is) can = spells-by s emission _ _ is
  spells s act reply emission (ReportsDropGap from raw message stamp first last range ends connected arrives asks sender messages taken gap is) can = spells-by s emission _ _ is
  spells s act reply emission (AnswersAck number connected is) can =
      let by = spells-by s emission (Ack2 number (stamp_of s) s.peer.id) [] is in
      record { bytes = by.bytes ∙ ack2-spelling number (stamp_of s) s.peer.id; sent_to = by.sent_to }
  spells s act reply emission (SendsKeepAlive connected is) can = spells-by s emission _ _ is
  spells s act reply emission (TheEnd closing is) can = spells-by s emission _ _ is
  spells s act reply emission (SendsHandshake to dest shake sends is) can = record {
    bytes = ap (λ (e : Emission). e.datagram.bytes) is;
    sent_to = ap (λ (e : Emission). e.datagram.addr) is ∙ (answer-is s act to dest shake can sends).to_is;
  }

  -- an emission reads as its packet, and goes to the peer's address
  pub record IsSpelled (s : State C) (act : Act) (reply : Reply) (emission : Emission) (x : Emitting w s act reply emission) : Type 0 where
    pub reads : read emission.datagram.bytes ≡ Ok (packet_of s act reply emission x)
    pub sent_to : emission.datagram.addr ≡ s.peer.addr

  pub emission-spelled : (s : State C) (act : Act) (reply : Reply) (emission : Emission) (x : Emitting w s act reply emission) → CanSpell s → IsSpelled s act reply emission x
  emission-spelled s act reply emission x can =
      let by = spells s act reply emission x can in
      record {
        reads = ap read by.bytes ∙ read-spelling (packet_of s act reply emission x) (packet-in_range s act reply emission x can);
        sent_to = by.sent_to;
      }

  -- a handshake of a settled socket is an answer
  pub shake-answers : (s : State C) (act : Act) (reply : Reply) (emission : Emission) (x : Emitting w s act reply emission) (stamp dest : ℕ) (shake : Shake)
      → CanSpell s → packet_of s act reply emission x ≡ Handshake stamp dest shake → is_answer (asked shake.ask) ≡ true
  shake-answers s act reply emission (SendsHandshake to dest' shake' sends is) stamp dest shake can same =
      let shake_is : shake' ≡ shake = cc in
      ap (λ (x : Shake). is_answer (asked x.ask)) (sym shake_is) ∙ (answer-is s act to dest' shake' can sends).answers
  shake-answers s act reply emission (NewBlock block connected packs is) stamp dest shake can same = absurd (cc)
  shake-answers s act reply emission (LostBlock offset block connected packs is) stamp dest shake can same = absurd (cc)
  shake-answers s act reply emission (DropRequest message connected packs is) stamp dest shake can same = absurd (cc)
  shake-answers s act reply emission (FullAck ack connected tells is) stamp dest shake can same = absurd (cc)
  shake-answers s act reply emission (LightAck from raw number flags stamp' bytes connected arrives carries sender replies is) stamp dest shake can same = absurd (cc)
  shake-answers s act reply emission (Reports range ranges connected reports is) stamp dest shake can same = absurd (cc)
  shake-answers s act reply emission (ReportsGap from raw number flags stamp' bytes ends connected arrives carries sender gap is) stamp dest shake can same = absurd (cc)
  shake-answers s act reply emission (ReportsDropGap from raw message stamp' first last range ends connected arrives asks sender messages taken gap is) stamp dest shake can same = absurd (cc)
  shake-answers s act reply emission (AnswersAck number connected is) stamp dest shake can same = absurd (cc)
  shake-answers s act reply emission (SendsKeepAlive connected is) stamp dest shake can same = absurd (cc)
  shake-answers s act reply emission (TheEnd closing is) stamp dest shake can same = absurd (cc)
