-- What a socket emits over a history: packets to its peer, of which data packets carry the blocks of what it accepted,
-- each with the offset that it names.
use Rattle.std.proofs.Common.{◌≡◌, ℕ, zero, suc, ◌-◌, ◌^◌, ◌<◌, ◌≤◌, List, [], ◌∷◌, ◌++◌, Some, Ok, refl, ap, ◌∙◌, sym, subst, true, arith}
use Rattle.std.specs.Prelude.{min, slice_get}
use Rattle.std.specs.List.{Contains}
use Rattle.std.proofs.lemmas.List.{drop_all}
use Rattle.udt_model.specs.declared.answers.Peer.{Peer}
use Rattle.udt_model.specs.declared.limits.TheConstants.{MOST_BLOCKS, MOST_PAYLOAD}
use Rattle.udt_model.specs.declared.packets.Config.{Config}
use Rattle.udt_model.specs.declared.packets.Flags.{Flags}
use Rattle.udt_model.specs.declared.packets.Shake.{Shake}
use Rattle.udt_model.specs.Emissions.{emitted}
use Rattle.udt_model.specs.Events.{Act, Reply, at_moment}
use Rattle.udt_model.specs.Handshakes.{asked}
use Rattle.udt_model.specs.Records.{is_answer}
use Rattle.udt_model.specs.History.{Item, History, after_items, state_of, start_of}
use Rattle.udt_model.specs.Numbers.{sequence_number}
use Rattle.udt_model.specs.ReceiveHalf.{Receiving, idle_receiving, linked_receiving}
use Rattle.udt_model.specs.SendHalf.{Sending, idle_sending, linked_sending}
use Rattle.udt_model.specs.Rate.{Ways}
use Rattle.udt_model.specs.State.{State, Emission}
use Rattle.udt_model.specs.Timing.{RoundTrip, unmeasured}
use Rattle.udt_model.specs.Wire.{Packet, Block, Handshake, destination, read}
use Rattle.udt_model.proofs.EmissionLemmas.{Emitting, NewBlock, LostBlock, DropRequest, FullAck, LightAck, Reports, ReportsGap, ReportsDropGap, AnswersAck, SendsKeepAlive, TheEnd, SendsHandshake, IsEmittedAt, emitted-at}
use Rattle.udt_model.proofs.PhaseLemmas.{is_settled}
use Rattle.udt_model.proofs.InOrder.{none_in_order}
use Rattle.udt_model.proofs.SendingLemmas.{IsCut, cut-kept_at, packing-sends, packing-again, lost-within}
use Rattle.udt_model.proofs.StepLemmas.{after_items-keeps}
use Rattle.udt_laws.specs.Laws.{CarriesBlock, HasBlocks}
use Rattle.udt_laws.proofs.sockets.Begins.{Begins, begins_settled, begins_start}
use Rattle.udt_laws.proofs.sent_blocks.AcceptedIsCut.{blocks_by, blocks_by-append, blocks_by-parts, items-cut}
use Rattle.udt_laws.proofs.sent_blocks.EmissionsRead.{CanSpell, packet_of, packet-dest, IsSpelled, emission-spelled, shake-answers}
use Rattle.udt_laws.proofs.sent_blocks.ReportsFit.{RoundTripFits, ReportsFit, items-fit, items-round}

-- ---- what carries a block

-- the emission carries one of these blocks, under the number of the offset that it names
pub record IsBlockOf (isn start : ℕ) (blocks : List (List ℕ)) (emission : Emission) (number : ℕ) (payload : List ℕ) : Type 0 where
  pub offset : ℕ
  pub names : emission.offsets ≡ offset ∷ []
  pub not_before : start ≤ offset
  pub carries : slice_get blocks (offset - start) ≡ Some payload
  pub numbered : number ≡ sequence_number isn offset

slice_get-longer : (blocks more : List (List ℕ)) (n : ℕ) (block : List ℕ) → slice_get blocks n ≡ Some block
    → slice_get (blocks ++ more) n ≡ Some block
slice_get-longer [] more n block found = absurd (cc)
slice_get-longer (first ∷ others) more zero block found = found
slice_get-longer (first ∷ others) more (suc n) block found = slice_get-longer others more n block found

-- one packet that bytes read as is the same as another
pub same-packet : (bytes : List ℕ) (first second : Packet) → read bytes ≡ Ok first → read bytes ≡ Ok second → first ≡ second
same-packet bytes first second one two = cc

module _ {C : Type 0} where
  -- ---- a moment of a history

  -- what is known of the state in which a history that began so emits something: its halves stand to the blocks so far as
  -- they should, and its packets can be spelled
  pub record IsMoment (opening : State C) (start : ℕ) (blocks : List (List ℕ)) (s : State C) : Type 0 where
    pub peer : s.peer ≡ opening.peer
    pub sending_isn : s.sending.isn ≡ opening.sending.isn
    pub receiving_isn : s.receiving.isn ≡ opening.receiving.isn
    pub can : CanSpell s
    pub cut : IsCut s.sending start blocks

  -- a half that begins is cut into no blocks, and its packets can be spelled
  pub record BeginsWell (s : State C) (start : ℕ) : Type 0 where
    pub settled : is_settled s.phase ≡ true
    pub own_fits : s.own < 2 ^ 32
    pub isn_fits : s.isn < 2 ^ 31
    pub payload : s.receiving.payload ≤ MOST_PAYLOAD
    pub id_fits : s.peer.id < 2 ^ 32
    pub rtt : RoundTripFits s.rtt
    pub reports : ReportsFit s.receiving
    pub cut : IsCut s.sending start []

module _ {C : Type 0} (w : Ways C) where
  -- after each of its items a history is at such a moment
  pub moment-after : (s : State C) (start : ℕ) (items : List Item) (now : ℕ) → BeginsWell s start
      → IsMoment s start (blocks_by w s items) (at_moment (after_items w s items) now)
  moment-after s start items now well =
      let same = after_items-keeps w s items well.settled in
      let is_cut = items-cut w s start [] items well.settled well.cut in
      record {
        peer = same.peer;
        sending_isn = same.sending.isn;
        receiving_isn = same.receiving.isn;
        can = record {
          settled = same.settled well.settled;
          own = subst (λ (n : ℕ). n < 2 ^ 32) (sym same.own) well.own_fits;
          isn = subst (λ (n : ℕ). n < 2 ^ 31) (sym same.isn) well.isn_fits;
          payload = subst (λ (n : ℕ). n ≤ MOST_PAYLOAD) (sym same.receiving.payload) well.payload;
          id = subst (λ (p : Peer). p.id < 2 ^ 32) (sym same.peer) well.id_fits;
          rtt = items-round w s items well.rtt;
          reports = items-fit w s items well.reports;
          messages = is_cut.messages;
        };
        cut = is_cut;
      }

  module _ (s : State C) (act : Act) (reply : Reply) (start : ℕ) (blocks : List (List ℕ)) (emission : Emission) (number : ℕ) (flags : Flags) (stamp dest : ℕ)
      (payload : List ℕ) (cut : IsCut s.sending start blocks) where
    -- an emission that is a data packet sends a block of these
    block-of : (x : Emitting w s act reply emission) → packet_of w s act reply emission x ≡ Block number flags stamp dest payload
        → IsBlockOf s.sending.isn start blocks emission number payload
    block-of (NewBlock block connected packs is) same =
        let bytes_are : block.bytes ≡ payload = cc in
        record {
          offset = s.sending.next;
          names = ap (λ (e : Emission). e.offsets) is;
          not_before = omega (arith, cut.not_before, cut.sent_from);
          carries = cut-kept_at s.sending start blocks s.sending.next block cut (packing-sends w s.sending s.last block packs)
              ∙ ap (λ (b : List ℕ). Some b) bytes_are;
          numbered = cc;
        }
    block-of (LostBlock offset block connected packs is) same =
        let least = packing-again w s.sending s.last offset block packs in
        let within = lost-within s.sending start blocks offset block cut least in
        let bytes_are : block.bytes ≡ payload = cc in
        record {
          offset = offset;
          names = ap (λ (e : Emission). e.offsets) is;
          not_before = omega (arith, cut.not_before, within.0);
          carries = cut-kept_at s.sending start blocks offset block cut least.kept ∙ ap (λ (b : List ℕ). Some b) bytes_are;
          numbered = cc;
        }
    block-of (DropRequest message connected packs is) same = absurd (cc)
    block-of (FullAck ack connected tells is) same = absurd (cc)
    block-of (LightAck from raw number' flags' stamp' bytes connected arrives carries sender replies is) same = absurd (cc)
    block-of (Reports range ranges connected reports is) same = absurd (cc)
    block-of (ReportsGap from raw number' flags' stamp' bytes ends connected arrives carries sender gap is) same = absurd (cc)
    block-of (ReportsDropGap from raw message stamp' first last range ends connected arrives asks sender messages taken gap is) same = absurd (cc)
    block-of (AnswersAck number' connected is) same = absurd (cc)
    block-of (SendsKeepAlive connected is) same = absurd (cc)
    block-of (TheEnd closing is) same = absurd (cc)
    block-of (SendsHandshake to dest' shake sends is) same = absurd (cc)

  -- a data packet is for the peer
  packet-destined : (s : State C) (act : Act) (reply : Reply) (emission : Emission) (x : Emitting w s act reply emission) (number : ℕ) (flags : Flags) (stamp dest : ℕ) (payload : List ℕ)
      → CanSpell s → packet_of w s act reply emission x ≡ Block number flags stamp dest payload → dest ≡ s.peer.id
  packet-destined s act reply emission x number flags stamp dest payload can same = sym (ap destination same) ∙ packet-dest w s act reply emission x can

  -- ---- histories

  -- what each half of a socket that is connected begins with
  sending-begins : (config : Config) (start isn payload flow : ℕ) → 1 ≤ payload
      → IsCut (linked_sending w (idle_sending w config start) isn payload flow) start []
  sending-begins config start isn payload flow some = record {
    not_before = omega arith;
    count = refl;
    kept = sym (drop_all (start - start) [] (omega arith));
    sent_from = omega arith;
    sent_to = omega arith;
    lost = tt;
    messages = tt;
    ends = tt;
    message = omega arith;
    payload = some;
  }

  receiving-begins : (config : Config) (start now isn payload : ℕ) (known : RoundTrip) → config.rcv_blocks ≤ MOST_BLOCKS
      → ReportsFit (linked_receiving (idle_receiving config start) now isn payload known)
  receiving-begins config start now isn payload known few = record {
    capacity = few;
    number = omega arith;
    order = none_in_order config.payload config.rcv_blocks start;
    rising = tt;
    arrivals = omega arith;
  }

  -- so each history that begins as connected begins well
  pub begins-well : (h : History C) → Begins w h → BeginsWell h.opening (start_of h)
  begins-well h begins =
      let config = begins.config in
      let fresh = begins.fresh in
      let payload = min config.payload h.opening.peer.payload in
      record {
        settled = begins_settled w h begins;
        own_fits = begins.own_fits;
        isn_fits = begins.isn_fits;
        payload = omega (arith, ap (λ (r : Receiving). r.payload) fresh.receiving, begins.values.most_payload);
        id_fits = begins.id_fits;
        rtt = subst RoundTripFits (sym fresh.unmeasured) (record { rtt = omega arith; var = omega arith });
        reports = subst ReportsFit (sym fresh.receiving)
            (receiving-begins config begins.start h.opening.last h.opening.peer.isn payload unmeasured begins.values.most_rcv_blocks);
        cut = subst (λ (n : ℕ). IsCut h.opening.sending n []) (sym (begins_start w h begins))
            (subst (λ (sending : Sending C). IsCut sending begins.start []) (sym fresh.sending)
            (sending-begins config begins.start h.opening.isn payload h.opening.peer.flow (omega (arith, begins.values.payload, begins.payload))));
      }

  module _ (h : History C) (begins : Begins w h) where
    -- an emission with the state at its moment
    pub emission-at : (emission : Emission) → Contains (emitted w h) emission → IsEmittedAt w h.opening h.items emission
    emission-at emission among = emitted-at w h.opening h.items emission among

    -- the state at that moment
    pub moment-at : (emission : Emission) (is : IsEmittedAt w h.opening h.items emission)
        → IsMoment h.opening (start_of h) (blocks_by w h.opening is.front) (at_moment (after_items w h.opening is.front) is.item.event.now)
    moment-at emission is = moment-after h.opening (start_of h) is.front is.item.event.now (begins-well h begins)

    -- it reads as its packet, to the peer
    pub emission-reads : (emission : Emission) (is : IsEmittedAt w h.opening h.items emission)
        → IsSpelled w (at_moment (after_items w h.opening is.front) is.item.event.now) is.item.event.act _ emission is.emitting
    emission-reads emission is = emission-spelled w _ _ _ emission is.emitting (moment-at emission is).can

    blocks-longer : (front rest : List Item) → h.items ≡ front ++ rest
        → blocks_by w h.opening h.items ≡ blocks_by w h.opening front ++ blocks_by w (after_items w h.opening front) rest
    blocks-longer front rest joined = ap (blocks_by w h.opening) joined ∙ blocks_by-append w h.opening front rest

    pub carries-block : (emission : Emission) (number : ℕ) (flags : Flags) (stamp dest : ℕ) (payload : List ℕ) → Contains (emitted w h) emission
        → read emission.datagram.bytes ≡ Ok (Block number flags stamp dest payload)
        → CarriesBlock w h (blocks_by w h.opening h.items) emission number dest payload
    carries-block emission number flags stamp dest payload among reads =
        let at = emission-at emission among in
        let spelled = emission-reads emission at in
        let moment = moment-at emission at in
        let same = same-packet emission.datagram.bytes _ _ spelled.reads reads in
        let block = block-of (at_moment (after_items w h.opening at.front) at.item.event.now) at.item.event.act _ (start_of h) (blocks_by w h.opening at.front) emission
        number flags stamp dest payload moment.cut at.emitting same in
        let last = after_items-keeps w h.opening h.items (begins_settled w h begins) in
        let peer_is = moment.peer ∙ sym last.peer in
        let isn_is = moment.sending_isn ∙ sym last.sending.isn in
        record {
          offset = block.offset;
          names = block.names;
          not_before = block.not_before;
          carries = subst (λ (all : List (List ℕ)). slice_get all (block.offset - start_of h) ≡ Some payload)
              (sym (blocks-longer at.front (at.item ∷ at.rest) at.joined)) (slice_get-longer (blocks_by w h.opening at.front) (blocks_by w (after_items w h.opening at.front) (at.item ∷ at.rest)) (block.offset - start_of h) payload block.carries);
          numbered = block.numbered ∙ ap (λ (isn : ℕ). sequence_number isn block.offset) isn_is;
          sent_to = spelled.sent_to ∙ ap (λ (p : Peer). p.addr) peer_is;
          destined = packet-destined _ _ _ emission at.emitting number flags stamp dest payload moment.can same ∙ ap (λ (p : Peer). p.id) peer_is;
        }

    -- how the half stands to all blocks in the end
    pub last-cut : IsCut (state_of w h).sending (start_of h) (blocks_by w h.opening h.items)
    last-cut = (moment-after h.opening (start_of h) h.items 0 (begins-well h begins)).cut

    pub has_blocks : HasBlocks w h
    has_blocks = record {
      blocks = blocks_by w h.opening h.items;
      joined = (blocks_by-parts w h.opening h.items (begins_settled w h begins) begins.legal (begins-well h begins).cut.payload).joined;
      kept = last-cut.kept;
      emits = carries-block;
    }

    -- and its handshakes are answers
    pub begins-answers : (emission : Emission) (stamp dest : ℕ) (shake : Shake) → Contains (emitted w h) emission
        → read emission.datagram.bytes ≡ Ok (Handshake stamp dest shake) → is_answer (asked shake.ask) ≡ true
    begins-answers emission stamp dest shake among reads =
        let at = emission-at emission among in
        let spelled = emission-reads emission at in
        shake-answers w _ _ _ emission at.emitting stamp dest shake (moment-at emission at).can
        (same-packet emission.datagram.bytes _ _ spelled.reads reads)
