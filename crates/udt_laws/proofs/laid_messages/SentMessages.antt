-- What a message socket emits: blocks of the messages that it was asked to send, and requests to drop them.
use Rattle.std.proofs.Common.{◌≡◌, ℕ, ◌≤◌, true, List, [], ◌∷◌, ◌++◌, map, Some, Ok, ap, ◌∙◌, sym, subst, arith}
use Rattle.std.specs.List.{Contains}
use Rattle.std.proofs.lemmas.List.Elements.{Contains-append_left}
use Rattle.udt_model.specs.declared.packets.Flags.{Flags}
use Rattle.udt_model.specs.Calls.{stamp_of, block_emission, drop_emission}
use Rattle.udt_model.specs.Emissions.{emitted}
use Rattle.udt_model.specs.Events.{Act, Reply, at_moment}
use Rattle.udt_model.specs.History.{Item, History, after_items, state_of, start_of, AreLegal, asked}
use Rattle.udt_model.specs.Numbers.{sequence_number}
use Rattle.udt_model.specs.Rate.{Ways}
use Rattle.udt_model.specs.SendBlocks.{Message, KeptBlock, kept_at, end_of}
use Rattle.udt_model.specs.SendHalf.{block_packet, drop_packet, packing, Drops}
use Rattle.udt_model.specs.State.{State, Emission}
use Rattle.udt_model.specs.Wire.{Block, DropAsk, read}
use Rattle.udt_model.proofs.EmissionLemmas.{Emitting, NewBlock, LostBlock, DropRequest, FullAck, LightAck, Reports, ReportsGap, ReportsDropGap, AnswersAck, SendsKeepAlive, TheEnd, SendsHandshake, IsEmittedAt}
use Rattle.udt_model.proofs.HistoryLemmas.{AreLegal-front}
use Rattle.udt_model.proofs.PhaseLemmas.{is_settled}
use Rattle.udt_model.proofs.SendingLemmas.{IsCut, kept_at-is, packing-sends, packing-again, packing-drops}
use Rattle.udt_model.proofs.StepLemmas.{after_items-keeps}
use Rattle.udt_laws.specs.Laws.{CarriesMessages}
use Rattle.udt_laws.proofs.sockets.Begins.{Begins, begins_settled}
use Rattle.udt_laws.proofs.sent_blocks.AcceptedIsCut.{items-cut}
use Rattle.udt_laws.proofs.sent_blocks.EmissionsRead.{packet_of}
use Rattle.udt_laws.proofs.sent_blocks.SentBlocks.{same-packet, begins-well, emission-at, emission-reads}
use Rattle.udt_laws.proofs.laid_messages.Layout.{LaidMessage, asked_as, AreLaidOut, IsBlockOf}
use Rattle.udt_laws.proofs.laid_messages.LayoutEnds.{layout_end, block_of-more}
use Rattle.udt_laws.proofs.laid_messages.KeptMessages.{KeepsLaid, none-laid, kept-laid, kept-is_block}
use Rattle.udt_laws.proofs.laid_messages.LaidFrom.{laid_from, laid_from-append, asked_from-laid}
use Rattle.udt_laws.proofs.laid_messages.EventsKeepLaid.{items-keep}

-- ---- what is sent of messages

-- the emission carries the block of the one offset that it names, of one of the messages, under the number of that offset
pub record SendsBlock (isn payload start : ℕ) (messages : List LaidMessage) (emission : Emission) (number : ℕ) (flags : Flags) (bytes : List ℕ)
    : Type 0 where
  pub offset : ℕ
  pub names : emission.offsets ≡ offset ∷ []
  pub not_before : start ≤ offset
  pub numbered : number ≡ sequence_number isn offset
  pub block : IsBlockOf payload messages offset flags bytes

-- the emission asks to drop one of the messages, and names its first and its last offset
pub record AsksDrop (isn : ℕ) (messages : List LaidMessage) (emission : Emission) (first last : ℕ) : Type 0 where
  pub laid : LaidMessage
  pub among : Contains messages laid
  pub names : emission.offsets ≡ laid.message.first ∷ laid.message.last ∷ []
  pub begins : first ≡ sequence_number isn laid.message.first
  pub ends : last ≡ sequence_number isn laid.message.last

-- the same is said of all messages, with the numbers and the full blocks of another moment that has the same
sends-all : (isn last_isn full last_full start : ℕ) (messages more all : List LaidMessage) (emission : Emission) (number : ℕ) (flags : Flags)
    (bytes : List ℕ) → isn ≡ last_isn → full ≡ last_full → all ≡ messages ++ more
    → SendsBlock isn full start messages emission number flags bytes → SendsBlock last_isn last_full start all emission number flags bytes
sends-all isn last_isn full last_full start messages more all emission number flags bytes isn_is full_is all_are sends = record {
  offset = sends.offset;
  names = sends.names;
  not_before = sends.not_before;
  numbered = sends.numbered ∙ ap (λ (n : ℕ). sequence_number n sends.offset) isn_is;
  block = subst (λ (n : ℕ). IsBlockOf n all sends.offset flags bytes) full_is
      (subst (λ (laid : List LaidMessage). IsBlockOf full laid sends.offset flags bytes) (sym all_are)
      (block_of-more full messages more sends.offset flags bytes sends.block));
}

-- and so it is with a drop request
drops-all : (isn last_isn : ℕ) (messages more all : List LaidMessage) (emission : Emission) (first last : ℕ) → isn ≡ last_isn
    → all ≡ messages ++ more → AsksDrop isn messages emission first last → AsksDrop last_isn all emission first last
drops-all isn last_isn messages more all emission first last isn_is all_are drops = record {
  laid = drops.laid;
  among = subst (λ (laid : List LaidMessage). Contains laid drops.laid) (sym all_are) (Contains-append_left messages more drops.laid drops.among);
  names = drops.names;
  begins = drops.begins ∙ ap (λ (n : ℕ). sequence_number n drops.laid.message.first) isn_is;
  ends = drops.ends ∙ ap (λ (n : ℕ). sequence_number n drops.laid.message.last) isn_is;
}

module _ {C : Type 0} (w : Ways C) where
  -- the bytes of a full block that the socket sends
  abbrev pub payload_of : History C → ℕ
  payload_of h = (state_of w h).sending.blocks.payload

  -- the messages that a socket was asked to send lie one after another, and its data packets and its message drop requests
  -- are theirs
  pub record SendsMessages (h : History C) : Type 0 where
    pub laid : List LaidMessage
    pub some : 1 ≤ payload_of h
    pub are_laid : AreLaidOut (payload_of h) (start_of h) laid
    pub ends : layout_end (start_of h) laid ≡ end_of (state_of w h).sending.blocks
    pub asked_is : asked w h ≡ map asked_as laid
    pub sends : (emission : Emission) (number : ℕ) (flags : Flags) (stamp dest : ℕ) (payload : List ℕ) → Contains (emitted w h) emission
        → read emission.datagram.bytes ≡ Ok (Block number flags stamp dest payload)
        → SendsBlock (state_of w h).sending.isn (payload_of h) (start_of h) laid emission number flags payload
    pub drops : (emission : Emission) (message stamp dest first last : ℕ) → Contains (emitted w h) emission
        → read emission.datagram.bytes ≡ Ok (DropAsk message stamp dest first last)
        → AsksDrop (state_of w h).sending.isn laid emission first last

  -- ---- one emission

  module _ (s : State C) (act : Act) (reply : Reply) (start : ℕ) (messages : List LaidMessage) (blocks : List (List ℕ)) (emission : Emission)
      (cut : IsCut s.sending start blocks) (keeps : KeepsLaid s.sending.blocks start messages) where
    module _ (number : ℕ) (flags : Flags) (stamp dest : ℕ) (payload : List ℕ) where
      -- a kept block that is sent
      sends-kept : (offset : ℕ) (block : KeptBlock) → kept_at s.sending.blocks offset ≡ Some block → emission ≡ block_emission s offset block
          → block_packet s.sending (stamp_of s) s.peer.id offset block ≡ Block number flags stamp dest payload
          → SendsBlock s.sending.isn s.sending.blocks.payload start messages emission number flags payload
      sends-kept offset block found is same =
          let flags_are : block.flags ≡ flags = cc in
          let bytes_are : block.bytes ≡ payload = cc in
          let at = kept_at-is s.sending.blocks offset block found in
          let of = kept-is_block s.sending.blocks.payload messages offset block
          (kept-laid s.sending.blocks start messages offset block keeps found) in
          record {
            offset = offset;
            names = ap (λ (e : Emission). e.offsets) is;
            not_before = omega (arith, cut.not_before, at.not_below);
            numbered = cc;
            block = subst (λ (f : Flags). IsBlockOf s.sending.blocks.payload messages offset f payload) flags_are
                (subst (λ (b : List ℕ). IsBlockOf s.sending.blocks.payload messages offset block.flags b) bytes_are of);
          }

      -- an emission that is a data packet sends a block of these messages
      block-of : (x : Emitting w s act reply emission) → packet_of w s act reply emission x ≡ Block number flags stamp dest payload
          → SendsBlock s.sending.isn s.sending.blocks.payload start messages emission number flags payload
      block-of (NewBlock block connected packs is) same =
          sends-kept s.sending.next block (packing-sends w s.sending s.last block packs) is same
      block-of (LostBlock offset block connected packs is) same =
          sends-kept offset block (packing-again w s.sending s.last offset block packs).kept is same
      block-of (DropRequest message connected packs is) same = absurd (cc)
      block-of (FullAck ack connected tells is) same = absurd (cc)
      block-of (LightAck from raw number' flags' stamp' bytes connected arrives carries sender replies is) same = absurd (cc)
      block-of (Reports range ranges connected reports is) same = absurd (cc)
      block-of (ReportsGap from raw number' flags' stamp' bytes ends connected arrives carries sender gap is) same = absurd (cc)
      block-of (ReportsDropGap from raw message stamp' first last range ends connected arrives asks sender messages taken gap is) same = absurd (cc)
      block-of (AnswersAck number' connected is) same = absurd (cc)
      block-of (SendsKeepAlive connected is) same = absurd (cc)
      block-of (TheEnd closing is) same = absurd (cc)
      block-of (SendsHandshake to dest' shake sends is) same = absurd (cc)

    module _ (number stamp dest first last : ℕ) where
      -- the message of a kept block that is dropped
      drops-kept : (message : Message) → packing w s.sending s.last ≡ Drops message → emission ≡ drop_emission s message
          → drop_packet s.sending (stamp_of s) s.peer.id message ≡ DropAsk number stamp dest first last
          → AsksDrop s.sending.isn messages emission first last
      drops-kept message packs is same =
          let dropped = packing-drops w s.sending s.last message packs in
          let kept = kept-laid s.sending.blocks start messages dropped.offset dropped.block keeps dropped.least.kept in
          let message_is : message ≡ kept.laid.message = sym dropped.is ∙ kept.is in
          let begins : first ≡ sequence_number s.sending.isn message.first = cc in
          let ends : last ≡ sequence_number s.sending.isn message.last = cc in
          record {
            laid = kept.laid;
            among = kept.among;
            names = ap (λ (e : Emission). e.offsets) is ∙ ap (λ (m : Message). m.first ∷ m.last ∷ []) message_is;
            begins = begins ∙ ap (λ (m : Message). sequence_number s.sending.isn m.first) message_is;
            ends = ends ∙ ap (λ (m : Message). sequence_number s.sending.isn m.last) message_is;
          }

      -- an emission that is a message drop request asks to drop one of these messages
      drop-of : (x : Emitting w s act reply emission) → packet_of w s act reply emission x ≡ DropAsk number stamp dest first last
          → AsksDrop s.sending.isn messages emission first last
      drop-of (NewBlock block connected packs is) same = absurd (cc)
      drop-of (LostBlock offset block connected packs is) same = absurd (cc)
      drop-of (DropRequest message connected packs is) same = drops-kept message packs is same
      drop-of (FullAck ack connected tells is) same = absurd (cc)
      drop-of (LightAck from raw number' flags' stamp' bytes connected arrives carries sender replies is) same = absurd (cc)
      drop-of (Reports range ranges connected reports is) same = absurd (cc)
      drop-of (ReportsGap from raw number' flags' stamp' bytes ends connected arrives carries sender gap is) same = absurd (cc)
      drop-of (ReportsDropGap from raw message stamp' first' last' range ends connected arrives asks sender messages taken gap is) same = absurd (cc)
      drop-of (AnswersAck number' connected is) same = absurd (cc)
      drop-of (SendsKeepAlive connected is) same = absurd (cc)
      drop-of (TheEnd closing is) same = absurd (cc)
      drop-of (SendsHandshake to dest' shake sends is) same = absurd (cc)

  -- ---- histories

  module _ (h : History C) (begins : Begins w h) (carries : CarriesMessages h) where
    settled : is_settled h.opening.phase ≡ true
    settled = begins_settled w h begins

    begins-cut : IsCut h.opening.sending (start_of h) []
    begins-cut = (begins-well w h begins).cut

    -- after legal items the kept blocks are those of the messages so far
    keeps-after : (items : List Item) → AreLegal w h.opening items
        → KeepsLaid (after_items w h.opening items).sending.blocks (start_of h) (laid_from w h.opening items)
    keeps-after items legal_items =
        items-keep w h.opening (start_of h) [] [] items settled legal_items carries begins-cut
        (none-laid h.opening.sending.blocks (omega (arith, begins-cut.count)))

    -- before an emission of the history too
    keeps-at : (emission : Emission) (at : IsEmittedAt w h.opening h.items emission)
        → KeepsLaid (after_items w h.opening at.front).sending.blocks (start_of h) (laid_from w h.opening at.front)
    keeps-at emission at =
        keeps-after at.front (AreLegal-front w h.opening at.front (at.item ∷ at.rest) (subst (AreLegal w h.opening) at.joined begins.legal))

    -- all messages are those so far and those after the emission
    abbrev laid-later : (emission : Emission) → IsEmittedAt w h.opening h.items emission → List LaidMessage
    laid-later emission at = laid_from w (after_items w h.opening at.front) (at.item ∷ at.rest)

    laid-all : (emission : Emission) (at : IsEmittedAt w h.opening h.items emission)
        → laid_from w h.opening h.items ≡ laid_from w h.opening at.front ++ laid-later emission at
    laid-all emission at = ap (laid_from w h.opening) at.joined ∙ laid_from-append w h.opening at.front (at.item ∷ at.rest)

    -- the sending half numbers and cuts as at the end
    isn-last : (items : List Item) → (after_items w h.opening items).sending.isn ≡ (state_of w h).sending.isn
    isn-last items = (after_items-keeps w h.opening items settled).sending.isn ∙ sym (after_items-keeps w h.opening h.items settled).sending.isn

    payload-last : (items : List Item) → (after_items w h.opening items).sending.blocks.payload ≡ payload_of h
    payload-last items = (after_items-keeps w h.opening items settled).sending.payload ∙ sym (after_items-keeps w h.opening h.items settled).sending.payload

    sends-block : (emission : Emission) (number : ℕ) (flags : Flags) (stamp dest : ℕ) (payload : List ℕ) → Contains (emitted w h) emission
        → read emission.datagram.bytes ≡ Ok (Block number flags stamp dest payload)
        → SendsBlock (state_of w h).sending.isn (payload_of h) (start_of h) (laid_from w h.opening h.items) emission number flags payload
    sends-block emission number flags stamp dest payload among reads =
        let at = emission-at w h begins emission among in
        let spelled = emission-reads w h begins emission at in
        let same = same-packet emission.datagram.bytes _ _ spelled.reads reads in
        let messages = laid_from w h.opening at.front in
        let cut = items-cut w h.opening (start_of h) [] at.front settled begins-cut in
        let found = block-of (at_moment (after_items w h.opening at.front) at.item.event.now) at.item.event.act _ (start_of h) messages _ emission
        cut (keeps-at emission at) number flags stamp dest payload at.emitting same in
        sends-all _ _ _ _ (start_of h) messages (laid-later emission at) _ emission number flags payload (isn-last at.front) (payload-last at.front)
        (laid-all emission at) found

    asks-drop : (emission : Emission) (message stamp dest first last : ℕ) → Contains (emitted w h) emission
        → read emission.datagram.bytes ≡ Ok (DropAsk message stamp dest first last)
        → AsksDrop (state_of w h).sending.isn (laid_from w h.opening h.items) emission first last
    asks-drop emission message stamp dest first last among reads =
        let at = emission-at w h begins emission among in
        let spelled = emission-reads w h begins emission at in
        let same = same-packet emission.datagram.bytes _ _ spelled.reads reads in
        let messages = laid_from w h.opening at.front in
        let cut = items-cut w h.opening (start_of h) [] at.front settled begins-cut in
        let found = drop-of (at_moment (after_items w h.opening at.front) at.item.event.now) at.item.event.act _ (start_of h) messages _ emission
        cut (keeps-at emission at) message stamp dest first last at.emitting same in
        drops-all _ _ messages (laid-later emission at) _ emission first last (isn-last at.front) (laid-all emission at) found

    -- so each history of a message socket sends
    pub sends_messages : SendsMessages h
    sends_messages = record {
      laid = laid_from w h.opening h.items;
      some = (items-cut w h.opening (start_of h) [] h.items settled begins-cut).payload;
      are_laid = (keeps-after h.items begins.legal).laid_out;
      ends = (keeps-after h.items begins.legal).ends;
      asked_is = asked_from-laid w h.opening h.items;
      sends = sends-block;
      drops = asks-drop;
    }
