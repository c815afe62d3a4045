-- What a history acknowledges: each ACK that it emits names one offset, before which all was placed or dropped.
use Rattle.std.proofs.Common.{◌≡◌, ℕ, ◌≤◌, List, [], ◌∷◌, ◌++◌, Ok, ap, ◌∙◌, sym, subst, arith}
use Rattle.std.specs.List.{Contains}
use Rattle.std.proofs.lemmas.Bool.{or_left, or_right}
use Rattle.std.proofs.lemmas.List.Folds.{list_any-append}
use Rattle.udt_model.specs.declared.packets.Kind.TheVariants.{Stream}
use Rattle.udt_model.specs.declared.packets.AckBody.{AckBody}
use Rattle.udt_model.specs.Emissions.{emitted}
use Rattle.udt_model.specs.Events.{Act, Reply, at_moment}
use Rattle.udt_model.specs.History.{Item, History, start_of, after_items, IsLegal, placed_offsets, dropped_offsets}
use Rattle.udt_model.specs.Numbers.{sequence_number}
use Rattle.udt_model.specs.Rate.{Ways}
use Rattle.udt_model.specs.ReceiveHalf.{after_block}
use Rattle.udt_model.specs.ReceiveReports.{ack_offset, full_ack, light_ack}
use Rattle.udt_model.specs.SendReports.{acked_number}
use Rattle.udt_model.specs.State.{State, Emission}
use Rattle.udt_model.specs.Wire.{Ack, read}
use Rattle.udt_model.proofs.EmissionLemmas.{Emitting, NewBlock, LostBlock, DropRequest, FullAck, LightAck, Reports, ReportsGap, ReportsDropGap, AnswersAck, SendsKeepAlive, TheEnd, SendsHandshake}
use Rattle.udt_model.proofs.HalfLemmas.{after_block-keeps}
use Rattle.udt_model.proofs.TickLemmas.{ack_outcome-tells}
use Rattle.udt_laws.proofs.sockets.Begins.{Begins, begins_base, begins_top}
use Rattle.udt_laws.proofs.acked_has_arrived.CountsWithoutGap.{IsAmong, AllBetween}
use Rattle.udt_laws.proofs.acked_has_arrived.BelowGapWasPlaced.{Covers, ack_emitted-covered}
use Rattle.udt_laws.proofs.acked_has_arrived.EventsPlace.{EventMeets, ItemsMeet, items-covers, carried-covers, item-meets}
use Rattle.udt_laws.proofs.sent_blocks.EmissionsRead.{packet_of}
use Rattle.udt_laws.proofs.sent_blocks.ReportsFit.{ReportsFit, block-fits}
use Rattle.udt_laws.proofs.sent_blocks.SentBlocks.{same-packet, moment-at, begins-well, emission-at, emission-reads}

-- the datagram names one offset, which has this sequence number, and all from the start on and before it meet this
pub record TellsOf (P : ℕ → Type 0) (start isn : ℕ) (emission : Emission) (number : ℕ) : Type 0 where
  pub offset : ℕ
  pub names : emission.offsets ≡ offset ∷ []
  pub not_before : start ≤ offset
  pub all : AllBetween P start offset
  pub numbered : sequence_number isn offset ≡ number

module _ {C : Type 0} (w : Ways C) where
  -- an emission that is an ACK tells of what the half knows
  emitting-tells : (P : ℕ → Type 0) (start : ℕ) (s : State C) (act : Act) (reply : Reply) (emission : Emission) (x : Emitting w s act reply emission)
      (number stamp dest : ℕ) (body : AckBody) → ReportsFit s.receiving → Covers P start s.receiving → EventMeets P s act reply
      → packet_of w s act reply emission x ≡ Ack number stamp dest body
      → TellsOf P start s.receiving.isn emission (acked_number body)
  emitting-tells P start s act reply emission (NewBlock block connected packs is) number stamp dest body fits covers meets same = absurd (cc)
  emitting-tells P start s act reply emission (LostBlock offset block connected packs is) number stamp dest body fits covers meets same = absurd (cc)
  emitting-tells P start s act reply emission (DropRequest message connected packs is) number stamp dest body fits covers meets same = absurd (cc)
  emitting-tells P start s act reply emission (FullAck ack connected tells is) number stamp dest body fits covers meets same =
      let told = ack_outcome-tells s.receiving s.last s.rtt ack tells in
      let covered = ack_emitted-covered P start s.receiving fits covers in
      let full : full_ack s.receiving s.rtt ack.offset ≡ body = cc in
      record {
        offset = ack.offset;
        names = ap (λ (e : Emission). e.offsets) is;
        not_before = rw told.offset covered.begun;
        all = rw told.offset covered.below;
        numbered = ap acked_number full;
      }
  emitting-tells P start s act reply emission (LightAck from raw number' flags stamp' bytes connected arrives carries sender replies is) number stamp dest body fits covers meets same =
      let after = after_block s.receiving s.last number' flags bytes in
      let there = subst (λ (a : Act). EventMeets P s a reply) arrives meets in
      let covers_after = carried-covers w P start s from raw s.last number' flags stamp' s.own bytes reply carries replies there.placed covers in
      let covered = ack_emitted-covered P start after (block-fits s.receiving s.last number' flags bytes fits) covers_after in
      let light : light_ack after ≡ body = cc in
      record {
        offset = ack_offset after;
        names = ap (λ (e : Emission). e.offsets) is;
        not_before = covered.begun;
        all = covered.below;
        numbered =
            ap (λ (isn : ℕ). sequence_number isn (ack_offset after)) (sym (after_block-keeps s.receiving s.last number' flags bytes).isn)
            ∙ ap acked_number light;
      }
  emitting-tells P start s act reply emission (Reports range ranges connected reports is) number stamp dest body fits covers meets same = absurd (cc)
  emitting-tells P start s act reply emission (ReportsGap from raw number' flags stamp' bytes ends connected arrives carries sender gap is) number stamp dest body fits covers meets same = absurd (cc)
  emitting-tells P start s act reply emission (ReportsDropGap from raw message stamp' first last range ends connected arrives asks sender messages taken gap is) number stamp dest body fits covers meets same = absurd (cc)
  emitting-tells P start s act reply emission (AnswersAck number' connected is) number stamp dest body fits covers meets same = absurd (cc)
  emitting-tells P start s act reply emission (SendsKeepAlive connected is) number stamp dest body fits covers meets same = absurd (cc)
  emitting-tells P start s act reply emission (TheEnd closing is) number stamp dest body fits covers meets same = absurd (cc)
  emitting-tells P start s act reply emission (SendsHandshake to dest' shake sends is) number stamp dest body fits covers meets same = absurd (cc)

  -- a block of this offset was placed in this history
  abbrev pub HasPlaced : History C → ℕ → Type 0
  HasPlaced h offset = IsAmong offset (placed_offsets w h)

  -- or the offset was dropped
  abbrev pub HasTaken : History C → ℕ → Type 0
  HasTaken h offset = IsAmong offset (placed_offsets w h ++ dropped_offsets w h)

  pub stream-placed : (h : History C) → h.opening.kind ≡ Stream → ItemsMeet w (HasPlaced h) h.opening h.items
  stream-placed h stream = record { placed = λ n among. among; dropped = λ messages. absurd (cc) }

  pub all-taken : (h : History C) → ItemsMeet w (HasTaken h) h.opening h.items
  all-taken h = record {
    placed = λ n among. list_any-append _ (placed_offsets w h) (dropped_offsets w h) ∙ or_left _ _ among;
    dropped = λ messages n among. list_any-append _ (placed_offsets w h) (dropped_offsets w h) ∙ or_right _ _ among;
  }

  -- a history knows of no offset when it begins
  pub begins-covers : (P : ℕ → Type 0) (h : History C) → Begins w h → Covers P (start_of h) h.opening.receiving
  begins-covers P h begins = record {
    begun = omega (arith, begins_base w h begins);
    there = λ n low high none. absurd (omega (arith, low, high, begins_top w h begins));
  }

  -- so what it emits and is read as an ACK tells of what all that it places and drops meets
  pub history-tells : (P : ℕ → Type 0) (h : History C) → Begins w h → ItemsMeet w P h.opening h.items
      → (emission : Emission) (number stamp dest : ℕ) (body : AckBody) → Contains (emitted w h) emission
      → read emission.datagram.bytes ≡ Ok (Ack number stamp dest body)
      → TellsOf P (start_of h) h.opening.receiving.isn emission (acked_number body)
  history-tells P h begins meet emission number stamp dest body among reads =
      let at = emission-at w h begins emission among in
      let spelled = emission-reads w h begins emission at in
      let there = after_items w h.opening at.front in
      let moment = moment-at w h begins emission at in
      let here_legal = subst (λ (items : List Item). IsLegal w (record { opening = h.opening; items = items })) at.joined begins.legal in
      let all_meet = subst (ItemsMeet w P h.opening) at.joined meet in
      let covers = items-covers w P (start_of h) h.opening at.front (at.item ∷ at.rest) here_legal all_meet
      (begins-well w h begins).reports (begins-covers P h begins) in
      let meets = item-meets w P h.opening at.front at.item at.rest here_legal all_meet in
      subst (λ (isn : ℕ). TellsOf P (start_of h) isn emission (acked_number body)) moment.receiving_isn
      (emitting-tells P (start_of h) (at_moment there at.item.event.now) at.item.event.act _ emission at.emitting number stamp dest body
      moment.can.reports covers (record { placed = meets.placed; dropped = meets.dropped })
      (same-packet emission.datagram.bytes _ _ spelled.reads reads))
