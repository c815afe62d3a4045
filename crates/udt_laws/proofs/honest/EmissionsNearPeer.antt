-- All offsets that a history names lie between its start and as many more as bytes that it or its peer may send,
-- where its half stands there.
use Rattle.std.proofs.Common.{◌≡◌, ℕ, ◌+◌, ◌-◌, ◌<◌, ◌≤◌, true, false, List, ◌∷◌, length, Some, None, Ok, refl, ap, subst, arith}
use Rattle.std.specs.List.{Contains}
use Rattle.std.specs.Prelude.{nat_lt, if◌then◌else◌}
use Rattle.std.proofs.lemmas.Bool.{ltb-true}
use Rattle.std.proofs.lemmas.Option.{same_Some}
use Rattle.udt_model.specs.declared.addresses.Addr.{Addr}
use Rattle.udt_model.specs.declared.packets.Flags.{Flags}
use Rattle.udt_model.specs.Events.{Act, Arrive, Reply, at_moment}
use Rattle.udt_model.specs.Emissions.{emitted}
use Rattle.udt_model.specs.History.{History, after_items, start_of, accepted}
use Rattle.udt_model.specs.Numbers.{near}
use Rattle.udt_model.specs.Rate.{Ways}
use Rattle.udt_model.specs.ReceiveHalf.{after_block, gap_before}
use Rattle.udt_model.specs.ReceiveReports.{ack_offset}
use Rattle.udt_model.specs.State.{State, Emission}
use Rattle.udt_model.specs.Wire.{Block, read}
use Rattle.udt_model.proofs.DropLemmas.{drop_range-is}
use Rattle.udt_model.proofs.EmissionLemmas.{Emitting, NewBlock, LostBlock, DropRequest, FullAck, LightAck, Reports, ReportsGap}
use Rattle.udt_model.proofs.EmissionLemmas.{ReportsDropGap, AnswersAck, SendsKeepAlive, TheEnd, SendsHandshake, IsEmittedAt}
use Rattle.udt_model.proofs.ReceivingLemmas.{offset_of-some}
use Rattle.udt_model.proofs.TickLemmas.{ack_outcome-tells}
use Rattle.udt_laws.proofs.acked_has_arrived.BelowGapWasPlaced.{ack-within}
use Rattle.udt_laws.proofs.honest.NamedOffsets.{block-between, drop-between}
use Rattle.udt_laws.proofs.honest.TopBelow.{BringsBelow, MeetsBelow}
use Rattle.udt_laws.proofs.laid_messages.TopStands.{StandsBetween, block-stands}
use Rattle.udt_laws.proofs.pairs.PairIsHonest.{none-named, two-named}
use Rattle.udt_laws.proofs.sent_blocks.EmissionsRead.{packet_of}
use Rattle.udt_laws.proofs.sent_blocks.NakRanges.{EndsMeet, IsBetween, nak-ends, block-gap, drop-gap, gap-found, named-ends}
use Rattle.udt_laws.proofs.sent_blocks.NamedWasSent.{only-named}
use Rattle.udt_laws.proofs.sent_blocks.ReportsFit.{ReportsFit, block-fits}
use Rattle.udt_laws.proofs.sent_blocks.SentBlocks.{emission-at, emission-reads}
use Rattle.udt_laws.proofs.sockets.Begins.{Begins}

-- a gap ends below what shows it
gap-below : (top offset : ℕ) (ends : ℕ × ℕ) → gap_before top offset ≡ Some ends → ends.1 < offset
gap-below top offset ends gap =
    elim (nat_lt top offset) as (λ above. nat_lt top offset ≡ above
    → (if above then Some (top, offset - 1) else None) ≡ Some ends → ends.1 < offset) [
      | true ↦ λ test found. omega (arith, ltb-true top offset test, ap (λ (e : ℕ × ℕ). e.1) (same_Some _ _ found))
      | false ↦ λ test found. absurd (cc)
    ] refl gap

module _ {C : Type 0} (w : Ways C) where
  -- the receiving half of a state stands between these offsets, and before the second of them after what this act brings
  pub record StandsAtAct (low high : ℕ) (s : State C) (act : Act) : Type 0 where
    pub base : low ≤ s.receiving.blocks.base
    pub top : s.receiving.top ≤ high
    pub fits : ReportsFit s.receiving
    pub meets : MeetsBelow high s act
    -- a light ACK names an offset that isn't below the start
    pub light : (now number : ℕ) (flags : Flags) (payload : List ℕ)
        → low ≤ (after_block s.receiving now number flags payload).blocks.base

  module _ (low high : ℕ) (t : State C) (act : Act) (stands : StandsAtAct low high t act) where
    brought : (from : Addr) (raw : List ℕ) → act ≡ Arrive from raw → BringsBelow high t from raw
    brought from raw arrives = subst (MeetsBelow high t) arrives stands.meets

    -- the offset of a data packet that arrives
    arrived-below : (from : Addr) (raw : List ℕ) (number : ℕ) (flags : Flags) (stamp : ℕ) (payload : List ℕ)
        → act ≡ Arrive from raw
        → read raw ≡ Ok (Block number flags stamp t.own payload) → from ≡ t.peer.addr
        → (offset : ℕ) → near t.receiving.isn t.receiving.top number ≡ Some offset → offset < high
    arrived-below from raw number flags stamp payload arrives carries sender offset found =
        (brought from raw arrives).places number flags stamp payload offset sender carries found

    top-stands : StandsBetween low high t.receiving.top
    top-stands = record { not_below = omega (arith, stands.base, stands.fits.order.base); not_above = stands.top }

  module _ (h : History C) (begins : Begins w h) (high : ℕ) (few : start_of h + length (accepted h) ≤ high) where
    kind-between : (emission : Emission) (offset : ℕ) → Contains (emitted w h) emission
        → (t : State C) (act : Act) (reply : Reply)
        → (x : Emitting w t act reply emission) → read emission.datagram.bytes ≡ Ok (packet_of w t act reply emission x)
        → Contains emission.offsets offset → StandsAtAct (start_of h) high t act → (start_of h ≤ offset) × (offset ≤ high)
    kind-between emission offset among t act reply (NewBlock block connected packs is) reads named stands =
        let at = block-between w h begins emission _ _ _ _ _ offset among reads named in
        (at.0, omega (arith, at.1, few))
    kind-between emission offset among t act reply (LostBlock lost block connected packs is) reads named stands =
        let at = block-between w h begins emission _ _ _ _ _ offset among reads named in
        (at.0, omega (arith, at.1, few))
    kind-between emission offset among t act reply (DropRequest message connected packs is) reads named stands =
        let at = drop-between w h begins emission _ _ _ _ _ offset among reads named in
        (at.0, omega (arith, at.1, few))
    kind-between emission offset among t act reply (FullAck ack connected tells is) reads named stands =
        let told = ack_outcome-tells t.receiving t.last t.rtt ack tells in
        let at = ack-within t.receiving stands.fits in
        let same = only-named emission ack.offset offset (ap (λ (e : Emission). e.offsets) is) named in
        (omega (arith, told.offset, at.0, stands.base, same), omega (arith, told.offset, at.1, stands.top, same))
    kind-between emission offset among t act reply
        (LightAck from raw number flags stamp payload connected arrives carries sender replies is) reads named stands =
        let after = after_block t.receiving t.last number flags payload in
        let at = ack-within after (block-fits t.receiving t.last number flags payload stands.fits) in
        let top = block-stands (start_of h) high t.receiving t.last number flags payload
        (arrived-below (start_of h) high t act stands from raw number flags stamp payload arrives carries sender)
        (top-stands (start_of h) high t act stands) in
        let same = only-named emission (ack_offset after) offset (ap (λ (e : Emission). e.offsets) is) named in
        (omega (arith, at.0, stands.light t.last number flags payload, same), omega (arith, at.1, top.not_above, same))
    kind-between emission offset among t act reply (Reports range ranges connected reports is) reads named stands =
        let there = subst (λ (l : List ℕ). Contains l offset) (ap (λ (e : Emission). e.offsets) is) named in
        let ends = subst (λ l. EndsMeet (IsBetween t.receiving) l) reports (nak-ends t.receiving t.last t.rtt stands.fits) in
        let between = named-ends (IsBetween t.receiving) (range ∷ ranges) offset ends there in
        (omega (arith, between.0, stands.base), omega (arith, between.1, stands.top))
    kind-between emission offset among t act reply
        (ReportsGap from raw number flags stamp payload ends connected arrives carries sender gap is) reads named stands =
        let there = subst (λ (l : List ℕ). Contains l offset) (ap (λ (e : Emission). e.offsets) is) named in
        let gap_is = block-gap t.receiving number ends gap in
        let found = offset_of-some t.receiving number (ends.1 + 1) (gap-found t.receiving number ends gap) in
        let less = arrived-below (start_of h) high t act stands from raw number flags stamp payload arrives carries sender
        (ends.1 + 1) found.is_near in
        two-named (start_of h) high ends offset
        (omega (arith, gap_is.from, stands.base, stands.fits.order.base), gap_is.order, omega (arith, less)) there
    kind-between emission offset among t act reply
        (ReportsDropGap from raw message stamp first last range ends connected arrives asks sender messages taken gap is)
        reads named stands =
        let there = subst (λ (l : List ℕ). Contains l offset) (ap (λ (e : Emission). e.offsets) is) named in
        let gap_is = drop-gap t.receiving first last range ends taken gap in
        let below = brought (start_of h) high t act stands from raw arrives in
        let less = below.drops message stamp first last range sender asks taken in
        let takes = (drop_range-is t.receiving first last range taken).takes in
        let end = gap-below t.receiving.top range.first ends gap in
        two-named (start_of h) high ends offset (
          omega (arith, gap_is.from, stands.base, stands.fits.order.base),
          gap_is.order,
          omega (arith, end, less, takes.some),
        ) there
    kind-between emission offset among t act reply (AnswersAck number connected is) reads named stands =
        absurd (none-named offset (subst (λ (l : List ℕ). Contains l offset) (ap (λ (e : Emission). e.offsets) is) named))
    kind-between emission offset among t act reply (SendsKeepAlive connected is) reads named stands =
        absurd (none-named offset (subst (λ (l : List ℕ). Contains l offset) (ap (λ (e : Emission). e.offsets) is) named))
    kind-between emission offset among t act reply (TheEnd closing is) reads named stands =
        absurd (none-named offset (subst (λ (l : List ℕ). Contains l offset) (ap (λ (e : Emission). e.offsets) is) named))
    kind-between emission offset among t act reply (SendsHandshake to dest shake sends is) reads named stands =
        absurd (none-named offset (subst (λ (l : List ℕ). Contains l offset) (ap (λ (e : Emission). e.offsets) is) named))

    -- so each emission names offsets between these, where the half stands there at that moment
    pub names-between : (emission : Emission) (offset : ℕ) → Contains (emitted w h) emission → Contains emission.offsets offset
        → ((at : IsEmittedAt w h.opening h.items emission)
        → StandsAtAct (start_of h) high (at_moment (after_items w h.opening at.front) at.item.event.now) at.item.event.act)
        → (start_of h ≤ offset) × (offset ≤ high)
    names-between emission offset among named stands =
        let at = emission-at w h begins emission among in
        kind-between emission offset among _ _ _ at.emitting (emission-reads w h begins emission at).reads named (stands at)
