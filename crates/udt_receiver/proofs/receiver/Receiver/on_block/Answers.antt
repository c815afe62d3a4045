use Rattle.std.proofs.Common.{◌≡◌, Some, sym, ◌∙◌, arith}
use Rattle.udt_model.specs.ReceiveHalf.{measured, offset_of}
use Rattle.udt_receiver.specs.Half.{receiving_of}
use Rattle.udt_receiver.proofs.ListedOffsets.{all_below, first_from}
use Rattle.udt_model.proofs.InOrder.{is_new, placed_in_order}
use Rattle.udt_receiver.proofs.Blocks.{answer_measured, after_measured, place_other, after_other, answer_other, gap_is, gap_measured, kept_measured}
use Rattle.udt_receiver.proofs.receiver.Receiver.on_block.Goals as goal
use Rattle.udt_receiver.proofs.receiver.Receiver.on_block.Goals.{In_default-place, In-New, then-light, else-light}

-- ---- a block that isn't new

-- the half that was measured
half : (c : In_default-place) → receiving_of c.self.inside ≡ measured c.args.self.now c.args.now c.args.seq
half c = c.self.view_is ∙ c.measure.ensures

-- the offset of the packet
offset : (c : In_default-place) → offset_of (receiving_of c.self.inside) c.args.seq ≡ Some c.in-Some.offset
unfolding offset_of
offset c = sym c.offset_of.ensures.value ∙ c.in-Some.is

-- the blocks stay
stays : (c : In_default-place) → c.place.new.self ≡ c.self.inside.buffer
stays c =
    c.place.ensures.next
    ∙ place_other c.self.inside.buffer c.in-Some.offset c.args.flags c.args.bytes.now c.place.result c.place.ensures.value c.in_default-place.not-New

pub invariant_of-self : goal.invariant_of-self
invariant_of-self c = rw (stays ((goal.at.invariant_of-self c).In_default-place)) c.self.invariant

pub returns-in_default-place : goal.returns-in_default-place
returns-in_default-place c =
    let here = (goal.at.returns-in_default-place c).In_default-place in
    let r = receiving_of c.self.inside in
    let other = c.in_default-place.not-New in
    let answer = answer_other r c.args.seq c.in-Some.offset c.place.result (offset here) c.place.ensures.value other in
    let after = after_other r c.args.now c.args.seq c.in-Some.offset c.args.flags c.args.bytes.now c.place.result (offset here) c.place.ensures.value other in
    record {
      value = c.unplaced-in_default-place.ensures ∙ sym answer ∙ answer_measured c.args.self.now r c.args.now c.args.seq (half here);
      next = rw (stays here) (sym after ∙ after_measured c.args.self.now r c.args.now c.args.seq c.args.flags c.args.bytes.now (half here));
      gap = rw c.unplaced-in_default-place.ensures tt;
      kept = rw (stays here) (kept_measured c.args.self.now r c.args.now c.args.seq (half here));
    }

-- ---- a new block

-- what is missing lies below the top
pub note_placed-gap-requires-clause-above : goal.note_placed-gap-requires-clause-above
note_placed-gap-requires-clause-above c = all_below c.self.inside.top c.self.inside.lost.missing c.self.invariant.order.below

-- and from the base on
pub note_placed-gap-requires-clause-room : goal.note_placed-gap-requires-clause-room
note_placed-gap-requires-clause-room c =
    let i = c.self.invariant in
    let r = c.self.inside in
    let new = is_new r.buffer c.in-Some.offset (sym c.place.ensures.value ∙ c.in-New.is) in
    let from = first_from r.buffer.base r.top r.lost.missing i.order.base i.order.from in
    omega (arith, new.room, from, i.window)

pub invariant_of-self-2 : goal.invariant_of-self-2
invariant_of-self-2 c =
    let i = c.self.invariant in
    let r = c.self.inside in
    let new = sym c.place.ensures.value ∙ c.in-New.is in
    let order = placed_in_order r.buffer r.top c.args.now c.in-Some.offset c.args.flags c.args.bytes.now r.lost.missing i.order new in
    let kept = c.place.ensures.kept in
    record {
      order = rw (c.place.ensures.next, c.note_placed-gap.ensures.top, c.note_placed-gap.ensures.next) order;
      top = omega (arith, c.note_placed-gap.ensures.top, i.top, c.in-Some.ensures.limit);
      window = rw c.note_placed-gap.ensures.next (i.window ∙ sym kept.capacity);
      few = omega (arith, kept.capacity, i.few);
      payload = omega (arith, kept.payload, i.payload);
      number = i.number;
      fresh = elim c.if-light.branch [ then-light w ↦ omega (arith, w.self-is) | else-light w ↦ omega (arith, w.self-is, w.if-light.false, i.fresh) ];
      ack_due = i.ack_due;
      nak_due = i.nak_due;
    }

pub returns-clause-gap : goal.returns-clause-gap
returns-clause-gap c =
    let r = receiving_of c.self.inside in
    let half : r ≡ measured c.args.self.now c.args.now c.args.seq = c.self.view_is ∙ c.measure.ensures in
    let new = is_new r.blocks c.in-Some.offset (sym c.place.ensures.value ∙ c.in-New.is) in
    rw c.note_placed-gap.ensures.value (gap_measured c.args.self.now r c.args.now c.args.seq c.in-Some.offset half (gap_is r c.in-Some.offset c.self.invariant.order.base new.room c.in-Some.ensures.limit))
