use Rattle.std.proofs.Common.{◌+◌, ◌<◌, ◌≤◌, sym, ◌∙◌, arith}
use Rattle.udt_model.proofs.InOrder.{IsTakable, skipped_in_order}
use Rattle.udt_receiver.specs.Half.{receiving_of}
use Rattle.udt_receiver.proofs.Blocks.{gap_is}
use Rattle.udt_receiver.proofs.ListedOffsets.{all_below, first_from}
use Rattle.udt_receiver.proofs.receiver.Receiver.on_drop.Goals as goal

-- there is room for the last offset of the range
pub skip-requires-clause-within : goal.skip-requires-clause-within
skip-requires-clause-within c = rw (← c.self.view_is) at c.in-Some.ensures.room

-- what is missing lies below the top
pub note_taken-gap-requires-clause-above : goal.note_taken-gap-requires-clause-above
note_taken-gap-requires-clause-above c = all_below c.self.inside.top c.self.inside.lost.missing c.self.invariant.order.below

-- and from the base on
pub note_taken-gap-requires-clause-room : goal.note_taken-gap-requires-clause-room
note_taken-gap-requires-clause-room c =
    let i = c.self.invariant in
    let r = c.self.inside in
    let room : c.in-Some.last < r.buffer.base + r.buffer.capacity = rw (← c.self.view_is) at c.in-Some.ensures.room in
    let from = first_from r.buffer.base r.top r.lost.missing i.order.base i.order.from in
    omega (arith, c.in-Some.ensures.order, room, from, i.window)

pub invariant_of-self : goal.invariant_of-self
invariant_of-self c =
    let i = c.self.invariant in
    let r = c.self.inside in
    let base : r.buffer.base ≤ c.in-Some.last = rw (← c.self.view_is) at c.in-Some.ensures.base in
    let room : c.in-Some.last < r.buffer.base + r.buffer.capacity = rw (← c.self.view_is) at c.in-Some.ensures.room in
    let takes : IsTakable r.buffer c.in-Some.first c.in-Some.last = record { some = c.in-Some.ensures.order; not_below = base; room = room } in
    let order = skipped_in_order r.buffer c.in-Some.first c.in-Some.last r.top c.args.now r.lost.missing i.order takes in
    let kept = c.skip.ensures.kept in
    record {
      order = rw (c.skip.ensures.next, c.note_taken-gap.ensures.top, c.note_taken-gap.ensures.next) order;
      top = omega (arith, c.note_taken-gap.ensures.top, i.top, c.in-Some.ensures.limit);
      window = rw c.note_taken-gap.ensures.next (i.window ∙ sym kept.capacity);
      few = omega (arith, kept.capacity, i.few);
      payload = omega (arith, kept.payload, i.payload);
      number = i.number;
      fresh = i.fresh;
      ack_due = i.ack_due;
      nak_due = i.nak_due;
    }

pub returns-clause-gap : goal.returns-clause-gap
returns-clause-gap c =
    let i = c.self.invariant in
    let r = c.self.inside in
    let room : c.in-Some.last < r.buffer.base + r.buffer.capacity = rw (← c.self.view_is) at c.in-Some.ensures.room in
    let order = c.in-Some.ensures.order in
    rw (← c.self.view_is, c.note_taken-gap.ensures.value)
    (gap_is (receiving_of r) c.in-Some.first i.order.base (omega (arith, order, room)) (omega (arith, order, c.in-Some.ensures.limit)))
