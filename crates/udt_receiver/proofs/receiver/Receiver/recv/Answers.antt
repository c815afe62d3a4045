use Rattle.std.proofs.Common.{◌∙◌, sym, arith}
use Rattle.udt_model.proofs.InOrder.{read_in_order}
use Rattle.udt_receiver.proofs.receiver.Receiver.recv.Goals as goal

-- the base passes no packet that is missing
pub invariant_of-self : goal.invariant_of-self
invariant_of-self c =
    let i = c.self.invariant in
    let r = c.self.inside in
    let kept = c.read.ensures.kept in
    record {
      order = rw c.read.ensures.next (read_in_order r.buffer r.top c.read.result r.lost.missing i.order);
      top = i.top;
      window = i.window ∙ sym kept.capacity;
      few = omega (arith, kept.capacity, i.few);
      payload = omega (arith, kept.payload, i.payload);
      number = i.number;
      fresh = i.fresh;
      ack_due = i.ack_due;
      nak_due = i.nak_due;
    }
