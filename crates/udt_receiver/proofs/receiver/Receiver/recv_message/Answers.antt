use Rattle.std.proofs.Common.{◌∙◌, sym, length, arith}
use Rattle.udt_model.specs.ReceiveBlocks.{next_message}
use Rattle.udt_receiver.specs.Half.{receiving_of}
use Rattle.udt_receiver.proofs.Given.{given-fits, given-rest, none-shown, none-taken}
use Rattle.udt_model.proofs.DropLemmas.{message_in_order}
use Rattle.udt_receiver.proofs.receiver.Receiver.recv_message.Goals as goal

-- a message that is read has no packet that is missing
pub invariant_of-self : goal.invariant_of-self
invariant_of-self c =
    let i = c.self.invariant in
    let r = c.self.inside in
    let kept = c.read_message.ensures.kept in
    record {
      order = rw c.read_message.ensures.next (message_in_order r.buffer (length c.args.into.now) r.top r.lost.missing i.order);
      top = i.top;
      window = i.window ∙ sym kept.capacity;
      few = omega (arith, kept.capacity, i.few);
      payload = omega (arith, kept.payload, i.payload);
      number = i.number;
      fresh = i.fresh;
      ack_due = i.ack_due;
      nak_due = i.nak_due;
    }

-- what is given has room, and changes no more of it
pub returns-clause-within : goal.returns-clause-within
returns-clause-within c = rw c.read_message.ensures.value (given-fits (length c.args.into.now) (next_message c.self.inside.buffer))

pub returns-clause-rest : goal.returns-clause-rest
returns-clause-rest c =
    rw (c.read_message.ensures.value, c.read_message.ensures.into) (given-rest c.args.into.now (next_message c.self.inside.buffer))

-- where none is given all stays
pub returns-clause-none : goal.returns-clause-none
returns-clause-none c =
    rw (c.read_message.ensures.value, c.read_message.ensures.into) (none-shown c.args.into.now (next_message c.self.inside.buffer))

pub returns-clause-stays : goal.returns-clause-stays
returns-clause-stays c =
    rw (← c.self.view_is, c.read_message.ensures.value, c.read_message.ensures.next)
    (none-taken (receiving_of c.self.inside) (length c.args.into.now) (next_message c.self.inside.buffer))
