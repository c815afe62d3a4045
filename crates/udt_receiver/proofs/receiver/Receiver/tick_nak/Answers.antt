use Rattle.std.proofs.Common.{arith}
use Rattle.udt_rcv_loss.specs.Reports.{words_of, RangesRise}
use Rattle.udt_model.proofs.InOrder.{reported_in_order}
use Rattle.udt_receiver.proofs.receiver.Receiver.tick_nak.Goals as goal

-- before its time nothing is reported
pub returns-then-now-self-clause-fits : goal.returns-then-now-self-clause-fits
unfolding words_of
returns-then-now-self-clause-fits c = rw c.clear.ensures (omega arith)

pub returns-then-now-self-clause-rise : goal.returns-then-now-self-clause-rise
unfolding RangesRise
returns-then-now-self-clause-rise c = rw c.clear.ensures tt

-- a report changes no offset
pub invariant_of-self : goal.invariant_of-self
invariant_of-self c =
    let i = c.self.invariant in
    let r = c.self.inside in
    rw c.due.ensures.next
    (record {
      order = reported_in_order r.buffer r.top c.args.now c.due.new.into.ranges r.lost.missing i.order;
      top = i.top;
      window = i.window;
      few = i.few;
      payload = i.payload;
      number = i.number;
      fresh = i.fresh;
      ack_due = i.ack_due;
      nak_due = omega (arith, c.requires.moment, c.period.ensures.within);
    })
