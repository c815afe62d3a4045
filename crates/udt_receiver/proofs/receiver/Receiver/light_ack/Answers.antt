use Rattle.udt_receiver.specs.Half.{receiving_of}
use Rattle.udt_receiver.proofs.FirstGap.{first_gap}
use Rattle.udt_receiver.proofs.receiver.Receiver.light_ack.Goals as goal

pub returns-clause-arrived : goal.returns-clause-arrived
returns-clause-arrived c =
    let r = c.self.inside in
    let gap = first_gap (receiving_of r) r.lost.window c.self.invariant.order c.least.ensures.within in
    rw (← c.self.view_is) (record { offset = c.least.result; carries = c.seq_of.ensures; first = rw c.least.ensures.value gap })
