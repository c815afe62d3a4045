use Rattle.std.proofs.Common.{arith}
use Rattle.udt_receiver.specs.Half.{receiving_of}
use Rattle.udt_receiver.proofs.FirstGap.{first_gap}
use Rattle.udt_receiver.proofs.receiver.Receiver.tick_ack.Goals as goal

-- the ACK offset lies from the base to the top
pub free-room-requires-clause-from : goal.free-room-requires-clause-from
free-room-requires-clause-from c =
    let r = c.self.inside in
    let gap = first_gap (receiving_of r) r.lost.window c.self.invariant.order c.least-offset.ensures.within in
    omega (arith, gap.from, c.least-offset.ensures.value)

pub free-room-requires-clause-to : goal.free-room-requires-clause-to
free-room-requires-clause-to c =
    let r = c.self.inside in
    let gap = first_gap (receiving_of r) r.lost.window c.self.invariant.order c.least-offset.ensures.within in
    omega (arith, gap.to, c.least-offset.ensures.value, c.self.invariant.order.room)

pub returns-clause-arrived : goal.returns-clause-arrived
returns-clause-arrived c =
    let r = c.self.inside in
    let gap = first_gap (receiving_of r) r.lost.window c.self.invariant.order c.least-offset.ensures.within in
    rw (← c.self.view_is) (record { offset = c.least-offset.result; carries = c.seq_of.ensures; first = rw c.least-offset.ensures.value gap })
