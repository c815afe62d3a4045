use Rattle.std.proofs.Common.{arith}
use Rattle.udt_receiver.specs.Half.{receiving_of}
use Rattle.udt_receiver.proofs.FirstGap.{first_gap}
use Rattle.udt_receiver.proofs.receiver.Receiver.ack_offset.Goals as goal

pub returns-clause-arrived : goal.returns-clause-arrived
returns-clause-arrived c =
    rw (← c.self.view_is, c.least.ensures.value)
    (first_gap (receiving_of c.self.inside) c.self.inside.lost.window c.self.invariant.order c.least.ensures.within)

-- the top is within the limit
pub returns-clause-limit : goal.returns-clause-limit
returns-clause-limit c =
    let gap = first_gap (receiving_of c.self.inside) c.self.inside.lost.window c.self.invariant.order c.least.ensures.within in
    omega (arith, gap.to, c.least.ensures.value, c.self.invariant.top)
