use Rattle.std.proofs.Common.{arith}
use Rattle.udt_rcv_loss.proofs.MissingLemmas.{AllBelow-least, AllFrom-least, AllFrom-none, none_first}
use Rattle.udt_rcv_loss.proofs.tests.Both.first.Goals as goal

pub invariant_of-self : goal.invariant_of-self
invariant_of-self c =
    let b = c.self.inside in
    let i = c.self.invariant in
    (i.0, AllFrom-none b.next b.linked.missing (none_first b.linked.missing c.in-None.ensures.value), i.2, i.3, omega arith, i.5)

pub invariant_of-self-2 : goal.invariant_of-self-2
invariant_of-self-2 c =
    let b = c.self.inside in
    let i = c.self.invariant in
    (i.0, AllFrom-least c.in-Some.first b.linked.window b.linked.missing c.in-Some.ensures.value c.in-Some.ensures.within, i.2, i.3, omega (arith, AllBelow-least c.in-Some.first b.next b.linked.missing c.in-Some.ensures.value i.0), i.5)
