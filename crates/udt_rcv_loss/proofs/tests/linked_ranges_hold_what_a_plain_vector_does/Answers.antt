use Rattle.std.proofs.Common.{ap, arith}
use Rattle.udt_rcv_loss.specs.Absent.{AllBelow, AllFrom}
use Rattle.udt_rcv_loss.proofs.tests.linked_ranges_hold_what_a_plain_vector_does.Goals as goal

pub invariant_of-both : goal.invariant_of-both
unfolding AllBelow AllFrom
invariant_of-both g c =
    (rw c.in_ok-new.ensures tt, rw c.in_ok-new.ensures tt, ap (λ l. l.window) c.in_ok-new.ensures, ap (λ r. r.words) c.in_ok-new-2.ensures, omega arith, omega arith)
