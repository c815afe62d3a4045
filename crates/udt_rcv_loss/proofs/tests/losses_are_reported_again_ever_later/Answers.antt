use Rattle.std.proofs.Common.{sym, subst, arith}
use Rattle.udt_model.specs.Losses.{with_missing}
use Rattle.udt_rcv_loss.specs.Absent.{AllBelow}
use Rattle.udt_rcv_loss.proofs.MissingLemmas.{AllBelow-with, AllBelow-higher}
use Rattle.udt_rcv_loss.proofs.tests.losses_are_reported_again_ever_later.Goals as goal

pub add-requires-clause-above : goal.add-requires-clause-above
unfolding AllBelow
add-requires-clause-above g c = rw c.in_ok-list.ensures tt

pub add-requires-2-clause-above : goal.add-requires-2-clause-above
unfolding AllBelow
add-requires-2-clause-above g c = rw c.in_ok-list-2.ensures tt

pub add-requires-3-clause-above : goal.add-requires-3-clause-above
unfolding AllBelow
add-requires-3-clause-above g c =
    let ms = c.in_ok-list-2.list.missing in
    let none : AllBelow 3 ms = rw c.in_ok-list-2.ensures tt in
    subst (λ l. AllBelow 8 l.missing) (sym c.add-2.ensures) (AllBelow-higher 6 8 (with_missing 3 5 0 ms) (omega arith) (AllBelow-with 3 5 0 ms (omega arith) none))

pub add-requires-4-clause-above : goal.add-requires-4-clause-above
unfolding AllBelow
add-requires-4-clause-above g c =
    let ms = c.in_ok-list-2.list.missing in
    let none : AllBelow 3 ms = rw c.in_ok-list-2.ensures tt in
    let some = subst (λ l. AllBelow 8 l.missing) (sym c.add-2.ensures) (AllBelow-higher 6 8 (with_missing 3 5 0 ms) (omega arith) (AllBelow-with 3 5 0 ms (omega arith) none)) in
    subst (λ l. AllBelow 10 l.missing) (sym c.add-3.ensures) (AllBelow-with 8 9 0 c.add-2.new.self.missing (omega arith) some)
