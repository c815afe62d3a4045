use Rattle.std.proofs.Common.{◌+◌, sym, ap, subst, ◌∙◌, arith}
use Rattle.udt_rcv_loss.specs.Absent.{AllBelow, AllFrom}
use Rattle.udt_rcv_loss.proofs.MissingLemmas.{AllBelow-higher, AllBelow-with, AllFrom-with, first_or-from}
use Rattle.udt_rcv_loss.proofs.tests.Both.add.Goals as goal

pub add-requires-then-to-clause-above : goal.add-requires-then-to-clause-above
add-requires-then-to-clause-above c =
    let b = c.self.inside in
    AllBelow-higher b.next (b.next + c.args.gap) b.linked.missing (omega arith) c.self.invariant.0

pub add-requires-then-to-clause-room : goal.add-requires-then-to-clause-room
add-requires-then-to-clause-room c =
    let b = c.self.inside in
    let i = c.self.invariant in
    omega (arith, first_or-from b.base (b.next + c.args.gap) b.linked.missing (omega (arith, i.4)) i.1, i.2)

pub invariant_of-self-then-to : goal.invariant_of-self-then-to
invariant_of-self-then-to c =
    let b = c.self.inside in
    let i = c.self.invariant in
    let from = b.next + c.args.gap in
    let to = from + c.args.more in
    let e = c.add-then-to.ensures in (
      subst (λ l. AllBelow (to + 1) l.missing) (sym e) (AllBelow-with from to c.args.now b.linked.missing (omega arith) (AllBelow-higher b.next from b.linked.missing (omega arith) i.0)),
      subst (λ l. AllFrom b.base l.missing) (sym e) (AllFrom-with b.base from to c.args.now b.linked.missing (omega (arith, i.4)) i.1),
      ap (λ l. l.window) e ∙ i.2,
      i.3,
      omega (arith, i.4),
      omega arith,
    )
