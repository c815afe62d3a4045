use Rattle.std.proofs.Common.{◌+◌, sym, ap, subst, ◌∙◌}
use Rattle.udt_rcv_loss.specs.Absent.{AllBelow, AllFrom}
use Rattle.udt_rcv_loss.proofs.MissingLemmas.{AllBelow-without, AllFrom-without}
use Rattle.udt_rcv_loss.proofs.tests.Both.remove.Goals as goal

pub invariant_of-self-2 : goal.invariant_of-self-2
invariant_of-self-2 c =
    let b = c.self.inside in
    let i = c.self.invariant in
    let n = b.base + c.args.by in
    let e = c.remove-linked.ensures.next in (
      subst (λ l. AllBelow b.next l.missing) (sym e) (AllBelow-without b.next n n b.linked.missing i.0),
      subst (λ l. AllFrom b.base l.missing) (sym e) (AllFrom-without b.base n n b.linked.missing i.1),
      ap (λ l. l.window) e ∙ i.2,
      i.3,
      i.4,
      i.5,
    )
