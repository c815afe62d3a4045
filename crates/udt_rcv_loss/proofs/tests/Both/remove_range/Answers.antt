use Rattle.std.proofs.Common.{◌+◌, sym, ap, subst, ◌∙◌}
use Rattle.udt_rcv_loss.specs.Absent.{AllBelow, AllFrom}
use Rattle.udt_rcv_loss.proofs.MissingLemmas.{AllBelow-without, AllFrom-without}
use Rattle.udt_rcv_loss.proofs.tests.Both.remove_range.Goals as goal

pub invariant_of-self-2 : goal.invariant_of-self-2
invariant_of-self-2 c =
    let b = c.self.inside in
    let i = c.self.invariant in
    let from = b.base + c.args.by in
    let e = c.remove_range-2.ensures in (
      subst (λ l. AllBelow b.next l.missing) (sym e) (AllBelow-without b.next from (from + c.args.more) b.linked.missing i.0),
      subst (λ l. AllFrom b.base l.missing) (sym e) (AllFrom-without b.base from (from + c.args.more) b.linked.missing i.1),
      ap (λ l. l.window) e ∙ i.2,
      i.3,
      i.4,
      i.5,
    )
