use Rattle.std.proofs.Common.{sym, ap, subst, ◌∙◌}
use Rattle.udt_rcv_loss.specs.Absent.{AllBelow, AllFrom}
use Rattle.udt_rcv_loss.proofs.MissingLemmas.{AllBelow-report, AllFrom-report}
use Rattle.udt_rcv_loss.proofs.tests.Both.due.Goals as goal

pub invariant_of-self-2 : goal.invariant_of-self-2
invariant_of-self-2 c =
    let b = c.self.inside in
    let i = c.self.invariant in
    let e = c.due-2.ensures.next in
    let taken = c.due-2.new.into.ranges in (
      subst (λ l. AllBelow b.next l.missing) (sym e) (AllBelow-report b.next c.args.now taken b.linked.missing i.0),
      subst (λ l. AllFrom b.base l.missing) (sym e) (AllFrom-report b.base c.args.now taken b.linked.missing i.1),
      ap (λ l. l.window) e ∙ i.2,
      c.due-2.ensures.kept ∙ i.3,
      i.4,
      i.5,
    )
