use Rattle.std.proofs.Common.{◌+◌, length, refl, arith, sym, ap, ◌∙◌}
use Rattle.udt_rcv_loss.specs.Tags.{missing_in}
use Rattle.udt_rcv_loss.proofs.ListedLemmas.{missing_in-without, length-missing_in}
use Rattle.udt_rcv_loss.proofs.MissingLemmas.{listed_is}
use Rattle.udt_rcv_loss.proofs.list.RcvLoss.remove.Goals as goal

pub returns-clause-value : goal.returns-clause-value
returns-clause-value c =
    let old = c.self.inside.ranges.ranges in
    let new = c.cut.new.self.ranges in
    let next = ap length (missing_in-without c.args.n c.args.n old new c.cut.ensures.next) in
    rw (← c.self.view_is) (listed_is c.args.n c.cut.result (missing_in old) (omega (arith, next, c.cut.ensures.count, length-missing_in old, length-missing_in new)))

pub returns-clause-next : goal.returns-clause-next
returns-clause-next c =
    rw (← c.self.view_is, c.cut.ensures.kept, missing_in-without c.args.n c.args.n c.self.inside.ranges.ranges c.cut.new.self.ranges c.cut.ensures.next) refl
