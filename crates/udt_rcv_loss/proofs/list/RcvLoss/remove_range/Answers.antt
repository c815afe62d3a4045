use Rattle.std.proofs.Common.{refl}
use Rattle.udt_rcv_loss.proofs.ListedLemmas.{missing_in-without}
use Rattle.udt_rcv_loss.proofs.MissingLemmas.{without_none}
use Rattle.udt_rcv_loss.proofs.list.RcvLoss.remove_range.Goals as goal

pub returns-else-from-to : goal.returns-else-from-to
returns-else-from-to c = rw (without_none c.args.from c.args.to c.args.self.now.missing c.if-from-to.false) refl

pub returns-then-from-to : goal.returns-then-from-to
returns-then-from-to c =
    rw (← c.self.view_is, c.cut.ensures.kept, missing_in-without c.args.from c.args.to c.self.inside.ranges.ranges c.cut.new.self.ranges c.cut.ensures.next) refl
