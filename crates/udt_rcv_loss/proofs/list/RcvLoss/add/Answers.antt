use Rattle.std.proofs.Common.{◌∙◌, refl}
use Rattle.udt_ranges.specs.declared.range.Range.{Range}
use Rattle.udt_rcv_loss.specs.declared.last_report.LastReport.{LastReport}
use Rattle.udt_rcv_loss.proofs.ListedLemmas.{missing_in-with}
use Rattle.udt_rcv_loss.proofs.MissingLemmas.{near_from, with_is}
use Rattle.udt_rcv_loss.proofs.list.RcvLoss.add.Goals as goal
use Rattle.udt_rcv_loss.specs.Tags.{missing_in}

pub insert-requires-clause-room : goal.insert-requires-clause-room
insert-requires-clause-room c =
    let l = c.self.inside in
    let below = rw (← c.self.view_is) at c.requires.above in
    let room = rw (← c.self.view_is) at c.requires.room in
    (near_from c.args.from c.args.to l.ranges.window l.ranges.ranges c.self.invariant.within below room).0

pub insert-requires-clause-near : goal.insert-requires-clause-near
insert-requires-clause-near c =
    let l = c.self.inside in
    let below = rw (← c.self.view_is) at c.requires.above in
    let room = rw (← c.self.view_is) at c.requires.room in
    (near_from c.args.from c.args.to l.ranges.window l.ranges.ranges c.self.invariant.within below room).1

pub returns : goal.returns
returns c =
    let l = c.self.inside in
    let below = rw (← c.self.view_is) at c.requires.above in
    let x : Range LastReport = record { first = c.args.from; last = c.args.to; tag = record { reported = c.args.now; wait = 2 } } in
    let next = missing_in-with x l.ranges.ranges c.insert.new.self.ranges c.insert.ensures.next ∙ with_is c.args.from c.args.to c.args.now (missing_in l.ranges.ranges) c.requires.order below in
    rw (← c.self.view_is, c.insert.ensures.kept, next) refl
