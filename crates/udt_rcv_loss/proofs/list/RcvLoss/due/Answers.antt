use Rattle.std.proofs.Common.{◌≡◌, ◌≤◌, refl, arith}
use Rattle.udt_model.specs.Losses.{report}
use Rattle.udt_ranges.proofs.PlaceLemmas.{Bounds, bounds}
use Rattle.udt_rcv_loss.specs.Reports.{words_of, RangesRise, AreListed}
use Rattle.udt_rcv_loss.specs.Tags.{missing_in}
use Rattle.udt_rcv_loss.proofs.ListedLemmas.{Rising-missing}
use Rattle.udt_rcv_loss.proofs.ReportLemmas.{reported_is, reported_none}
use Rattle.udt_rcv_loss.proofs.DueLemmas.{report_fits, report_rises, report_listed, RangesRise-lower}
use Rattle.udt_rcv_loss.proofs.list.RcvLoss.due.Goals as goal
use Rattle.udt_rcv_loss.proofs.list.RcvLoss.due.Goals.{After-choose}

-- what was chosen is the report
chosen : (c : After-choose) → c.choose.new.into.ranges ≡ report c.args.now c.args.rtt c.args.words (missing_in c.self.inside.ranges.ranges)
unfolding report
chosen c = c.choose.ensures.report

-- how it lies
place : (c : After-choose) → Bounds c.self.inside.ranges.ranges
place c = bounds c.self.inside.ranges.window c.self.inside.ranges.ranges c.self.invariant.within

fits : (c : After-choose) → words_of c.choose.new.into.ranges ≤ c.args.words
fits c =
    let b = place c in
    let rs = c.self.inside.ranges.ranges in
    rw (chosen c) (report_fits c.args.now c.args.rtt c.args.words b.low b.high (missing_in rs) (Rising-missing b.low b.high rs b.rises))

rise : (c : After-choose) → RangesRise 0 c.choose.new.into.ranges
rise c =
    let b = place c in
    let rs = c.self.inside.ranges.ranges in
    rw (chosen c) (RangesRise-lower b.low 0 _ (omega arith) (report_rises c.args.now c.args.rtt c.args.words b.low b.high (missing_in rs) (Rising-missing b.low b.high rs b.rises)))

listed : (c : After-choose) → AreListed c.choose.new.into.ranges c.args.self.now.missing
listed c =
    let b = place c in
    let rs = c.self.inside.ranges.ranges in
    rw (chosen c, ← c.self.view_is) (report_listed c.args.now c.args.rtt c.args.words b.low b.high (missing_in rs) (Rising-missing b.low b.high rs b.rises))

pub returns-in-None-clause-value : goal.returns-in-None-clause-value
returns-in-None-clause-value c = rw (← c.self.view_is) (chosen ((goal.at.returns-in-None-clause-value c).After-choose))

pub returns-in-None-clause-next : goal.returns-in-None-clause-next
returns-in-None-clause-next c = rw (c.in-None.ensures.none, reported_none c.args.now c.args.self.now.missing) refl

pub returns-in-None-clause-fits : goal.returns-in-None-clause-fits
returns-in-None-clause-fits c = fits ((goal.at.returns-in-None-clause-fits c).After-choose)

pub returns-in-None-clause-rise : goal.returns-in-None-clause-rise
returns-in-None-clause-rise c = rise ((goal.at.returns-in-None-clause-rise c).After-choose)

pub returns-in-None-clause-listed : goal.returns-in-None-clause-listed
returns-in-None-clause-listed c = listed ((goal.at.returns-in-None-clause-listed c).After-choose)

pub returns-clause-value : goal.returns-clause-value
returns-clause-value c = rw (← c.self.view_is) (chosen ((goal.at.returns-clause-value c).After-choose))

pub returns-clause-next : goal.returns-clause-next
returns-clause-next c =
    let l = c.self.inside in
    let b = place ((goal.at.returns-clause-next c).After-choose) in
    rw (← c.self.view_is, c.report.ensures.kept, c.report.ensures.next, reported_is c.args.now c.args.rtt c.in-Some.last b.low b.high c.choose.new.into.ranges l.ranges.ranges b.rises c.in-Some.ensures.some) refl

pub returns-clause-fits : goal.returns-clause-fits
returns-clause-fits c = fits ((goal.at.returns-clause-fits c).After-choose)

pub returns-clause-rise : goal.returns-clause-rise
returns-clause-rise c = rise ((goal.at.returns-clause-rise c).After-choose)

pub returns-clause-listed : goal.returns-clause-listed
returns-clause-listed c = listed ((goal.at.returns-clause-listed c).After-choose)
