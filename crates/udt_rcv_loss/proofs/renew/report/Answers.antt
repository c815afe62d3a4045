use Rattle.std.proofs.Common.{◌≡◌, ◌++◌, ◌∷◌, [], length, map, drop, refl, sym, ap, subst, ◌∙◌, arith, append_assoc, append-nil}
use Rattle.udt_ranges.specs.declared.range.Range.{Range}
use Rattle.udt_ranges.specs.Merging.{IsMaximal, pushed}
use Rattle.udt_ranges.specs.Cursors.{before, following}
use Rattle.udt_ranges.proofs.PlaceLemmas.{NextIs, next_is, whole, head_none}
use Rattle.udt_ranges.proofs.MaximalLemmas.{IsMaximal-pushed}
use Rattle.udt_rcv_loss.specs.declared.last_report.LastReport.{LastReport}
use Rattle.udt_rcv_loss.specs.Tags.{same_report, missing_in, missing_in_range, reported_to}
use Rattle.udt_rcv_loss.specs.SameReports.{same_report_only}
use Rattle.udt_rcv_loss.proofs.ListedLemmas.{missing_in-cons, missing_in-pushed}
use Rattle.udt_rcv_loss.proofs.renew.report.Goals as goal
use Rattle.udt_rcv_loss.proofs.renew.report.Goals.{In-Some, In-None}

pub report-init : goal.report-init
unfolding missing_in IsMaximal
report-init c = record { kept = refl; cursor = tt; within = c.requires; missing = refl; maximal = tt }

-- the range after the place, and the list around it
next : (c : In-Some) → NextIs c.report.ranges.window c.report.cursor c.in-Some.range c.report.ranges.ranges
next c = next_is c.report.ranges.window c.report.cursor c.in-Some.range c.report.ranges.ranges c.report.invariant.cursor c.report.invariant.within c.in-Some.ensures.value

pub report-smaller : goal.report-smaller
report-smaller c =
    let n = next ((goal.at.report-smaller c).In-Some) in
    omega (arith, ap length n.following_is, ap length c.retag_next-cursor.ensures.following)

pub report-preserved : goal.report-preserved
report-preserved c =
    let n = next ((goal.at.report-preserved c).In-Some) in
    let i = c.report.invariant in
    let e = c.retag_next-cursor.ensures in
    let r = c.in-Some.range in
    let stamp = reported_to c.args.last c.args.now c.args.rtt in
    let front = before c.report.cursor c.report.ranges.ranges in
    let rest = drop 1 (following c.report.cursor c.report.ranges.ranges) in
    let before_is : before c.retag_next-cursor.result c.retag_next-cursor.new.self.ranges ≡ pushed same_report front (stamp r) = e.before ∙ ap (λ tag. pushed same_report front (record r { tag = tag })) c.renewed-tag.ensures in
    record {
      kept = e.kept ∙ i.kept;
      cursor = e.cursor;
      within = e.within;
      missing =
          rw (before_is, e.following, missing_in-pushed c.report.ranges.window front r (stamp r) rest refl refl n.within)
          (append_assoc (missing_in front) (missing_in_range (stamp r)) (missing_in (map stamp rest)))
          ∙ ap (λ ms. missing_in front ++ ms) (sym (missing_in-cons (stamp r) (map stamp rest)))
          ∙ ap (λ rs. missing_in front ++ missing_in (map stamp rs)) (sym n.following_is)
          ∙ i.missing;
      maximal = rw before_is (subst (IsMaximal same_report) (append-nil (pushed same_report front (stamp r))) (IsMaximal-pushed same_report same_report_only front (stamp r) [] i.maximal tt (unfold IsMaximal in tt)));
    }

-- all were gone over
all : (c : In-None) → before c.report.cursor c.report.ranges.ranges ≡ c.report.ranges.ranges
all c =
    let rs = c.report.ranges.ranges in
    let none = head_none _ c.in-None.ensures.value in
    sym (append-nil (before c.report.cursor rs)) ∙ ap (λ xs. before c.report.cursor rs ++ xs) (sym none) ∙ whole c.report.cursor rs c.report.invariant.cursor

pub returns-in-None-clause-next : goal.returns-in-None-clause-next
unfolding missing_in
returns-in-None-clause-next c =
    let front = before c.report.cursor c.report.ranges.ranges in
    let stamp = reported_to c.args.last c.args.now c.args.rtt in
    let none = head_none _ c.in-None.ensures.value in
    ap missing_in (sym (all ((goal.at.returns-in-None-clause-next c).In-None))) ∙ sym (append-nil (missing_in front)) ∙ ap (λ xs. missing_in front ++ missing_in (map stamp xs)) (sym none) ∙ c.report.invariant.missing

pub returns-in-None-clause-maximal : goal.returns-in-None-clause-maximal
returns-in-None-clause-maximal c = subst (IsMaximal same_report) (all ((goal.at.returns-in-None-clause-maximal c).In-None)) c.report.invariant.maximal
