use Rattle.std.proofs.Common.{◌≡◌, ◌+◌, ◌≤◌, ◌++◌, length, sym, ap, ◌∙◌, arith, append_assoc, Some}
use Rattle.udt_model.specs.Losses.{offsets_between, ranges_of}
use Rattle.udt_ranges.specs.Cursors.{beyond}
use Rattle.udt_ranges.proofs.PlaceLemmas.{head_none}
use Rattle.udt_rcv_loss.proofs.RunLemmas.{due_in, due_in-due, run_ends, offsets_between-join, NextCut, next_cut, first_from, Gap-none, Gap-not, Gap-apart}
use Rattle.udt_rcv_loss.proofs.due.run_from.Goals as goal
use Rattle.udt_rcv_loss.proofs.due.run_from.Goals.{In-Some}
use Rattle.udt_rcv_loss.specs.Tags.{missing_in}

-- the range after the run, and the place after that
next : (c : In-Some) → NextCut (Some c.run.cursor) c.in-Some.next c.args.ranges.now.ranges
next c = next_cut c.args.ranges.now.window (Some c.run.cursor) c.args.ranges.now.ranges c.in-Some.next c.run.invariant.cut.cursor_is c.in-Some.ensures.within c.in-Some.ensures.value

-- it begins after the run
start : (c : In-Some) → c.run.last + 1 ≤ c.in-Some.next.first
start c =
    let n = next c in
    first_from (c.run.last + 1) (beyond c.run.cursor c.args.ranges.now.ranges) c.in-Some.next n.rest n.following_is c.run.invariant.cut.from

pub run-init : goal.run-init
run-init c =
    let rs = c.args.ranges.now.ranges in
    record {
      cut = c.requires.cut;
      order = c.requires.order;
      due = ap ranges_of (due_in-due c.args.now c.args.rtt c.args.range (beyond c.args.range.first rs) c.requires.due);
    }

pub next_range-requires : goal.next_range-requires
next_range-requires c = c.run.invariant.cut.cursor_is

pub returns-in-None-clause-cut : goal.returns-in-None-clause-cut
returns-in-None-clause-cut c = c.run.invariant.cut

-- nothing is left after the run
pub returns-in-None-clause-due : goal.returns-in-None-clause-due
returns-in-None-clause-due c =
    let rs = c.args.ranges.now.ranges in
    let i = c.run.invariant in
    let now = c.args.now in
    let rtt = c.args.rtt in
    let back = beyond c.run.cursor rs in
    let gap = Gap-none now rtt (c.run.last + 1) back (head_none back c.in-None.ensures.value) in
    i.due ∙ run_ends c.args.range.first c.run.last (due_in now rtt (missing_in back)) i.order gap

pub overflow_sub-next : goal.overflow_sub-next
overflow_sub-next c =
    let from = start ((goal.at.overflow_sub-next c).In-Some) in
    omega (arith, from)

-- the next range lies apart
pub returns-then-next-last-ne1-clause-due : goal.returns-then-next-last-ne1-clause-due
returns-then-next-last-ne1-clause-due c =
    let i = c.run.invariant in
    let now = c.args.now in
    let rtt = c.args.rtt in
    let back = beyond c.run.cursor c.args.ranges.now.ranges in
    let r = c.in-Some.next in
    let n = next ((goal.at.returns-then-next-last-ne1-clause-due c).In-Some) in
    let from = start ((goal.at.returns-then-next-last-ne1-clause-due c).In-Some) in
    let gap = Gap-apart now rtt (c.run.last + 1) n.high back r n.rest n.following_is (omega (arith, from, c.if-next-last-ne1.true)) n.order n.rises in
    i.due ∙ run_ends c.args.range.first c.run.last (due_in now rtt (missing_in back)) i.order gap

-- the next range is not due
pub returns-then-not-is_due-clause-due : goal.returns-then-not-is_due-clause-due
returns-then-not-is_due-clause-due c =
    let i = c.run.invariant in
    let now = c.args.now in
    let rtt = c.args.rtt in
    let back = beyond c.run.cursor c.args.ranges.now.ranges in
    let r = c.in-Some.next in
    let n = next ((goal.at.returns-then-not-is_due-clause-due c).In-Some) in
    let gap = Gap-not now rtt (c.run.last + 1) n.high back r n.rest n.following_is (sym c.is_due.ensures ∙ c.if-not-is_due.true) (omega (arith, n.order)) n.rises in
    i.due ∙ run_ends c.args.range.first c.run.last (due_in now rtt (missing_in back)) i.order gap

pub run-smaller : goal.run-smaller
run-smaller c =
    let n = next ((goal.at.run-smaller c).In-Some) in
    omega (arith, ap length n.following_is, ap length n.beyond_is)

-- the next range goes on with the run
pub run-preserved : goal.run-preserved
run-preserved c =
    let i = c.run.invariant in
    let now = c.args.now in
    let rtt = c.args.rtt in
    let r = c.in-Some.next in
    let n = next ((goal.at.run-preserved c).In-Some) in
    let from = start ((goal.at.run-preserved c).In-Some) in
    let next : c.run.last + 1 ≡ r.first = omega (arith, from) in
    record {
      cut = n.cut;
      order = omega (arith, i.order, n.order);
      due =
          i.due
          ∙ ap (λ xs. ranges_of (offsets_between c.args.range.first c.run.last ++ due_in now rtt (missing_in xs))) n.following_is
          ∙ ap (λ xs. ranges_of (offsets_between c.args.range.first c.run.last ++ xs)) (due_in-due now rtt r n.rest (sym c.is_due.ensures ∙ c.if-not-is_due.false))
          ∙ ap ranges_of (sym (append_assoc (offsets_between c.args.range.first c.run.last) (offsets_between r.first r.last) (due_in now rtt (missing_in n.rest))))
          ∙ ap (λ f. ranges_of ((offsets_between c.args.range.first c.run.last ++ offsets_between f r.last) ++ due_in now rtt (missing_in n.rest))) (sym next)
          ∙ ap (λ xs. ranges_of (xs ++ due_in now rtt (missing_in n.rest))) (offsets_between-join c.args.range.first c.run.last r.last (omega (arith, i.order)) (omega (arith, n.order)))
          ∙ ap (λ xs. ranges_of (offsets_between c.args.range.first r.last ++ due_in now rtt (missing_in xs))) (sym n.beyond_is);
    }
