use Rattle.std.proofs.Common.{◌∷◌, length, sym, ap, ◌∙◌, arith}
use Rattle.udt_model.specs.Losses.{ranges_of, due_ranges}
use Rattle.udt_ranges.specs.Cursors.{following}
use Rattle.udt_ranges.proofs.PlaceLemmas.{head_none}
use Rattle.udt_rcv_loss.proofs.RunLemmas.{due_in-not, NextCut, next_cut, first_from, rest_from, due_none}
use Rattle.udt_rcv_loss.proofs.due.next_run.Goals as goal
use Rattle.udt_rcv_loss.proofs.due.next_run.Goals.{In-Some}
use Rattle.udt_rcv_loss.specs.Tags.{missing_in}

-- the range after the place, and the place after that
next : (c : In-Some) → NextCut c.skip.cursor c.in-Some.range c.args.ranges.now.ranges
next c = next_cut c.args.ranges.now.window c.skip.cursor c.args.ranges.now.ranges c.in-Some.range c.skip.invariant.cursor c.in-Some.ensures.within c.in-Some.ensures.value

pub returns-in-None-clause-none : goal.returns-in-None-clause-none
returns-in-None-clause-none c =
    let i = c.skip.invariant in
    i.due ∙ due_none c.args.now c.args.rtt (following c.skip.cursor c.args.ranges.now.ranges) (head_none _ c.in-None.ensures.value)

pub run_from-requires-clause-cursor : goal.run_from-requires-clause-cursor
run_from-requires-clause-cursor c =
    let n = next ((goal.at.run_from-requires-clause-cursor c).In-Some) in
    n.begins

pub run_from-requires-clause-cut : goal.run_from-requires-clause-cut
run_from-requires-clause-cut c =
    let n = next ((goal.at.run_from-requires-clause-cut c).In-Some) in
    n.cut

pub run_from-requires-clause-order : goal.run_from-requires-clause-order
run_from-requires-clause-order c =
    let n = next ((goal.at.run_from-requires-clause-order c).In-Some) in
    n.order

-- the range that is due begins the run
pub returns-then-is_due-clause-some : goal.returns-then-is_due-clause-some
returns-then-is_due-clause-some c =
    let rs = c.args.ranges.now.ranges in
    let i = c.skip.invariant in
    let r = c.in-Some.range in
    let n = next ((goal.at.returns-then-is_due-clause-some c).In-Some) in
    let e = c.run_from.ensures in
    let now_is = ap (λ xs. due_ranges c.args.now c.args.rtt (missing_in xs)) n.following_is ∙ ap (λ xs. due_ranges c.args.now c.args.rtt (missing_in (r ∷ xs))) (sym n.beyond_is) in
    record {
      cut = e.cut;
      order = e.order;
      later = λ k h. rw e.first (first_from k (following c.skip.cursor rs) r n.rest n.following_is (i.later k h));
      due = i.due ∙ now_is ∙ e.due;
    }

pub skip-smaller : goal.skip-smaller
skip-smaller c =
    let n = next ((goal.at.skip-smaller c).In-Some) in
    omega (arith, ap length n.following_is, ap length n.beyond_is)

-- a range that is not due is passed
pub skip-preserved : goal.skip-preserved
skip-preserved c =
    let rs = c.args.ranges.now.ranges in
    let i = c.skip.invariant in
    let r = c.in-Some.range in
    let n = next ((goal.at.skip-preserved c).In-Some) in
    record {
      cursor = n.begins;
      due =
          i.due
          ∙ ap (λ xs. due_ranges c.args.now c.args.rtt (missing_in xs)) n.following_is
          ∙ ap ranges_of (due_in-not c.args.now c.args.rtt r n.rest (sym c.is_due.ensures ∙ c.if-is_due.false))
          ∙ ap (λ xs. due_ranges c.args.now c.args.rtt (missing_in xs)) (sym n.beyond_is);
      later = λ k h. rw n.beyond_is (rest_from k (following c.skip.cursor rs) r n.rest n.following_is (i.later k h));
    }
