use Rattle.std.proofs.Common.{◌≡◌, ◌+◌, ◌-◌, ◌++◌, ◌∷◌, [], length-append, sym, ap, subst, ◌∙◌, arith, append_assoc, append-nil, IfSome}
use Rattle.udt_model.specs.Losses.{due_ranges, fitting_ranges}
use Rattle.udt_ranges.specs.Ranges.{IsFrom}
use Rattle.udt_ranges.specs.Cursors.{following, beyond}
use Rattle.udt_rcv_loss.specs.Runs.{ends_of_run}
use Rattle.udt_rcv_loss.proofs.ReportLemmas.{taken_is, fitting-none, fitting-some, fitting-over, AllBy-push}
use Rattle.udt_rcv_loss.proofs.due.choose.Goals as goal
use Rattle.udt_rcv_loss.specs.Tags.{missing_in}

-- nothing more is due
pub returns-in-None-clause-report : goal.returns-in-None-clause-report
returns-in-None-clause-report c =
    let i = c.choose.invariant in
    sym (i.report ∙ ap (λ xs. c.choose.into.ranges ++ fitting_ranges c.choose.left xs) c.in-None.ensures.none ∙ ap (λ xs. c.choose.into.ranges ++ xs) (fitting-none c.choose.left) ∙ append-nil c.choose.into.ranges)

pub returns-in-None-clause-some : goal.returns-in-None-clause-some
returns-in-None-clause-some c =
    let i = c.choose.invariant in
    taken_is c.args.now c.args.rtt c.choose.taken c.choose.into.ranges c.choose.cursor c.args.ranges.now.ranges i.cursor i.ends i.from i.by i.due

-- the next run does not fit
pub returns-then-left-cost-clause-report : goal.returns-then-left-cost-clause-report
returns-then-left-cost-clause-report c =
    let i = c.choose.invariant in
    let run = c.in-Some.run' in
    let e = c.in-Some.ensures.some in
    let over = fitting-over c.choose.left (ends_of_run run) (due_ranges c.args.now c.args.rtt (missing_in (beyond run.cursor c.args.ranges.now.ranges))) (omega (arith, c.words_of-cost.ensures.value)) in
    sym (i.report ∙ ap (λ xs. c.choose.into.ranges ++ fitting_ranges c.choose.left xs) e.due ∙ ap (λ xs. c.choose.into.ranges ++ xs) over ∙ append-nil c.choose.into.ranges)

pub returns-then-left-cost-clause-some : goal.returns-then-left-cost-clause-some
returns-then-left-cost-clause-some c =
    let i = c.choose.invariant in
    taken_is c.args.now c.args.rtt c.choose.taken c.choose.into.ranges c.choose.cursor c.args.ranges.now.ranges i.cursor i.ends i.from i.by i.due

-- the run is taken
pub choose-preserved : goal.choose-preserved
choose-preserved c =
    let i = c.choose.invariant in
    let run = c.in-Some.run' in
    let e = c.in-Some.ensures.some in
    let rs = c.args.ranges.now.ranges in
    let rest = due_ranges c.args.now c.args.rtt (missing_in (beyond run.cursor rs)) in
    let into = c.choose.into.ranges in
    let pushed : c.push.new.self.ranges ≡ into ++ ends_of_run run ∷ [] = ap (λ r. r.ranges) c.push.ensures in
    let some = fitting-some c.choose.left (ends_of_run run) rest (omega (arith, c.words_of-cost.ensures.value)) in
    record {
      kept = ap (λ r. r.words) c.push.ensures ∙ i.kept;
      cursor = e.cut.cursor_is;
      due = i.due ∙ ap (λ xs. into ++ xs) e.due ∙ sym (append_assoc into (ends_of_run run ∷ []) rest) ∙ ap (λ xs. xs ++ rest) (sym pushed);
      report =
          i.report
          ∙ ap (λ xs. into ++ fitting_ranges c.choose.left xs) e.due
          ∙ ap (λ xs. into ++ xs) some
          ∙ ap (λ n. into ++ (ends_of_run run ∷ fitting_ranges (c.choose.left - n) rest)) (sym c.words_of-cost.ensures.value)
          ∙ sym (append_assoc into (ends_of_run run ∷ []) (fitting_ranges (c.choose.left - c.words_of-cost.result) rest))
          ∙ ap (λ xs. xs ++ fitting_ranges (c.choose.left - c.words_of-cost.result) rest) (sym pushed);
      room = rw pushed (omega (arith, i.room, length-append into (ends_of_run run ∷ []), c.words_of-cost.ensures.some));
      none = tt;
      ends = e.cut.ends;
      from = e.cut.from;
      by = rw pushed (AllBy-push c.choose.taken run.last into (ends_of_run run) i.none i.by (λ last is. let ahead : IsFrom (last + 1) (following c.choose.cursor rs) = subst (λ o. IfSome o (λ k. IsFrom (k + 1) (following c.choose.cursor rs))) is i.from in omega (arith, e.later (last + 1) ahead, e.order)) (omega arith));
    }
