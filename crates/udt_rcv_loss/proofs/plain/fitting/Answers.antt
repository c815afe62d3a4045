use Rattle.std.proofs.Common.{◌≡◌, ◌-◌, ◌∷◌, ◌++◌, [], sym, ap, ◌∙◌, arith, append_assoc, append-nil}
use Rattle.std.proofs.lemmas.List.{nil_from_length}
use Rattle.udt_model.specs.Losses.{fitting_ranges}
use Rattle.udt_rcv_loss.proofs.PlainLemmas.{fitting-fits, fitting-ends}
use Rattle.udt_rcv_loss.proofs.plain.fitting.Goals as goal
use Rattle.udt_rcv_loss.proofs.plain.fitting.Goals.{in-Some+then-left-cost, in_default}

-- one more range is taken
pub loop-run-preserved : goal.loop-run-preserved
loop-run-preserved c =
    let run = c.in-Some.run' in
    let rest = c.pop_front.new.self.items in
    let left = c.loop-run.left in
    let cost = c.words_of-cost.result in
    let taken = c.loop-run.taken.items in
    let first : c.loop-run.runs.items ≡ run ∷ rest = c.in-Some.ensures.items in
    let fits = fitting-fits left cost run rest c.words_of-cost.ensures (omega (arith, c.if-left-cost.false)) in
    ap (λ xs. xs ++ fitting_ranges (left - cost) rest) c.in_ok-push.ensures.items
    ∙ append_assoc taken (run ∷ []) (fitting_ranges (left - cost) rest)
    ∙ ap (λ xs. taken ++ xs) (sym (ap (fitting_ranges left) first ∙ fits))
    ∙ c.loop-run.invariant

-- no range is left, or the next one doesn't fit
pub returns : goal.returns
unfolding fitting_ranges
returns c =
    let taken = c.loop-run.taken.items in
    let left = c.loop-run.left in
    let runs = c.loop-run.runs.items in
    let ended : fitting_ranges left runs ≡ [] =
    elim c.match-pop_front.branch [
      | in-Some+then-left-cost w ↦
          ap (fitting_ranges left) w.in-Some.ensures.items
          ∙ fitting-ends left w.words_of-cost.result w.in-Some.run' c.pop_front.new.self.items w.words_of-cost.ensures w.if-left-cost.true
      | in_default w ↦
          ap (fitting_ranges left) (nil_from_length runs (omega (arith, c.loop-run.runs.ok.0, w.in_default.ensures.cases.0)))
    ] in
    sym (append-nil taken) ∙ ap (λ xs. taken ++ xs) (sym ended) ∙ c.loop-run.invariant
