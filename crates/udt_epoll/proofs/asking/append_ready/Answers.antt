use Rattle.std.proofs.Common.{arith, true, not, is_ok, ◌≡◌, [], ◌∷◌, ◌++◌, ap, ◌∙◌, length-append}
use Rattle.std.proofs.lemmas.List.{take-append-le}
use Rattle.udt_epoll.proofs.ReadyLemmas.{step_yes, step_no}
use Rattle.udt_epoll.proofs.asking.append_ready.Goals as goal
use Rattle.udt_epoll.proofs.asking.append_ready.Goals.{else-watched-ne0-via-then-watched-ne0+else-is_err, else-watched-ne0-via-else-watched-ne0}

-- one member more was looked at, and appended where it is ready
pub loop-id-preserved : goal.loop-id-preserved
loop-id-preserved g c =
    let all = rw c.in-Some.ensures.steps at c.loop-id.invariant.0 in
    let stand = rw c.in-Some.ensures.steps at c.loop-id.invariant.1 in
    elim c.else-watched-ne0.branch [
      | else-watched-ne0-via-then-watched-ne0+else-is_err w ↦
          let good : is_ok w.push.result ≡ true = w.is_err.ensures.negation ∙ ap not w.if-is_err.false in
          let pushed : c.else-watched-ne0.into.items ≡ c.loop-id.into.items ++ (c.in-Some.id.now, c.in-Some.watched.now.answer) ∷ [] = rw w.into-is (rw good at w.push.ensures.items) in (
            rw pushed (step_yes g.M.Looks.answer _ _ _ _ stand.0 w.if-watched-ne0.true all),
            stand.1,
            rw pushed (take-append-le _ _ _ c.loop-id.invariant.3 ∙ c.loop-id.invariant.2),
            rw pushed (omega (arith, length-append c.loop-id.into.items ((c.in-Some.id.now, c.in-Some.watched.now.answer) ∷ []))),
          )
      | else-watched-ne0-via-else-watched-ne0 w ↦
          rw w.into-is (step_no g.M.Looks.answer _ _ _ _ stand.0 w.if-watched-ne0.false all, stand.1, c.loop-id.invariant.2, c.loop-id.invariant.3)
    ]
