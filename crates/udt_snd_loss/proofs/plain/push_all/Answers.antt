use Rattle.std.proofs.Common.{◌+◌, ◌++◌, ◌∷◌, [], sym, ap, ◌∙◌, arith, append_assoc}
use Rattle.std.specs.List.{range_with_len}
use Rattle.udt_snd_loss.proofs.PlainLemmas.{row_push, row_last}
use Rattle.udt_snd_loss.proofs.plain.push_all.Goals as goal

pub loop-k-preserved : goal.loop-k-preserved
loop-k-preserved c =
    c.in_ok-push.ensures.items
    ∙ ap (λ xs. xs ++ (c.args.from + c.loop-k.k) ∷ []) c.loop-k.invariant
    ∙ append_assoc c.args.lost.now.items (range_with_len c.args.from c.loop-k.k) ((c.args.from + c.loop-k.k) ∷ [])
    ∙ ap (λ xs. c.args.lost.now.items ++ xs) (sym (row_push c.args.from c.loop-k.k))

pub returns : goal.returns
returns c =
    c.in_ok-push-2.ensures.items
    ∙ ap (λ xs. xs ++ c.args.to ∷ []) c.loop-k.invariant
    ∙ append_assoc c.args.lost.now.items (range_with_len c.args.from c.loop-k.k) (c.args.to ∷ [])
    ∙ ap (λ xs. c.args.lost.now.items ++ xs) (sym (row_last c.args.from c.args.to c.loop-k.k (omega arith) (omega arith)))
