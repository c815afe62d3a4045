use Rattle.std.proofs.Common.{◌+◌, ◌++◌, ◌∷◌, [], map, sym, ap, ◌∙◌, arith, append_assoc, refl}
use Rattle.std.specs.List.{range_with_len}
use Rattle.udt_rcv_loss.proofs.PlainLemmas.{listed, row_push, row_last}
use Rattle.udt_rcv_loss.proofs.plain.PlainRcvLoss.add.Goals as goal

pub loop-k-preserved : goal.loop-k-preserved
loop-k-preserved c =
    let i = c.loop-k.invariant in
    let ms = c.self.inside.missing.items in
    let now = c.args.now in
    record {
      items =
          c.in_ok-push.ensures.items
          ∙ ap (λ xs. xs ++ listed now (c.args.from + c.loop-k.k) ∷ []) i.items
          ∙ append_assoc ms (map (listed now) (range_with_len c.args.from c.loop-k.k)) (listed now (c.args.from + c.loop-k.k) ∷ [])
          ∙ ap (λ xs. ms ++ xs) (sym (row_push now c.args.from c.loop-k.k));
      window = i.window;
    }

pub returns : goal.returns
returns c =
    let i = c.loop-k.invariant in
    let ms = c.self.inside.missing.items in
    let now = c.args.now in
    let all = c.in_ok-push-2.ensures.items ∙ ap (λ xs. xs ++ listed now c.args.to ∷ []) i.items ∙ row_last now c.args.from c.args.to c.loop-k.k ms (omega arith) (omega arith) in
    rw (← c.self.view_is, all, i.window) refl
