use Rattle.std.proofs.Common.{◌≡◌, ◌+◌, ◌-◌, ◌∷◌, length, drop, sym, ap, ◌∙◌, arith}
use Rattle.std.proofs.lemmas.List.{drop_more}
use Rattle.udt_rcv_loss.proofs.PlainLemmas.{due-more, due-none}
use Rattle.udt_rcv_loss.proofs.plain.PlainRcvLoss.runs.Goals as goal

-- nothing is found yet
pub loop-i-init : goal.loop-i-init
loop-i-init c =
    let long : c.len-i.result ≡ length c.self.inside.missing.items = c.len-i.ensures ∙ c.self.inside.missing.ok.0 in
    record { within = omega arith; found = c.new-runs.ensures.items ∙ sym (due-none c.args.now c.args.rtt c.len-i.result c.self.inside.missing.items long) }

-- one more packet is looked at
pub loop-i-preserved : goal.loop-i-preserved
loop-i-preserved c =
    let ms = c.self.inside.missing.items in
    let i = c.loop-i.invariant in
    let e : c.loop-i.i - 1 + 1 ≡ c.loop-i.i = omega arith in
    let m = c.index.result.now in
    let rest = drop c.loop-i.i ms in
    let more = rw e at (drop_more ms (c.loop-i.i - 1) m (omega (arith, i.within))) ∙ ap (λ x. x ∷ rest) (sym c.index.ensures) in
    let due = rw (← i.found) at (due-more c.args.now c.args.rtt m (drop (c.loop-i.i - 1) ms) rest more) in
    record { within = omega (arith, i.within); found = c.in_ok-put_due.ensures ∙ sym due }
