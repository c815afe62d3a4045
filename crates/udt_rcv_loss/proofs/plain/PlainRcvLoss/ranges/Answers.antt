use Rattle.std.proofs.Common.{◌≡◌, ◌+◌, ◌-◌, length, drop, true, false, sym, ap, ◌∙◌, arith}
use Rattle.std.proofs.lemmas.List.{take_rest}
use Rattle.udt_model.specs.Losses.{missing_ranges}
use Rattle.udt_rcv_loss.specs.Plain.{goes_on}
use Rattle.udt_rcv_loss.proofs.PlainLemmas.{counted_more, counted_none}
use Rattle.udt_rcv_loss.proofs.plain.PlainRcvLoss.ranges.Goals as goal

pub loop-i-init : goal.loop-i-init
loop-i-init c =
    let xs = c.self.inside.missing.items in
    let long : c.len-i.result ≡ length xs = c.len-i.ensures ∙ c.self.inside.missing.ok.0 in
    record { within = omega arith; counted = rw long (sym (counted_none xs)); room = omega arith }

pub loop-i-preserved-then-not-goes_on : goal.loop-i-preserved-then-not-goes_on
loop-i-preserved-then-not-goes_on c =
    let xs = c.self.inside.missing.items in
    let i = c.loop-i.invariant in
    let e : c.loop-i.i - 1 + 1 ≡ c.loop-i.i = omega arith in
    let more = rw e at (counted_more (c.loop-i.i - 1) xs (omega (arith, i.within))) in
    let goes : goes_on (drop (c.loop-i.i - 1) xs) ≡ false = ap (λ ys. goes_on (drop (c.loop-i.i - 1) ys)) (sym c.deref.ensures.value) ∙ ap goes_on (sym (take_rest c.deref.result.now (c.loop-i.i - 1))) ∙ sym c.goes_on.ensures ∙ c.if-not-goes_on.true in
    let one : length (missing_ranges (drop (c.loop-i.i - 1) xs)) ≡ length (missing_ranges (drop c.loop-i.i xs)) + 1 = rw goes at more in
    record { within = omega (arith, i.within); counted = omega (arith, i.counted, one); room = omega (arith, i.room) }

pub loop-i-preserved : goal.loop-i-preserved
loop-i-preserved c =
    let xs = c.self.inside.missing.items in
    let i = c.loop-i.invariant in
    let e : c.loop-i.i - 1 + 1 ≡ c.loop-i.i = omega arith in
    let more = rw e at (counted_more (c.loop-i.i - 1) xs (omega (arith, i.within))) in
    let goes : goes_on (drop (c.loop-i.i - 1) xs) ≡ true = ap (λ ys. goes_on (drop (c.loop-i.i - 1) ys)) (sym c.deref.ensures.value) ∙ ap goes_on (sym (take_rest c.deref.result.now (c.loop-i.i - 1))) ∙ sym c.goes_on.ensures ∙ c.if-not-goes_on.false in
    let none : length (missing_ranges (drop (c.loop-i.i - 1) xs)) ≡ length (missing_ranges (drop c.loop-i.i xs)) + 0 = rw goes at more in
    record { within = omega (arith, i.within); counted = omega (arith, i.counted, none); room = omega (arith, i.room) }
