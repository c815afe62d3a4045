use Rattle.std.proofs.Common.{◌≡◌, ◌+◌, true, false, sym, refl, ap, ◌∙◌, add-zero, arith}
use Rattle.udt_outside.specs.Calls.{is_failing, failures_of}
use Rattle.udt_outside.proofs.CallsLemmas.{failures_next}
use Rattle.udt_outside.proofs.memory.calls.Calls.count.Goals as goal

-- a call that is to fail is counted as the definition counts it
pub invariant_of-self : goal.invariant_of-self
invariant_of-self c =
    let failing = c.self.inside.failing.items in
    let made = c.self.inside.made in
    let kept = c.self.invariant in
    let listed : is_failing failing (made + 1) ≡ true =
    ap (λ xs. is_failing xs (made + 1)) (sym c.deref.ensures.value) ∙ sym c.is_listed-fails.ensures ∙ c.if-fails.true in
    (rw (failures_next failing made, listed, kept.0) refl, omega (arith, kept.1))

-- and so is one that is not
pub invariant_of-self-else-fails : goal.invariant_of-self-else-fails
invariant_of-self-else-fails c =
    let failing = c.self.inside.failing.items in
    let made = c.self.inside.made in
    let kept = c.self.invariant in
    let unlisted : is_failing failing (made + 1) ≡ false =
    ap (λ xs. is_failing xs (made + 1)) (sym c.deref.ensures.value) ∙ sym c.is_listed-fails.ensures ∙ c.if-fails.false in
    (rw (failures_next failing made, unlisted, add-zero (failures_of failing made)) kept.0, omega (arith, kept.1))
