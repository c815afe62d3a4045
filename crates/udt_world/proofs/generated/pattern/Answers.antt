use Rattle.std.proofs.Common.{◌≡◌, ◌+◌, suc, sym, refl, ◌∙◌, arith}
use Rattle.udt_world.proofs.CountedLemmas.{no_bytes, counted-push}
use Rattle.udt_world.proofs.generated.pattern.Goals as goal

pub loop-i-init : goal.loop-i-init
loop-i-init c = record { value = c.in_ok-bytes.ensures.items ∙ sym (no_bytes 0); length = c.in_ok-bytes.ensures.len }

-- one more byte comes last
pub loop-i-preserved : goal.loop-i-preserved
loop-i-preserved c =
    let next : c.loop-i.i + 1 ≡ suc c.loop-i.i = omega arith in
    let place : 0 + c.loop-i.i ≡ c.loop-i.i = omega arith in
    record {
      value = c.in_ok-push.ensures.items ∙ rw (c.loop-i.invariant.value, next, counted-push 0 c.loop-i.i, place) refl;
      length = c.in_ok-push.ensures.len ∙ rw c.loop-i.invariant.length refl;
    }
