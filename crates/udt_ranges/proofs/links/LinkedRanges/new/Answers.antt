use Rattle.std.proofs.Common.{arith, refl}
use Rattle.udt_ranges.specs.Ranges.{Rises}
use Rattle.udt_ranges.specs.Chains.{walk}
use Rattle.udt_ranges.proofs.StepLemmas.{seen_as}
use Rattle.udt_ranges.proofs.links.LinkedRanges.new.Goals as goal

pub invariant_of-result : goal.invariant_of-result
unfolding Rises walk
invariant_of-result g c =
    record { rises = tt; tail_is = λ some. absurd (omega arith); hint_is = λ some. absurd (omega arith) }

pub returns : goal.returns
unfolding walk
returns g c = seen_as _ _ _ _ (omega (arith, c.new-places.ensures.len, c.in_ok-resize.ensures.len)) refl
