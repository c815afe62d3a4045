use Rattle.std.proofs.Common.{◌∙◌, ℕ, List, ap, subst}
use Rattle.udt_model.specs.Timing.{in_a_second}
use Rattle.udt_timing.specs.Windows.{IsNinthSmallest}
use Rattle.udt_timing.proofs.Medians.{ninth_unique}
use Rattle.udt_timing.proofs.arrival_times.Samples.capacity.Goals as goal

-- what was sorted out is the ninth smallest, and no other number is
pub returns-clause-ninth : goal.returns-clause-ninth
returns-clause-ninth c = λ full middle ninth.
    let found = c.ninth_smallest.result in
    let Ninth : List ℕ → Type 0 = λ samples. IsNinthSmallest samples found in
    let here = subst Ninth c.in-Some.ensures.some.0 c.ninth_smallest.ensures.ninth in
    c.in_a_second.ensures ∙ ap (in_a_second 1) (c.from.ensures ∙ ninth_unique c.args.self.now found middle here ninth)
