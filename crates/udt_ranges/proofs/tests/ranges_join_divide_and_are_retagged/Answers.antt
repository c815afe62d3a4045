use Rattle.std.proofs.Common.{ap}
use Rattle.udt_ranges.specs.Ranges.{Rises}
use Rattle.udt_ranges.specs.Merging.{IsMaximal}
use Rattle.udt_ranges.proofs.tests.ranges_join_divide_and_are_retagged.Goals as goal

-- no ranges lie anywhere
pub invariant_of-eight : goal.invariant_of-eight
unfolding IsMaximal Rises
invariant_of-eight g c = (ap (λ l. l.window) c.in_ok-new.ensures, rw c.in_ok-new.ensures tt, rw c.in_ok-new.ensures tt)
