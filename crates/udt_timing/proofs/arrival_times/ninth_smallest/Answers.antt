use Rattle.std.proofs.Common.{arith}
use Rattle.std.proofs.lemmas.List.Sorted.{IsNonDecreasingBy-from_sort}
use Rattle.udt_timing.proofs.Medians.{ninth_of_sorted, median_of_sorted}
use Rattle.udt_timing.proofs.arrival_times.ninth_smallest.Goals as goal

pub returns-clause-value : goal.returns-clause-value
returns-clause-value c =
    median_of_sorted c.args.samples c.sort_unstable.new.self (omega arith) c.sort_unstable.ensures.permutation (IsNonDecreasingBy-from_sort (λ x. x) c.sort_unstable.new.self c.sort_unstable.ensures.sorted)

pub returns-clause-ninth : goal.returns-clause-ninth
returns-clause-ninth c =
    ninth_of_sorted c.args.samples c.sort_unstable.new.self (omega arith) c.sort_unstable.ensures.permutation (IsNonDecreasingBy-from_sort (λ x. x) c.sort_unstable.new.self c.sort_unstable.ensures.sorted)
