use Rattle.std.proofs.Common.{◌+◌, ◌-◌, arith}
use Rattle.udt_ranges.proofs.RisingLemmas.{Rises-lower, Rises-higher}
use Rattle.udt_ranges.proofs.tests.Eight.put.Goals as goal

-- all offsets lie within eight of any of them
pub insert-requires-clause-near : goal.insert-requires-clause-near
insert-requires-clause-near c =
    let i = c.self.invariant in
    let ranges = c.self.inside.ranges.ranges in
    let window = c.self.inside.ranges.window in
    Rises-lower 10 (c.args.last + 1 - window) (c.args.first + window) ranges (omega (arith, i.0)) (Rises-higher 10 18 (c.args.first + window) ranges (omega (arith, i.0)) i.2)
