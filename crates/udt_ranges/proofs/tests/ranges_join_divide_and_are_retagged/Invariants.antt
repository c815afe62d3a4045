use Rattle.udt_ranges.specs.Cursors.{IsCursor}
use Rattle.udt_ranges.proofs.tests.ranges_join_divide_and_are_retagged.Given as goal

-- the cursor is a place in the list
abbrev pub invariant-loop-hue : goal.invariant-loop-hue
invariant-loop-hue g l = IsCursor l.cursor l.ranges.ranges
