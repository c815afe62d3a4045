use Rattle.std.proofs.Common.{◌≡◌, ◌+◌, ltb, length, filter}
use Rattle.udt_ranges.specs.Ranges.{KeepsBounds, items_of}
use Rattle.udt_ranges.specs.Merging.{IsMaximal}
use Rattle.udt_ranges.specs.Cursors.{IsCursor, before, following}
use Rattle.udt_ranges.proofs.links.LinkedRanges.clear.Given as goal

-- what was taken out so far lay after the place, up to the offset
abbrev pub invariant-clear : goal.invariant-clear
invariant-clear g l = record {
  kept : l.self.window ≡ l.fn.self.window;
  cursor : IsCursor l.cursor l.self.ranges;
  front : before l.cursor l.self.ranges ≡ before l.cursor l.fn.self.ranges;
  items : filter (λ m. ltb l.to m.offset) (items_of (following l.cursor l.self.ranges)) ≡ filter (λ m. ltb l.to m.offset) (items_of (following l.cursor l.fn.self.ranges));
  counted : l.removed + length (items_of (following l.cursor l.self.ranges)) ≡ length (items_of (following l.cursor l.fn.self.ranges));
  bounds : KeepsBounds (following l.cursor l.fn.self.ranges) (following l.cursor l.self.ranges);
  maximal : IsMaximal g.T.Tag.same (following l.cursor l.fn.self.ranges) → IsMaximal g.T.Tag.same (following l.cursor l.self.ranges);
}

abbrev pub decreases-clear : goal.decreases-clear
decreases-clear g l = length (items_of (following l.cursor l.self.ranges))
