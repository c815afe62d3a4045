use Rattle.std.proofs.Common.{◌≡◌, ◌-◌, ◌<◌, true}
use Rattle.udt_ranges.specs.Cursors.{begins_at}
use Rattle.udt_ranges.specs.Chains.{walk, place_at}
use Rattle.udt_ranges.proofs.links.LinkedRanges.seek.Given as goal

-- a range before the offset begins here, and its place leads to the next one
abbrev pub invariant-loop-next : goal.invariant-loop-next
invariant-loop-next g l = record {
  begins : begins_at l.at (walk l.self-inside.blank l.self-inside.places.items l.self-inside.count l.self-inside.head) ≡ true;
  below : l.at < l.offset;
  leads : l.next ≡ (place_at l.self-inside.blank l.self-inside.places.items l.at).next;
  later : l.at < l.next;
}

abbrev pub decreases-loop-next : goal.decreases-loop-next
decreases-loop-next g l = l.offset - l.next
