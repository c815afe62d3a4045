use Rattle.std.proofs.Common.{◌≡◌, ◌+◌, ltb, length, filter, sym, ap, ◌∙◌, arith}
use Rattle.std.proofs.lemmas.Bool.{lt-ltb}
use Rattle.udt_ranges.specs.Ranges.{items_of}
use Rattle.udt_ranges.specs.Cursors.{before, following}
use Rattle.udt_ranges.proofs.PlaceLemmas.{Bounds, bounds_after, whole}
use Rattle.udt_ranges.proofs.ItemLemmas.{Rises-from, Rises-trimmed, IsFrom-trimmed, filter-trimmed, length-trimmed, filter_all}
use Rattle.udt_ranges.proofs.MaximalLemmas.{IsMaximal-trimmed}
use Rattle.udt_ranges.proofs.EditLemmas.{trimmed-same, length_within}
use Rattle.udt_ranges.proofs.links.LinkedRanges.clear.Goals as goal
use Rattle.udt_ranges.proofs.links.LinkedRanges.clear.Given.{Over}
use Rattle.udt_ranges.proofs.links.LinkedRanges.clear.Goals.{After-trim_next-count, Then-count-eq0}

-- what is after the place rises
back : (g : Over) (c : After-trim_next-count g) → Bounds (following c.args.cursor c.clear.self.ranges)
back g c = bounds_after c.clear.self.window c.args.cursor c.clear.self.ranges c.clear.invariant.cursor c.trim_next-count.ensures.was_within

-- where nothing was trimmed off, it stays
same : (g : Over) (c : Then-count-eq0 g) (b : Bounds (following c.args.cursor c.clear.self.ranges)) → following c.args.cursor c.trim_next-count.new.self.ranges ≡ following c.args.cursor c.clear.self.ranges
same g c b = c.trim_next-count.ensures.following ∙ trimmed-same c.args.to b.low b.high _ b.rises (sym c.trim_next-count.ensures.value ∙ c.if-count-eq0.true)

pub returns-then-count-eq0-clause-bounds : goal.returns-then-count-eq0-clause-bounds
returns-then-count-eq0-clause-bounds g c = λ low high h.
    let at = goal.at.returns-then-count-eq0-clause-bounds g c in
    rw (same g at.Then-count-eq0 (back g at.After-trim_next-count)) (c.clear.invariant.bounds low high h)

pub returns-then-count-eq0-clause-following : goal.returns-then-count-eq0-clause-following
returns-then-count-eq0-clause-following g c =
    let at = goal.at.returns-then-count-eq0-clause-following g c in
    let b = back g at.After-trim_next-count in
    rw (same g at.Then-count-eq0 b) (IsFrom-trimmed c.args.to b.low b.high _ b.rises (sym c.trim_next-count.ensures.value ∙ c.if-count-eq0.true))

pub returns-then-count-eq0-clause-items : goal.returns-then-count-eq0-clause-items
returns-then-count-eq0-clause-items g c =
    let at = goal.at.returns-then-count-eq0-clause-items g c in
    let b = back g at.After-trim_next-count in
    let from = IsFrom-trimmed c.args.to b.low b.high _ b.rises (sym c.trim_next-count.ensures.value ∙ c.if-count-eq0.true) in
    ap items_of (same g at.Then-count-eq0 b)
    ∙ sym (filter_all (λ m. ltb c.args.to m.offset) (c.args.to + 1) b.high _ (Rises-from (c.args.to + 1) b.low b.high _ from b.rises) (λ m low high. lt-ltb c.args.to m.offset (omega arith)))
    ∙ c.clear.invariant.items

pub returns-then-count-eq0-clause-maximal : goal.returns-then-count-eq0-clause-maximal
returns-then-count-eq0-clause-maximal g c = λ h.
    let at = goal.at.returns-then-count-eq0-clause-maximal g c in
    rw (same g at.Then-count-eq0 (back g at.After-trim_next-count)) (c.clear.invariant.maximal h)

pub returns-then-count-eq0-clause-value : goal.returns-then-count-eq0-clause-value
returns-then-count-eq0-clause-value g c =
    let at = goal.at.returns-then-count-eq0-clause-value g c in
    rw (same g at.Then-count-eq0 (back g at.After-trim_next-count)) c.clear.invariant.counted

pub overflow_add-removed : goal.overflow_add-removed
overflow_add-removed g c =
    let b = back g ((goal.at.overflow_add-removed g c).After-trim_next-count) in
    let i = c.clear.invariant in
    let e = c.trim_next-count.ensures in
    let old = c.args.self.now in
    omega (arith, i.counted, i.kept, e.room, e.value, length-trimmed c.args.to b.low b.high _ b.rises, length_within old.window (before c.args.cursor old.ranges) (following c.args.cursor old.ranges) (rw (whole c.args.cursor old.ranges c.requires.cursor) c.requires.within))

pub clear-smaller : goal.clear-smaller
clear-smaller g c =
    let b = back g ((goal.at.clear-smaller g c).After-trim_next-count) in
    let e = c.trim_next-count.ensures in
    omega (arith, e.value, length-trimmed c.args.to b.low b.high _ b.rises, ap (λ xs. length (items_of xs)) e.following)

pub clear-preserved : goal.clear-preserved
clear-preserved g c =
    let b = back g ((goal.at.clear-preserved g c).After-trim_next-count) in
    let i = c.clear.invariant in
    let e = c.trim_next-count.ensures in
    let back = following c.args.cursor c.clear.self.ranges in
    let to = c.args.to in
    record {
      kept = e.kept ∙ i.kept;
      cursor = e.cursor;
      front = e.before ∙ i.front;
      items = ap (λ xs. filter (λ m. ltb to m.offset) (items_of xs)) e.following ∙ filter-trimmed to b.low b.high back b.rises ∙ i.items;
      counted = omega (arith, i.counted, e.value, length-trimmed to b.low b.high back b.rises, ap (λ xs. length (items_of xs)) e.following);
      bounds = λ low high h. rw e.following (Rises-trimmed to low high back (i.bounds low high h));
      maximal = λ h. rw e.following (IsMaximal-trimmed g.T.Tag.same to back (i.maximal h));
    }
