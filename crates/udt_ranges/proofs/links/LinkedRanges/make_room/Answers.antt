use Rattle.std.proofs.Common.{◌≡◌, ◌++◌, sym, ap, ◌∙◌, arith, length-append}
use Rattle.udt_ranges.specs.Ranges.{items_of}
use Rattle.udt_ranges.specs.Cursors.{before, following}
use Rattle.udt_ranges.proofs.PlaceLemmas.{whole}
use Rattle.udt_ranges.proofs.ItemLemmas.{items_of-append}
use Rattle.udt_ranges.proofs.EditLemmas.{Opened, opened, Rises-swap}
use Rattle.udt_ranges.proofs.links.LinkedRanges.make_room.Goals as goal
use Rattle.udt_ranges.proofs.links.LinkedRanges.make_room.Given.{Over}
use Rattle.udt_ranges.proofs.links.LinkedRanges.make_room.Goals.{After-clear-removed}

-- the list once it was divided
was : (g : Over) (c : After-clear-removed g) → before c.seek-cursor.result c.divide.new.self.ranges ++ following c.seek-cursor.result c.divide.new.self.ranges ≡ c.divide.new.self.ranges
was g c = whole c.seek-cursor.result c.divide.new.self.ranges c.divide.ensures.cursor

-- and once it was cleared
is : (g : Over) (c : After-clear-removed g) → before c.seek-cursor.result c.divide.new.self.ranges ++ following c.seek-cursor.result c.clear-removed.new.self.ranges ≡ c.clear-removed.new.self.ranges
is g c =
    let n = c.clear-removed.new.self.ranges in
    ap (λ xs. xs ++ following c.seek-cursor.result n) (sym c.clear-removed.ensures.before) ∙ whole c.seek-cursor.result n c.clear-removed.ensures.cursor

-- it has the offsets that it had
items : (g : Over) (c : After-clear-removed g) → items_of c.divide.new.self.ranges ≡ items_of c.args.self.now.ranges
items g c = c.divide.ensures.items ∙ ap (λ l. items_of l.ranges) c.seek-cursor.ensures.kept

place : (g : Over) (c : After-clear-removed g) → Opened c.args.from c.args.to c.args.self.now.ranges (before c.seek-cursor.result c.divide.new.self.ranges) (following c.seek-cursor.result c.clear-removed.new.self.ranges)
place g c =
    opened c.args.from c.args.to c.divide.new.self.window c.args.self.now.ranges _ (following c.seek-cursor.result c.divide.new.self.ranges) _ c.requires (rw (was g c) c.divide.ensures.within) (ap items_of (was g c) ∙ items g c) c.divide.ensures.before c.divide.ensures.following c.clear-removed.ensures.items

pub returns-clause-bounds : goal.returns-clause-bounds
returns-clause-bounds g c = λ low high h.
    let here = (goal.at.returns-clause-bounds g c).After-clear-removed in
    rw (← is g here) (Rises-swap low high _ _ _ c.clear-removed.ensures.bounds (rw (was g here) (c.divide.ensures.bounds low high (rw c.seek-cursor.ensures.kept h))))

pub returns-clause-next : goal.returns-clause-next
returns-clause-next g c =
    let here = (goal.at.returns-clause-next g c).After-clear-removed in ap items_of (sym (is g here)) ∙ (place g here).next

pub returns-clause-low : goal.returns-clause-low
returns-clause-low g c = rw c.clear-removed.ensures.before (place g ((goal.at.returns-clause-low g c).After-clear-removed)).low

pub returns-clause-high : goal.returns-clause-high
returns-clause-high g c = (place g ((goal.at.returns-clause-high g c).After-clear-removed)).high

pub returns-clause-count : goal.returns-clause-count
returns-clause-count g c =
    let here = (goal.at.returns-clause-count g c).After-clear-removed in
    let front = before c.seek-cursor.result c.divide.new.self.ranges in
    let back = following c.seek-cursor.result c.divide.new.self.ranges in
    let new = following c.seek-cursor.result c.clear-removed.new.self.ranges in
    let was_items : items_of front ++ items_of back ≡ items_of c.args.self.now.ranges = sym (items_of-append front back) ∙ ap items_of (was g here) ∙ items g here in
    let new_items : items_of c.clear-removed.new.self.ranges ≡ items_of front ++ items_of new = ap items_of (sym (is g here)) ∙ items_of-append front new in
    rw (new_items, ← was_items) (omega (arith, length-append (items_of front) (items_of back), length-append (items_of front) (items_of new), c.clear-removed.ensures.value))

pub returns-clause-maximal : goal.returns-clause-maximal
returns-clause-maximal g c = λ h.
    let m = c.divide.ensures.maximal (rw c.seek-cursor.ensures.kept h) in
    rw c.clear-removed.ensures.before (m.0, c.clear-removed.ensures.maximal m.1)
