use Rattle.std.proofs.Common.{◌≡◌, ◌++◌, ◌∷◌, sym, ap, subst, ◌∙◌, refl, arith, length-append, append_assoc}
use Rattle.udt_ranges.specs.Ranges.{Rises, IsWithin, items_of, items_of_range}
use Rattle.udt_ranges.specs.Cursors.{before, following}
use Rattle.udt_ranges.proofs.PlaceLemmas.{whole}
use Rattle.udt_ranges.proofs.ItemLemmas.{items_of-append, items_of-cons}
use Rattle.udt_ranges.proofs.EditLemmas.{Rises-insert, IsWithin-insert}
use Rattle.udt_ranges.proofs.links.LinkedRanges.insert.Goals as goal
use Rattle.udt_ranges.proofs.links.LinkedRanges.insert.Given.{Over}
use Rattle.udt_ranges.proofs.links.LinkedRanges.insert.Goals.{After-make_room-cursor, After-put}

-- the list around the place
around : (g : Over) (c : After-make_room-cursor g) → before c.make_room-cursor.result.0 c.make_room-cursor.new.self.ranges ++ following c.make_room-cursor.result.0 c.make_room-cursor.new.self.ranges ≡ c.make_room-cursor.new.self.ranges
around g c = whole c.make_room-cursor.result.0 c.make_room-cursor.new.self.ranges c.make_room-cursor.ensures.cursor

pub put-requires-clause-room : goal.put-requires-clause-room
put-requires-clause-room g c =
    let e = c.make_room-cursor.ensures in
    let is = around g ((goal.at.put-requires-clause-room g c).After-make_room-cursor) in
    let window = c.args.self.now.window in
    let near = subst (Rises _ _) (sym is) (e.bounds _ _ c.requires.near) in
    let within : IsWithin window _ = rw (is, ← e.kept) e.within in
    rw e.kept (IsWithin-insert window _ c.args.range _ c.requires.order c.requires.room e.before e.following near within)

-- the offsets below the range, its own, and those above it
items : (g : Over) (c : After-put g) → items_of c.put.new.self.ranges ≡ items_of (before c.make_room-cursor.result.0 c.make_room-cursor.new.self.ranges) ++ items_of_range c.args.range ++ items_of (following c.make_room-cursor.result.0 c.make_room-cursor.new.self.ranges)
items g c =
    let front = before c.make_room-cursor.result.0 c.make_room-cursor.new.self.ranges in
    let back = following c.make_room-cursor.result.0 c.make_room-cursor.new.self.ranges in
    c.put.ensures.next
    ∙ items_of-append front (c.args.range ∷ back)
    ∙ ap (λ xs. items_of front ++ xs) (items_of-cons c.args.range back)
    ∙ sym (append_assoc (items_of front) (items_of_range c.args.range) (items_of back))

pub returns-clause-next : goal.returns-clause-next
returns-clause-next g c = items g ((goal.at.returns-clause-next g c).After-put) ∙ rw (c.make_room-cursor.ensures.low, c.make_room-cursor.ensures.high) refl

pub returns-clause-count : goal.returns-clause-count
returns-clause-count g c =
    let front = items_of (before c.make_room-cursor.result.0 c.make_room-cursor.new.self.ranges) in
    let back = items_of (following c.make_room-cursor.result.0 c.make_room-cursor.new.self.ranges) in
    let row = items_of_range c.args.range in
    let was : items_of c.make_room-cursor.new.self.ranges ≡ front ++ back = ap items_of (sym (around g ((goal.at.returns-clause-count g c).After-make_room-cursor))) ∙ items_of-append _ _ in
    let count = rw was at c.make_room-cursor.ensures.count in
    rw (items g ((goal.at.returns-clause-count g c).After-put)) (omega (arith, count, length-append front back, length-append (front ++ row) back, length-append front row))

pub returns-clause-most : goal.returns-clause-most
returns-clause-most g c = omega (arith, c.make_room-cursor.ensures.count)

pub returns-clause-within : goal.returns-clause-within
returns-clause-within g c = λ low high from to h.
    let e = c.make_room-cursor.ensures in
    let rises = subst (Rises low high) (sym (around g ((goal.at.returns-clause-within g c).After-make_room-cursor))) (e.bounds low high h) in
    c.put.ensures.bounds low high (Rises-insert low high _ c.args.range _ from c.requires.order to e.before e.following rises)

pub returns-clause-maximal : goal.returns-clause-maximal
returns-clause-maximal g c = c.put.ensures.maximal (c.make_room-cursor.ensures.maximal c.requires.maximal)
