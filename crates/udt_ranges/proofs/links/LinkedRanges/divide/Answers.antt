use Rattle.std.proofs.Common.{◌-◌, ◌++◌, ◌∷◌, [], sym, subst, ◌∙◌, arith, append_assoc, ap}
use Rattle.udt_ranges.specs.declared.range.Range.{Range}
use Rattle.udt_ranges.specs.Cursors.{ahead, beyond}
use Rattle.udt_ranges.specs.Ranges.{IsWithin, IsFrom, EndsBelow, items_of}
use Rattle.udt_ranges.specs.Merging.{IsMaximal}
use Rattle.udt_ranges.proofs.MaximalLemmas.{IsMaximal-front, IsMaximal-back}
use Rattle.udt_ranges.proofs.EditLemmas.{Dividing, dividing, Divided, divided, replaced, EndsBelow-push, IsWithin-lower, IsWithin-parts, Rises-parts, items_of-parts, IsMaximal-parts}
use Rattle.udt_ranges.proofs.links.LinkedRanges.divide.Goals as goal
use Rattle.udt_ranges.proofs.links.LinkedRanges.divide.Given.{Over}
use Rattle.udt_ranges.proofs.links.LinkedRanges.divide.Goals.{After-read-range, After-link}

pub returns-in-None-clause-before : goal.returns-in-None-clause-before
unfolding EndsBelow
returns-in-None-clause-before g c = rw c.in-None.is tt

pub returns-in-None-clause-maximal : goal.returns-in-None-clause-maximal
unfolding IsMaximal
returns-in-None-clause-maximal g c = rw c.in-None.is (λ h. (tt, h))

-- the range that the offset lies in or after
read : (g : Over) (c : After-read-range g) → Dividing c.args.self.now.window c.args.from c.in-Some.at c.read-range.result c.args.self.now.ranges
read g c =
    dividing c.args.self.now.window c.args.from c.in-Some.at c.read-range.result c.args.self.now.ranges c.read-range.ensures.first (rw c.in-Some.is at c.requires.cursor) c.read-range.ensures.value (rw c.in-Some.is at c.requires.before) c.requires.within

-- the range ends before the offset
pub returns-then-range-from-clause-before : goal.returns-then-range-from-clause-before
returns-then-range-from-clause-before g c =
    let d = read g ((goal.at.returns-then-range-from-clause-before g c).After-read-range) in
    rw (c.in-Some.is, d.through_is) (EndsBelow-push c.args.from _ c.read-range.result d.ends c.if-range-from.true)

pub returns-then-range-from-clause-maximal : goal.returns-then-range-from-clause-maximal
returns-then-range-from-clause-maximal g c = λ h.
    let d = read g ((goal.at.returns-then-range-from-clause-maximal g c).After-read-range) in
    let front = ahead c.in-Some.at c.args.self.now.ranges ++ c.read-range.result ∷ [] in
    let back = beyond c.in-Some.at c.args.self.now.ranges in
    let parts = subst (IsMaximal g.T.Tag.same) (sym (append_assoc (ahead c.in-Some.at c.args.self.now.ranges) (c.read-range.result ∷ []) back ∙ d.is)) h in
    rw (c.in-Some.is, d.through_is) (IsMaximal-front g.T.Tag.same front back parts, IsMaximal-back g.T.Tag.same front back parts)

pub overflow_sub-from : goal.overflow_sub-from
overflow_sub-from g c = let d = read g ((goal.at.overflow_sub-from g c).After-read-range) in omega (arith, d.below)

pub replace-requires-clause-room : goal.replace-requires-clause-room
replace-requires-clause-room g c =
    let s = c.args.self.now in
    let d = read g ((goal.at.replace-requires-clause-room g c).After-read-range) in
    subst (λ f. IsWithin s.window (ahead f s.ranges ++ record c.read-range.result { last = c.args.from - 1 } ∷ beyond f s.ranges)) (sym c.read-range.ensures.first)
    (IsWithin-lower c.args.from _ c.read-range.result _ d.below c.if-range-from.false s.window d.within)

pub link-requires-clause-room : goal.link-requires-clause-room
link-requires-clause-room g c =
    let s = c.args.self.now in
    let r = c.read-range.result in
    let d = read g ((goal.at.link-requires-clause-room g c).After-read-range) in
    let front = ahead c.in-Some.at s.ranges in
    let p : Range g.row.T.Denot = record r { last = c.args.from - 1 } in
    let half = replaced c.in-Some.at p s.ranges c.replace.new.self.ranges c.read-range.ensures.first c.replace.ensures.before c.replace.ensures.following in
    rw (c.replace.ensures.kept, half.0, half.1, append_assoc front (p ∷ []) (record r { first = c.args.from } ∷ beyond c.in-Some.at s.ranges))
    (IsWithin-parts c.args.from front r _ d.below c.if-range-from.false s.window d.within)

-- it goes on to it, and is divided
parts : (g : Over) (c : After-link g) → Divided c.args.from c.in-Some.at c.read-range.result c.args.self.now.ranges c.link.new.self.ranges
parts g c =
    divided c.args.from c.in-Some.at c.read-range.result c.args.self.now.ranges c.replace.new.self.ranges c.link.new.self.ranges c.read-range.ensures.first c.replace.ensures.before c.replace.ensures.following c.link.ensures.cursor c.link.ensures.before c.link.ensures.following

pub returns-clause-within : goal.returns-clause-within
returns-clause-within g c =
    let d = read g ((goal.at.returns-clause-within g c).After-read-range) in
    let p = parts g ((goal.at.returns-clause-within g c).After-link) in
    rw (c.link.ensures.kept, c.replace.ensures.kept, p.is) (IsWithin-parts c.args.from _ c.read-range.result _ d.below c.if-range-from.false c.args.self.now.window d.within)

pub returns-clause-bounds : goal.returns-clause-bounds
returns-clause-bounds g c = λ low high h.
    let d = read g ((goal.at.returns-clause-bounds g c).After-read-range) in
    let p = parts g ((goal.at.returns-clause-bounds g c).After-link) in
    rw p.is (Rises-parts c.args.from _ c.read-range.result _ d.below c.if-range-from.false low high (rw d.is h))

pub returns-clause-before : goal.returns-clause-before
returns-clause-before g c =
    let d = read g ((goal.at.returns-clause-before g c).After-read-range) in
    let p = parts g ((goal.at.returns-clause-before g c).After-link) in
    rw (c.in-Some.is, p.before_is) (EndsBelow-push c.args.from _ (record c.read-range.result { last = c.args.from - 1 }) d.ends (omega (arith, d.below)))

pub returns-clause-following : goal.returns-clause-following
unfolding IsFrom
returns-clause-following g c =
    let p = parts g ((goal.at.returns-clause-following g c).After-link) in
    let was = rw c.in-Some.is at c.requires.following in
    rw (c.in-Some.is, p.following_is) (omega arith, was)

pub returns-clause-items : goal.returns-clause-items
returns-clause-items g c =
    let d = read g ((goal.at.returns-clause-items g c).After-read-range) in
    let p = parts g ((goal.at.returns-clause-items g c).After-link) in
    rw p.is (items_of-parts c.args.from _ c.read-range.result _ d.below c.if-range-from.false ∙ ap items_of d.is)

pub returns-clause-maximal : goal.returns-clause-maximal
returns-clause-maximal g c = λ h.
    let d = read g ((goal.at.returns-clause-maximal g c).After-read-range) in
    let p = parts g ((goal.at.returns-clause-maximal g c).After-link) in
    rw (c.in-Some.is, p.before_is, p.following_is) (IsMaximal-parts g.T.Tag.same c.args.from _ c.read-range.result _ (rw d.is h))
