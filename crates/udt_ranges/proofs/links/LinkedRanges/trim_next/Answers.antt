use Rattle.std.proofs.Common.{◌≡◌, ◌+◌, ◌++◌, ◌∷◌, drop, refl, sym, ap, ◌∙◌, arith}
use Rattle.udt_ranges.specs.declared.range.Range.{Range}
use Rattle.udt_ranges.specs.Cursors.{before, following}
use Rattle.udt_ranges.specs.Ranges.{trimmed, trimmed_off}
use Rattle.udt_ranges.proofs.PlaceLemmas.{NextIs, next_is, whole, bounds, head_none, IsWithin-without}
use Rattle.udt_ranges.proofs.RisingLemmas.{Rises-middle}
use Rattle.udt_ranges.proofs.ItemLemmas.{trimmed-before, trimmed-inside, trimmed-past}
use Rattle.udt_ranges.proofs.EditLemmas.{IsWithin-upper, span_within}
use Rattle.udt_ranges.proofs.links.LinkedRanges.trim_next.Goals as goal
use Rattle.udt_ranges.proofs.links.LinkedRanges.trim_next.Given.{Over}
use Rattle.udt_ranges.proofs.links.LinkedRanges.trim_next.Goals.{In-Some}

pub returns-in-None-clause-following : goal.returns-in-None-clause-following
unfolding trimmed
returns-in-None-clause-following g c = rw (head_none _ c.in-None.ensures.value) refl

pub returns-in-None-clause-value : goal.returns-in-None-clause-value
unfolding trimmed_off
returns-in-None-clause-value g c = rw (head_none _ c.in-None.ensures.value) refl

-- the range after the place, and the list around it
next : (g : Over) (c : In-Some g) → NextIs c.args.self.now.window c.args.cursor c.in-Some.range c.args.self.now.ranges
next g c = next_is c.args.self.now.window c.args.cursor c.in-Some.range c.args.self.now.ranges c.requires.cursor c.in-Some.ensures.within c.in-Some.ensures.value

-- the range begins after the offset
pub returns-then-to-range-clause-following : goal.returns-then-to-range-clause-following
returns-then-to-range-clause-following g c =
    let r = c.in-Some.range in
    let rest = drop 1 (following c.args.cursor c.args.self.now.ranges) in
    let n = next g ((goal.at.returns-then-to-range-clause-following g c).In-Some) in
    rw n.following_is (sym (trimmed-before c.args.to r rest c.if-to-range.true).0)

pub returns-then-to-range-clause-value : goal.returns-then-to-range-clause-value
returns-then-to-range-clause-value g c =
    let r = c.in-Some.range in
    let rest = drop 1 (following c.args.cursor c.args.self.now.ranges) in
    let n = next g ((goal.at.returns-then-to-range-clause-value g c).In-Some) in
    rw n.following_is (sym (trimmed-before c.args.to r rest c.if-to-range.true).1)

-- the range ends after the offset
pub link-requires-clause-room : goal.link-requires-clause-room
link-requires-clause-room g c =
    let s = c.args.self.now in
    let r = c.in-Some.range in
    let front = before c.args.cursor c.args.self.now.ranges in
    let rest = drop 1 (following c.args.cursor c.args.self.now.ranges) in
    let n = next g ((goal.at.link-requires-clause-room g c).In-Some) in
    rw (c.unlink.ensures.kept, c.unlink.ensures.before, c.unlink.ensures.following) (IsWithin-upper c.args.to s.window front r rest c.if-to-range.false c.if-to-range-2.true n.within)

pub returns-then-to-range-2-clause-within : goal.returns-then-to-range-2-clause-within
returns-then-to-range-2-clause-within g c =
    let s = c.args.self.now in
    let r = c.in-Some.range in
    let front = before c.args.cursor c.args.self.now.ranges in
    let rest = drop 1 (following c.args.cursor c.args.self.now.ranges) in
    let n = next g ((goal.at.returns-then-to-range-2-clause-within g c).In-Some) in
    let m = c.link.new.self in
    let q : Range g.row.T.Denot = record r { first = c.args.to + 1 } in
    let is_new : m.ranges ≡ front ++ q ∷ rest = sym (whole c.args.cursor m.ranges c.link.ensures.cursor) ∙ rw (c.link.ensures.before, c.link.ensures.following, c.unlink.ensures.before, c.unlink.ensures.following) refl in
    rw (c.link.ensures.kept, c.unlink.ensures.kept, is_new) (IsWithin-upper c.args.to s.window front r rest c.if-to-range.false c.if-to-range-2.true n.within)

pub returns-then-to-range-2-clause-following : goal.returns-then-to-range-2-clause-following
returns-then-to-range-2-clause-following g c =
    let r = c.in-Some.range in
    let rest = drop 1 (following c.args.cursor c.args.self.now.ranges) in
    let n = next g ((goal.at.returns-then-to-range-2-clause-following g c).In-Some) in
    let q : Range g.row.T.Denot = record r { first = c.args.to + 1 } in
    c.link.ensures.following ∙ ap (λ xs. q ∷ xs) c.unlink.ensures.following ∙ rw n.following_is (sym (trimmed-inside c.args.to r rest c.if-to-range.false c.if-to-range-2.true).0)

pub returns-then-to-range-2-clause-value : goal.returns-then-to-range-2-clause-value
returns-then-to-range-2-clause-value g c =
    let r = c.in-Some.range in
    let rest = drop 1 (following c.args.cursor c.args.self.now.ranges) in
    let n = next g ((goal.at.returns-then-to-range-2-clause-value g c).In-Some) in
    rw n.following_is (sym (trimmed-inside c.args.to r rest c.if-to-range.false c.if-to-range-2.true).1)

-- the range ends no later than the offset
pub overflow_sub-result-2 : goal.overflow_sub-result-2
overflow_sub-result-2 g c =
    let s = c.args.self.now in
    let r = c.in-Some.range in
    let front = before c.args.cursor c.args.self.now.ranges in
    let rest = drop 1 (following c.args.cursor c.args.self.now.ranges) in
    let n = next g ((goal.at.overflow_sub-result-2 g c).In-Some) in
    let b = bounds s.window (front ++ r ∷ rest) n.within in
    omega (arith, (Rises-middle b.low b.high front r rest b.rises).1)

pub overflow_add-result-2 : goal.overflow_add-result-2
overflow_add-result-2 g c =
    let s = c.args.self.now in
    let r = c.in-Some.range in
    let front = before c.args.cursor c.args.self.now.ranges in
    let rest = drop 1 (following c.args.cursor c.args.self.now.ranges) in
    let n = next g ((goal.at.overflow_add-result-2 g c).In-Some) in
    omega (arith, span_within s.window front r rest n.within, c.in-Some.ensures.room)

pub returns-clause-within : goal.returns-clause-within
returns-clause-within g c =
    let s = c.args.self.now in
    let r = c.in-Some.range in
    let front = before c.args.cursor c.args.self.now.ranges in
    let rest = drop 1 (following c.args.cursor c.args.self.now.ranges) in
    let n = next g ((goal.at.returns-clause-within g c).In-Some) in
    let m = c.unlink.new.self in
    let is_new : m.ranges ≡ front ++ rest = sym (whole c.args.cursor m.ranges c.unlink.ensures.cursor) ∙ rw (c.unlink.ensures.before, c.unlink.ensures.following) refl in
    rw (c.unlink.ensures.kept, is_new) (IsWithin-without s.window front r rest n.within)

pub returns-clause-following : goal.returns-clause-following
returns-clause-following g c =
    let r = c.in-Some.range in
    let rest = drop 1 (following c.args.cursor c.args.self.now.ranges) in
    let n = next g ((goal.at.returns-clause-following g c).In-Some) in
    c.unlink.ensures.following ∙ rw n.following_is (sym (trimmed-past c.args.to r rest c.if-to-range.false c.if-to-range-2.false).0)

pub returns-clause-value : goal.returns-clause-value
returns-clause-value g c =
    let s = c.args.self.now in
    let r = c.in-Some.range in
    let front = before c.args.cursor c.args.self.now.ranges in
    let rest = drop 1 (following c.args.cursor c.args.self.now.ranges) in
    let n = next g ((goal.at.returns-clause-value g c).In-Some) in
    let b = bounds s.window (front ++ r ∷ rest) n.within in
    let order = (Rises-middle b.low b.high front r rest b.rises).1 in
    rw n.following_is (omega (arith, (trimmed-past c.args.to r rest c.if-to-range.false c.if-to-range-2.false).1, order))
