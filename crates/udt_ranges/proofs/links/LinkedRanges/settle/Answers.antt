use Rattle.std.proofs.Common.{◌++◌, ◌∷◌, [], sym, subst, ◌∙◌, arith, Some, None}
use Rattle.udt_ranges.specs.declared.range.Range.{Range}
use Rattle.udt_ranges.specs.Cursors.{ahead, through, beyond}
use Rattle.udt_ranges.specs.Ranges.{IsWithin}
use Rattle.udt_ranges.proofs.MaximalLemmas.{pushed-joined, pushed-apart}
use Rattle.udt_ranges.proofs.EditLemmas.{IsPut, is_put, replaced, EndsBelow-last, IsWithin-joined}
use Rattle.udt_ranges.proofs.links.LinkedRanges.settle.Goals as goal
use Rattle.udt_ranges.proofs.links.LinkedRanges.settle.Given.{Over}
use Rattle.udt_ranges.proofs.links.LinkedRanges.settle.Goals.{After-link, After-link-2}

-- the range is the first of all
first : (g : Over) (c : After-link g) → IsPut c.args.range [] c.args.self.now.ranges c.link.new.self.ranges
first g c =
    is_put c.args.self.now.window None c.args.range [] c.args.self.now.ranges c.link.new.self.ranges (rw c.in-None.is at c.requires.room) c.link.ensures.cursor c.link.ensures.before c.link.ensures.following

pub returns-in-None-clause-cursor : goal.returns-in-None-clause-cursor
returns-in-None-clause-cursor g c = (first g ((goal.at.returns-in-None-clause-cursor g c).After-link)).begins

pub returns-in-None-clause-before : goal.returns-in-None-clause-before
returns-in-None-clause-before g c = rw c.in-None.is (first g ((goal.at.returns-in-None-clause-before g c).After-link)).through_is

pub returns-in-None-clause-following : goal.returns-in-None-clause-following
returns-in-None-clause-following g c = rw c.in-None.is (first g ((goal.at.returns-in-None-clause-following g c).After-link)).beyond_is

pub joins-requires : goal.joins-requires
joins-requires g c =
    omega (arith, EndsBelow-last c.args.range.first (ahead c.in-Some.at c.args.self.now.ranges) c.read-last.result (rw (c.in-Some.is, c.read-last.ensures.value) at c.requires.before))

pub replace-requires-clause-room : goal.replace-requires-clause-room
replace-requires-clause-room g c =
    let s = c.args.self.now in
    let r = c.read-last.result in
    subst (λ f. IsWithin s.window (ahead f s.ranges ++ record r { last = c.args.range.last } ∷ beyond f s.ranges)) (sym c.read-last.ensures.first)
    (IsWithin-joined s.window _ r c.args.range _ (rw (c.in-Some.is, c.read-last.ensures.value) at c.requires.room))

-- the last range goes on with it
pub returns-then-joins-clause-before : goal.returns-then-joins-clause-before
returns-then-joins-clause-before g c =
    let s = c.args.self.now in
    let r = c.read-last.result in
    let new : Range g.row.T.Denot = record r { last = c.args.range.last } in
    let around = replaced c.in-Some.at new s.ranges c.replace.new.self.ranges c.read-last.ensures.first c.replace.ensures.before c.replace.ensures.following in
    rw (c.in-Some.is, around.0, c.read-last.ensures.value) (sym (pushed-joined g.T.Tag.same _ r c.args.range (sym c.joins.ensures ∙ c.if-joins.true)))

-- it lies apart
apart : (g : Over) (c : After-link-2 g) → IsPut c.args.range (through c.in-Some.at c.args.self.now.ranges) (beyond c.in-Some.at c.args.self.now.ranges) c.link-2.new.self.ranges
apart g c =
    is_put c.args.self.now.window (Some c.in-Some.at) c.args.range _ _ c.link-2.new.self.ranges (rw c.in-Some.is at c.requires.room) c.link-2.ensures.cursor c.link-2.ensures.before c.link-2.ensures.following

pub returns-clause-cursor : goal.returns-clause-cursor
returns-clause-cursor g c = (apart g ((goal.at.returns-clause-cursor g c).After-link-2)).begins

pub returns-clause-before : goal.returns-clause-before
returns-clause-before g c =
    let p = apart g ((goal.at.returns-clause-before g c).After-link-2) in
    rw (c.in-Some.is, p.through_is, c.read-last.ensures.value) (sym (pushed-apart g.T.Tag.same _ c.read-last.result c.args.range (sym c.joins.ensures ∙ c.if-joins.false)))

pub returns-clause-following : goal.returns-clause-following
returns-clause-following g c = rw c.in-Some.is (apart g ((goal.at.returns-clause-following g c).After-link-2)).beyond_is
