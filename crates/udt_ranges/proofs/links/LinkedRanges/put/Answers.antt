use Rattle.std.proofs.Common.{◌≡◌, ◌++◌}
use Rattle.udt_ranges.specs.Merging.{absorbed, unabsorbed, pushed}
use Rattle.udt_ranges.specs.Cursors.{before, following}
use Rattle.udt_ranges.proofs.PlaceLemmas.{whole}
use Rattle.udt_ranges.proofs.MaximalLemmas.{IsMaximal-absorbed, IsMaximal-pushed}
use Rattle.udt_ranges.proofs.EditLemmas.{absorbed-first, IsWithin-absorbed, IsWithin-pushed, KeepsBounds-put, items_of-put}
use Rattle.udt_ranges.proofs.links.LinkedRanges.put.Goals as goal
use Rattle.udt_ranges.proofs.links.LinkedRanges.put.Given.{Over}
use Rattle.udt_ranges.proofs.links.LinkedRanges.put.Goals.{After-settle}

pub settle-requires-clause-before : goal.settle-requires-clause-before
settle-requires-clause-before g c =
    let back = following c.args.cursor c.args.self.now.ranges in
    rw (c.absorb-range.ensures.before, c.absorb-range.ensures.value, absorbed-first g.T.Tag.same c.args.range back) c.requires.before

pub settle-requires-clause-room : goal.settle-requires-clause-room
settle-requires-clause-room g c =
    let e = c.absorb-range.ensures in
    rw (e.kept, e.before, e.value, e.following) (IsWithin-absorbed g.T.Tag.same c.args.self.now.window _ c.args.range _ c.requires.room)

-- the list that is made
is : (g : Over) (c : After-settle g) → pushed g.T.Tag.same (before c.args.cursor c.args.self.now.ranges) (absorbed g.T.Tag.same c.args.range (following c.args.cursor c.args.self.now.ranges)) ++ unabsorbed g.T.Tag.same c.args.range (following c.args.cursor c.args.self.now.ranges) ≡ c.settle.new.self.ranges
is g c =
    let a = c.absorb-range.ensures in
    let e = c.settle.ensures in
    let before_is = rw (a.before, a.value) at e.before in
    let following_is = rw a.following at e.following in
    rw (← before_is, ← following_is) (whole c.settle.result c.settle.new.self.ranges e.cursor)

pub returns-clause-within : goal.returns-clause-within
returns-clause-within g c =
    let s = c.args.self.now in
    rw (c.settle.ensures.kept, c.absorb-range.ensures.kept, ← is g ((goal.at.returns-clause-within g c).After-settle))
    (IsWithin-pushed g.T.Tag.same s.window _ _ _ (IsWithin-absorbed g.T.Tag.same s.window _ c.args.range _ c.requires.room))

pub returns-clause-bounds : goal.returns-clause-bounds
returns-clause-bounds g c = λ low high h.
    rw (← is g ((goal.at.returns-clause-bounds g c).After-settle)) (KeepsBounds-put g.T.Tag.same _ c.args.range _ low high h)

pub returns-clause-next : goal.returns-clause-next
returns-clause-next g c =
    rw (← is g ((goal.at.returns-clause-next g c).After-settle))
    (items_of-put g.T.Tag.same g.met.T.Tag.same_only c.args.self.now.window _ c.args.range _ c.requires.order c.requires.before c.requires.room)

pub returns-clause-maximal : goal.returns-clause-maximal
returns-clause-maximal g c = λ h.
    let k = IsMaximal-absorbed g.T.Tag.same g.met.T.Tag.same_only c.args.range _ h.1 in
    rw (← is g ((goal.at.returns-clause-maximal g c).After-settle)) (IsMaximal-pushed g.T.Tag.same g.met.T.Tag.same_only _ _ _ h.0 k.0 k.1)
