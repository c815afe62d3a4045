use Rattle.std.proofs.Common.{subst}
use Rattle.udt_ranges.specs.Merging.{IsMaximal}
use Rattle.udt_ranges.proofs.PlaceLemmas.{whole}
use Rattle.udt_ranges.proofs.MaximalLemmas.{IsMaximal-gap}
use Rattle.udt_ranges.proofs.links.LinkedRanges.cut.Goals as goal

pub returns-clause-maximal : goal.returns-clause-maximal
returns-clause-maximal g c = λ h.
    let e = c.make_room-removed.ensures in
    let m = e.maximal h in
    subst (IsMaximal g.T.Tag.same) (whole c.make_room-removed.result.0 c.make_room-removed.new.self.ranges e.cursor)
    (IsMaximal-gap g.T.Tag.same c.args.from c.args.to 0 _ _ c.requires e.before e.following m.0 m.1)
