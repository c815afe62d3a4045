use Rattle.std.proofs.Common.{◌∷◌, Some}
use Rattle.udt_ranges.specs.Cursors.{beyond}
use Rattle.udt_ranges.proofs.PlaceLemmas.{Kept, kept}
use Rattle.udt_ranges.proofs.links.LinkedRanges.link.Goals as goal
use Rattle.udt_ranges.proofs.links.LinkedRanges.link.Given.{Over}
use Rattle.udt_ranges.proofs.links.LinkedRanges.link.Goals.{In-Some}

-- the place keeps what is before it
place : (g : Over) (c : In-Some g) → Kept (Some c.in-Some.at) c.args.self.now.ranges (c.args.range ∷ beyond c.in-Some.at c.args.self.now.ranges)
place g c = kept c.args.self.now.window (Some c.in-Some.at) c.args.self.now.ranges _ (rw c.in-Some.is at c.requires.cursor) (rw c.in-Some.is at c.requires.room)

pub returns-in-Some-clause-cursor : goal.returns-in-Some-clause-cursor
returns-in-Some-clause-cursor g c = rw (c.in-Some.is, c.link_after.ensures) (place g ((goal.at.returns-in-Some-clause-cursor g c).In-Some)).cursor_is

pub returns-in-Some-clause-before : goal.returns-in-Some-clause-before
returns-in-Some-clause-before g c = rw (c.in-Some.is, c.link_after.ensures) (place g ((goal.at.returns-in-Some-clause-before g c).In-Some)).before_is

pub returns-in-Some-clause-following : goal.returns-in-Some-clause-following
returns-in-Some-clause-following g c = rw (c.in-Some.is, c.link_after.ensures) (place g ((goal.at.returns-in-Some-clause-following g c).In-Some)).following_is
