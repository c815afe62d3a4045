use Rattle.std.proofs.Common.{drop, Some}
use Rattle.udt_ranges.specs.Cursors.{through, beyond}
use Rattle.udt_ranges.proofs.PlaceLemmas.{Kept, kept, whole, IsWithin-drop}
use Rattle.udt_ranges.proofs.links.LinkedRanges.unlink.Goals as goal
use Rattle.udt_ranges.proofs.links.LinkedRanges.unlink.Given.{Over}
use Rattle.udt_ranges.proofs.links.LinkedRanges.unlink.Goals.{In-Some}

-- the place keeps what is before it
place : (g : Over) (c : In-Some g) → Kept (Some c.in-Some.at) c.args.self.now.ranges (drop 1 (beyond c.in-Some.at c.args.self.now.ranges))
place g c =
    let s = c.args.self.now in
    let at = c.in-Some.at in
    let begins = rw c.in-Some.is at c.requires.cursor in
    kept s.window (Some at) s.ranges _ begins (IsWithin-drop s.window (through at s.ranges) (beyond at s.ranges) (rw (whole (Some at) s.ranges begins) c.requires.within))

pub returns-in-Some-clause-cursor : goal.returns-in-Some-clause-cursor
returns-in-Some-clause-cursor g c = rw (c.in-Some.is, c.unlink_after.ensures) (place g ((goal.at.returns-in-Some-clause-cursor g c).In-Some)).cursor_is

pub returns-in-Some-clause-before : goal.returns-in-Some-clause-before
returns-in-Some-clause-before g c = rw (c.in-Some.is, c.unlink_after.ensures) (place g ((goal.at.returns-in-Some-clause-before g c).In-Some)).before_is

pub returns-in-Some-clause-following : goal.returns-in-Some-clause-following
returns-in-Some-clause-following g c = rw (c.in-Some.is, c.unlink_after.ensures) (place g ((goal.at.returns-in-Some-clause-following g c).In-Some)).following_is
