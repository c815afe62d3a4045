use Rattle.std.proofs.Common.{refl}
use Rattle.udt_ranges.specs.Cursors.{ahead, beyond}
use Rattle.udt_ranges.proofs.CursorLemmas.{IsSplit, is_split}
use Rattle.udt_ranges.proofs.PlaceLemmas.{bounds}
use Rattle.udt_ranges.proofs.links.LinkedRanges.replace.Goals as goal
use Rattle.udt_ranges.proofs.links.LinkedRanges.replace.Given.{Over}
use Rattle.udt_ranges.proofs.links.LinkedRanges.replace.Goals.{After-rewrite}

-- the list is split at the range
split : (g : Over) (c : After-rewrite g) → IsSplit c.args.range.first (ahead c.args.range.first c.args.self.now.ranges) c.args.range (beyond c.args.range.first c.args.self.now.ranges)
split g c =
    let b = bounds c.args.self.now.window _ c.requires.room in
    is_split c.args.range.first b.low b.high _ c.args.range _ refl b.rises

pub returns-clause-cursor : goal.returns-clause-cursor
returns-clause-cursor g c = rw c.rewrite.ensures (split g ((goal.at.returns-clause-cursor g c).After-rewrite)).begins

pub returns-clause-before : goal.returns-clause-before
returns-clause-before g c = rw c.rewrite.ensures (split g ((goal.at.returns-clause-before g c).After-rewrite)).through_is

pub returns-clause-following : goal.returns-clause-following
returns-clause-following g c = rw c.rewrite.ensures (split g ((goal.at.returns-clause-following g c).After-rewrite)).beyond_is
