use Rattle.udt_ranges.proofs.PlaceLemmas.{found}
use Rattle.udt_ranges.proofs.links.LinkedRanges.next_range.Goals as goal

pub read-requires : goal.read-requires
read-requires g c =
    let s = c.args.self.now in
    (found s.window c.args.cursor s.ranges c.in_ok-next.next c.requires c.in_ok-next.ensures.within c.in_ok-next.ensures.value).begins

pub returns-clause-value : goal.returns-clause-value
returns-clause-value g c =
    let s = c.args.self.now in
    (found s.window c.args.cursor s.ranges c.in_ok-next.next c.requires c.in_ok-next.ensures.within c.in_ok-next.ensures.value).is c.read.result c.read.ensures.value
