use Rattle.std.proofs.Common.{◌+◌, ◌∙◌}
use Rattle.udt_ranges.proofs.OffsetLemmas.{Rising-items, least-items}
use Rattle.udt_snd_loss.proofs.list.SndLoss.first.Goals as goal

pub returns-clause-value : goal.returns-clause-value
returns-clause-value c =
    let l = c.self.inside in
    rw (← c.self.view_is) (c.first.ensures.value ∙ least-items l.floor (l.floor + l.ranges.window) l.ranges.ranges c.self.invariant.rises)

pub returns-clause-within : goal.returns-clause-within
returns-clause-within c =
    let l = c.self.inside in rw (← c.self.view_is) (Rising-items l.floor (l.floor + l.ranges.window) l.ranges.ranges c.self.invariant.rises)
