use Rattle.std.proofs.Common.{◌+◌}
use Rattle.udt_ranges.proofs.OffsetLemmas.{Rising-items}
use Rattle.udt_snd_loss.proofs.list.SndLoss.len.Goals as goal

pub returns-clause-within : goal.returns-clause-within
returns-clause-within c =
    let l = c.self.inside in rw (← c.self.view_is) (Rising-items l.floor (l.floor + l.ranges.window) l.ranges.ranges c.self.invariant.rises)
