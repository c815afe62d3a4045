use Rattle.std.proofs.Common.{sym}
use Rattle.udt_ranges.proofs.ChainLemmas.{length-walk}
use Rattle.udt_ranges.proofs.StepLemmas.{walk-IsWithin}
use Rattle.udt_ranges.proofs.links.LinkedRanges.count.Goals as goal

pub returns-clause-value : goal.returns-clause-value
returns-clause-value g c =
    let l = c.self.inside in rw (← c.self.view_is) (sym (length-walk l.blank l.places.items l.count l.head))

pub returns-clause-within : goal.returns-clause-within
returns-clause-within g c =
    let l = c.self.inside in rw (← c.self.view_is) (walk-IsWithin l.blank l.places.items l.head l.tail l.hint l.count c.self.invariant)
