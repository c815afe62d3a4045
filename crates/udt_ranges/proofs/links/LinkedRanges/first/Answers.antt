use Rattle.udt_ranges.proofs.StepLemmas.{walk-IsWithin}
use Rattle.udt_ranges.proofs.ReadLemmas.{first_none, first_some}
use Rattle.udt_ranges.proofs.links.LinkedRanges.first.Goals as goal

pub returns-then-self-eq0-clause-value : goal.returns-then-self-eq0-clause-value
returns-then-self-eq0-clause-value g c =
    let l = c.self.inside in rw (← c.self.view_is) (first_none l.blank l.places.items l.count l.head c.if-self-eq0.true)

pub returns-clause-value : goal.returns-clause-value
returns-clause-value g c =
    let l = c.self.inside in rw (← c.self.view_is) (first_some l.blank l.places.items l.count l.head c.if-self-eq0.false)

pub returns-then-self-eq0-clause-within : goal.returns-then-self-eq0-clause-within
returns-then-self-eq0-clause-within g c =
    let l = c.self.inside in rw (← c.self.view_is) (walk-IsWithin l.blank l.places.items l.head l.tail l.hint l.count c.self.invariant)

pub returns-clause-within : goal.returns-clause-within
returns-clause-within g c =
    let l = c.self.inside in rw (← c.self.view_is) (walk-IsWithin l.blank l.places.items l.head l.tail l.hint l.count c.self.invariant)
