use Rattle.std.proofs.Common.{◌≡◌, ◌%◌, length, arith, ap, ◌∙◌}
use Rattle.udt_ranges.proofs.StepLemmas.{walk-IsWithin}
use Rattle.udt_ranges.proofs.ReadLemmas.{begins-some, none_after, next_after, place_at-read}
use Rattle.udt_ranges.proofs.links.LinkedRanges.next_of.Goals as goal

pub returns-then-at-self-clause-value : goal.returns-then-at-self-clause-value
returns-then-at-self-clause-value g c =
    let l = c.self.inside in
    let begins = rw (← c.self.view_is) at (rw c.in-Some.is at c.requires) in
    rw (c.in-Some.is, ← c.self.view_is) (none_after l.blank l.places.items l.head l.tail l.hint l.count c.self.invariant c.in-Some.at begins c.if-at-self.true)

pub slot_of-slot-requires : goal.slot_of-slot-requires
slot_of-slot-requires g c =
    let l = c.self.inside in
    let begins = rw (← c.self.view_is) at (rw c.in-Some.is at c.requires) in
    omega (arith, begins-some c.in-Some.at (length l.places.items) _ begins (walk-IsWithin l.blank l.places.items l.head l.tail l.hint l.count c.self.invariant), l.places.ok.0)

pub returns-clause-value : goal.returns-clause-value
returns-clause-value g c =
    let l = c.self.inside in
    let begins = rw (← c.self.view_is) at (rw c.in-Some.is at c.requires) in
    let some = begins-some c.in-Some.at (length l.places.items) _ begins (walk-IsWithin l.blank l.places.items l.head l.tail l.hint l.count c.self.invariant) in
    let slot : c.slot_of-slot.result ≡ c.in-Some.at % length l.places.items = c.slot_of-slot.ensures.value ∙ ap (λ n. c.in-Some.at % n) (c.len.ensures ∙ l.places.ok.0) in
    let read = place_at-read l.blank l.places.items c.in-Some.at c.slot_of-slot.result c.index.result.now slot some c.index.ensures in
    rw (c.in-Some.is, ← c.self.view_is, read) (next_after l.blank l.places.items l.head l.tail l.hint l.count c.self.invariant c.in-Some.at begins c.if-at-self.false)

pub returns-then-at-self-clause-within : goal.returns-then-at-self-clause-within
returns-then-at-self-clause-within g c =
    let l = c.self.inside in rw (← c.self.view_is) (walk-IsWithin l.blank l.places.items l.head l.tail l.hint l.count c.self.invariant)

pub returns-clause-within : goal.returns-clause-within
returns-clause-within g c =
    let l = c.self.inside in rw (← c.self.view_is) (walk-IsWithin l.blank l.places.items l.head l.tail l.hint l.count c.self.invariant)
