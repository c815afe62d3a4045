use Rattle.std.proofs.Common.{◌≡◌, ◌%◌, length, arith, ap, refl, ◌∙◌}
use Rattle.udt_ranges.proofs.StepLemmas.{front_unlinked, seen_as}
use Rattle.udt_ranges.proofs.ReadLemmas.{some_first, counted-some, place_at-read}
use Rattle.udt_ranges.proofs.links.LinkedRanges.unlink_front.Goals as goal

pub slot_of-slot-requires : goal.slot_of-slot-requires
slot_of-slot-requires g c =
    let l = c.self.inside in
    let counted = some_first l.blank l.places.items l.count l.head (rw (← c.self.view_is) at c.requires) in
    omega (arith, counted-some l.blank l.places.items l.head l.tail l.hint l.count c.self.invariant counted, l.places.ok.0)

pub overflow_sub-self : goal.overflow_sub-self
overflow_sub-self g c =
    let l = c.self.inside in
    let counted = some_first l.blank l.places.items l.count l.head (rw (← c.self.view_is) at c.requires) in
    omega arith

pub invariant_of-self : goal.invariant_of-self
invariant_of-self g c =
    let l = c.self.inside in
    let counted = some_first l.blank l.places.items l.count l.head (rw (← c.self.view_is) at c.requires) in
    let some = counted-some l.blank l.places.items l.head l.tail l.hint l.count c.self.invariant counted in
    let slot : c.slot_of-slot.result ≡ l.head % length l.places.items = c.slot_of-slot.ensures.value ∙ ap (λ n. l.head % n) (c.len.ensures ∙ l.places.ok.0) in
    let read = place_at-read l.blank l.places.items l.head c.slot_of-slot.result c.index.result.now slot some c.index.ensures in
    rw (read, c.moved-self-inside.ensures, read) (front_unlinked l.blank l.places.items l.head l.tail l.hint l.count c.self.invariant counted).chain

pub returns : goal.returns
returns g c =
    let l = c.self.inside in
    let counted = some_first l.blank l.places.items l.count l.head (rw (← c.self.view_is) at c.requires) in
    let some = counted-some l.blank l.places.items l.head l.tail l.hint l.count c.self.invariant counted in
    let slot : c.slot_of-slot.result ≡ l.head % length l.places.items = c.slot_of-slot.ensures.value ∙ ap (λ n. l.head % n) (c.len.ensures ∙ l.places.ok.0) in
    let read = place_at-read l.blank l.places.items l.head c.slot_of-slot.result c.index.result.now slot some c.index.ensures in
    rw (← c.self.view_is, read) (seen_as _ _ _ _ refl (front_unlinked l.blank l.places.items l.head l.tail l.hint l.count c.self.invariant counted).walks)
