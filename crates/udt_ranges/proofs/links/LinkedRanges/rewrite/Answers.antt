use Rattle.std.proofs.Common.{◌≡◌, ◌%◌, length, arith, ap, refl, ◌∙◌, length-set}
use Rattle.udt_ranges.proofs.StepLemmas.{walk-IsWithin, rewritten, seen_as}
use Rattle.udt_ranges.proofs.ReadLemmas.{begins-some, place_at-read}
use Rattle.udt_ranges.proofs.links.LinkedRanges.rewrite.Goals as goal

pub slot_of-slot-requires : goal.slot_of-slot-requires
slot_of-slot-requires g c =
    let l = c.self.inside in
    let begins = rw (← c.self.view_is) at c.requires.cursor in
    omega (arith, begins-some c.args.range.first (length l.places.items) _ begins (walk-IsWithin l.blank l.places.items l.head l.tail l.hint l.count c.self.invariant), l.places.ok.0)

pub invariant_of-self : goal.invariant_of-self
invariant_of-self g c =
    let l = c.self.inside in
    let begins = rw (← c.self.view_is) at c.requires.cursor in
    let within = rw (← c.self.view_is) at c.requires.room in
    let some = begins-some c.args.range.first (length l.places.items) _ begins (walk-IsWithin l.blank l.places.items l.head l.tail l.hint l.count c.self.invariant) in
    let slot : c.slot_of-slot.result ≡ c.args.range.first % length l.places.items = c.slot_of-slot.ensures.value ∙ ap (λ n. c.args.range.first % n) (c.len.ensures ∙ l.places.ok.0) in
    let read = place_at-read l.blank l.places.items c.args.range.first c.slot_of-slot.result c.index.result.now slot some c.index.ensures in
    rw (slot, read) (rewritten l.blank l.places.items l.head l.tail l.hint l.count c.self.invariant c.args.range.first some begins c.args.range refl within).chain

pub returns : goal.returns
returns g c =
    let l = c.self.inside in
    let begins = rw (← c.self.view_is) at c.requires.cursor in
    let within = rw (← c.self.view_is) at c.requires.room in
    let some = begins-some c.args.range.first (length l.places.items) _ begins (walk-IsWithin l.blank l.places.items l.head l.tail l.hint l.count c.self.invariant) in
    let slot : c.slot_of-slot.result ≡ c.args.range.first % length l.places.items = c.slot_of-slot.ensures.value ∙ ap (λ n. c.args.range.first % n) (c.len.ensures ∙ l.places.ok.0) in
    let read = place_at-read l.blank l.places.items c.args.range.first c.slot_of-slot.result c.index.result.now slot some c.index.ensures in
    rw (← c.self.view_is, slot, read) (seen_as _ _ _ _ (length-set _ _ _) (rewritten l.blank l.places.items l.head l.tail l.hint l.count c.self.invariant c.args.range.first some begins c.args.range refl within).walks)
