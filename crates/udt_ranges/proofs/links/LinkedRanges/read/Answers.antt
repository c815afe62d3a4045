use Rattle.std.proofs.Common.{◌≡◌, ◌%◌, length, arith, ap, ◌∙◌}
use Rattle.udt_ranges.specs.Chains.{range_at}
use Rattle.udt_ranges.proofs.StepLemmas.{walk-IsWithin}
use Rattle.udt_ranges.proofs.ReadLemmas.{begins-some, read_is, place_at-read}
use Rattle.udt_ranges.proofs.links.LinkedRanges.read.Goals as goal

pub slot_of-slot-requires : goal.slot_of-slot-requires
slot_of-slot-requires g c =
    let l = c.self.inside in
    let begins = rw (← c.self.view_is) at c.requires in
    omega (arith, begins-some c.args.at (length l.places.items) _ begins (walk-IsWithin l.blank l.places.items l.head l.tail l.hint l.count c.self.invariant), l.places.ok.0)

pub returns-clause-value : goal.returns-clause-value
unfolding range_at
returns-clause-value g c =
    let l = c.self.inside in
    let begins = rw (← c.self.view_is) at c.requires in
    let some = begins-some c.args.at (length l.places.items) _ begins (walk-IsWithin l.blank l.places.items l.head l.tail l.hint l.count c.self.invariant) in
    let slot : c.slot_of-slot.result ≡ c.args.at % length l.places.items = c.slot_of-slot.ensures.value ∙ ap (λ n. c.args.at % n) (c.len.ensures ∙ l.places.ok.0) in
    let read = place_at-read l.blank l.places.items c.args.at c.slot_of-slot.result c.index-place.result.now slot some c.index-place.ensures in
    rw (← c.self.view_is, read) (read_is l.blank l.places.items l.head l.tail l.hint l.count c.self.invariant c.args.at begins)
