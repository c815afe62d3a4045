use Rattle.std.proofs.Common.{◌≡◌, ◌%◌, length, arith, ap, ◌∙◌, length-set}
use Rattle.udt_ranges.specs.Chains.{walk}
use Rattle.udt_ranges.proofs.CursorLemmas.{length-insert}
use Rattle.udt_ranges.proofs.ChainLemmas.{length-walk}
use Rattle.udt_ranges.proofs.StepLemmas.{linked_at, window-some, length-IsWithin, seen_as}
use Rattle.udt_ranges.proofs.ReadLemmas.{place_at-read}
use Rattle.udt_ranges.proofs.links.LinkedRanges.link_after.Goals as goal

pub slot_of-slot-requires : goal.slot_of-slot-requires
slot_of-slot-requires g c =
    let within = rw (← c.self.view_is) at c.requires.room in
    omega (arith, window-some (length c.self.inside.places.items) _ c.args.range _ within, c.self.inside.places.ok.0)

pub overflow_add-self : goal.overflow_add-self
overflow_add-self g c =
    let l = c.self.inside in
    let within = rw (← c.self.view_is) at c.requires.room in
    let begins = rw (← c.self.view_is) at c.requires.cursor in
    omega (arith, length-IsWithin (length l.places.items) _ within, length-insert c.args.at c.args.range (walk l.blank l.places.items l.count l.head) begins, length-walk l.blank l.places.items l.count l.head, l.places.ok.0, c.len.ensures, c.len.type_inv)

pub invariant_of-self : goal.invariant_of-self
invariant_of-self g c =
    let l = c.self.inside in
    let begins = rw (← c.self.view_is) at c.requires.cursor in
    let within = rw (← c.self.view_is) at c.requires.room in
    let some = window-some (length l.places.items) _ c.args.range _ within in
    let slot : c.slot_of-slot.result ≡ c.args.range.first % length l.places.items = c.slot_of-slot.ensures.value ∙ ap (λ n. c.args.range.first % n) (c.len.ensures ∙ l.places.ok.0) in
    let before : c.slot_of-earlier.result ≡ c.args.at % length l.places.items = c.slot_of-earlier.ensures.value ∙ ap (λ n. c.args.at % n) (c.len-2.ensures ∙ l.places.ok.0) in
    let read = place_at-read l.blank l.places.items c.args.at c.slot_of-earlier.result c.index-place.result.now before some c.index-place.ensures in
    rw (slot, before, read, c.moved-self-inside.ensures) (linked_at l.blank l.places.items l.head l.tail l.hint l.count c.self.invariant c.args.at some begins c.args.range within).chain

pub returns : goal.returns
returns g c =
    let l = c.self.inside in
    let begins = rw (← c.self.view_is) at c.requires.cursor in
    let within = rw (← c.self.view_is) at c.requires.room in
    let some = window-some (length l.places.items) _ c.args.range _ within in
    let slot : c.slot_of-slot.result ≡ c.args.range.first % length l.places.items = c.slot_of-slot.ensures.value ∙ ap (λ n. c.args.range.first % n) (c.len.ensures ∙ l.places.ok.0) in
    let before : c.slot_of-earlier.result ≡ c.args.at % length l.places.items = c.slot_of-earlier.ensures.value ∙ ap (λ n. c.args.at % n) (c.len-2.ensures ∙ l.places.ok.0) in
    let read = place_at-read l.blank l.places.items c.args.at c.slot_of-earlier.result c.index-place.result.now before some c.index-place.ensures in
    rw (← c.self.view_is, slot, before, read) (seen_as _ _ _ _ (length-set _ _ _ ∙ length-set _ _ _) (linked_at l.blank l.places.items l.head l.tail l.hint l.count c.self.invariant c.args.at some begins c.args.range within).walks)
