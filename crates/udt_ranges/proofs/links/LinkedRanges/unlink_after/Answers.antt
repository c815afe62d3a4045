use Rattle.std.proofs.Common.{◌≡◌, ◌%◌, length, arith, ap, ◌∙◌, length-set}
use Rattle.udt_ranges.specs.Chains.{walk}
use Rattle.udt_ranges.proofs.CursorLemmas.{length-beyond}
use Rattle.udt_ranges.proofs.ChainLemmas.{length-walk}
use Rattle.udt_ranges.proofs.StepLemmas.{unlinked_at, walk-IsWithin, seen_as}
use Rattle.udt_ranges.proofs.ReadLemmas.{begins-some, some_length, place_at-read}
use Rattle.udt_ranges.proofs.links.LinkedRanges.unlink_after.Goals as goal

pub slot_of-earlier-requires : goal.slot_of-earlier-requires
slot_of-earlier-requires g c =
    let l = c.self.inside in
    let begins = rw (← c.self.view_is) at c.requires.cursor in
    omega (arith, begins-some c.args.at (length l.places.items) _ begins (walk-IsWithin l.blank l.places.items l.head l.tail l.hint l.count c.self.invariant), l.places.ok.0)

pub overflow_sub-self : goal.overflow_sub-self
overflow_sub-self g c =
    let l = c.self.inside in
    let more = some_length _ (rw (← c.self.view_is) at c.requires.some) in
    omega (arith, more, length-beyond c.args.at (walk l.blank l.places.items l.count l.head), length-walk l.blank l.places.items l.count l.head)

pub invariant_of-self : goal.invariant_of-self
invariant_of-self g c =
    let l = c.self.inside in
    let begins = rw (← c.self.view_is) at c.requires.cursor in
    let more = some_length _ (rw (← c.self.view_is) at c.requires.some) in
    let some = begins-some c.args.at (length l.places.items) _ begins (walk-IsWithin l.blank l.places.items l.head l.tail l.hint l.count c.self.invariant) in
    let before : c.slot_of-earlier.result ≡ c.args.at % length l.places.items = c.slot_of-earlier.ensures.value ∙ ap (λ n. c.args.at % n) (c.len.ensures ∙ l.places.ok.0) in
    let read = place_at-read l.blank l.places.items c.args.at c.slot_of-earlier.result c.index-place.result.now before some c.index-place.ensures in
    let slot : c.slot_of-slot.result ≡ c.index-place.result.now.next % length l.places.items = c.slot_of-slot.ensures.value ∙ ap (λ n. c.index-place.result.now.next % n) (c.len-2.ensures ∙ l.places.ok.0) in
    let after = place_at-read l.blank l.places.items c.index-place.result.now.next c.slot_of-slot.result c.index.result.now slot some c.index.ensures in
    rw (c.moved-self-inside.ensures, after, before, read) (unlinked_at l.blank l.places.items l.head l.tail l.hint l.count c.self.invariant c.args.at some begins more).chain

pub returns : goal.returns
returns g c =
    let l = c.self.inside in
    let begins = rw (← c.self.view_is) at c.requires.cursor in
    let more = some_length _ (rw (← c.self.view_is) at c.requires.some) in
    let some = begins-some c.args.at (length l.places.items) _ begins (walk-IsWithin l.blank l.places.items l.head l.tail l.hint l.count c.self.invariant) in
    let before : c.slot_of-earlier.result ≡ c.args.at % length l.places.items = c.slot_of-earlier.ensures.value ∙ ap (λ n. c.args.at % n) (c.len.ensures ∙ l.places.ok.0) in
    let read = place_at-read l.blank l.places.items c.args.at c.slot_of-earlier.result c.index-place.result.now before some c.index-place.ensures in
    let slot : c.slot_of-slot.result ≡ c.index-place.result.now.next % length l.places.items = c.slot_of-slot.ensures.value ∙ ap (λ n. c.index-place.result.now.next % n) (c.len-2.ensures ∙ l.places.ok.0) in
    let after = place_at-read l.blank l.places.items c.index-place.result.now.next c.slot_of-slot.result c.index.result.now slot some c.index.ensures in
    rw (← c.self.view_is, after, before, read) (seen_as _ _ _ _ (length-set _ _ _) (unlinked_at l.blank l.places.items l.head l.tail l.hint l.count c.self.invariant c.args.at some begins more).walks)
