use Rattle.std.proofs.Common.{◌≡◌, ◌%◌, [], length, arith, ap, ◌∙◌, length-set, inl, inr}
use Rattle.udt_ranges.proofs.ChainLemmas.{length-walk}
use Rattle.udt_ranges.proofs.StepLemmas.{front_linked, length-IsWithin, window-some, seen_as, tail_is}
use Rattle.udt_ranges.proofs.links.LinkedRanges.link_front.Goals as goal
use Rattle.udt_ranges.proofs.links.LinkedRanges.link_front.Goals.{then-self-eq0, else-self-eq0}

pub slot_of-slot-requires : goal.slot_of-slot-requires
slot_of-slot-requires g c =
    let within = rw (← c.self.view_is) at c.requires in
    omega (arith, window-some (length c.self.inside.places.items) [] c.args.range _ within, c.self.inside.places.ok.0)

pub overflow_add-self : goal.overflow_add-self
overflow_add-self g c =
    let l = c.self.inside in
    let within = rw (← c.self.view_is) at c.requires in
    omega (arith, length-IsWithin (length l.places.items) _ within, length-walk l.blank l.places.items l.count l.head, l.places.ok.0, c.len.ensures, c.len.type_inv)

pub invariant_of-self : goal.invariant_of-self
invariant_of-self g c =
    let l = c.self.inside in
    let within = rw (← c.self.view_is) at c.requires in
    let some = window-some (length l.places.items) [] c.args.range _ within in
    let slot : c.slot_of-slot.result ≡ c.args.range.first % length l.places.items = c.slot_of-slot.ensures.value ∙ ap (λ n. c.args.range.first % n) (c.len.ensures ∙ l.places.ok.0) in
    let tail = tail_is l.count c.args.range.first l.tail c.if-self-eq0.self (elim c.if-self-eq0.branch [ then-self-eq0 w ↦ inl (w.self-is, omega arith) | else-self-eq0 w ↦ inr (w.self-is, omega arith) ]) in
    rw (slot, tail) (front_linked l.blank l.places.items l.head l.tail l.hint l.count c.self.invariant c.args.range some within).chain

pub returns : goal.returns
returns g c =
    let l = c.self.inside in
    let within = rw (← c.self.view_is) at c.requires in
    let some = window-some (length l.places.items) [] c.args.range _ within in
    let slot : c.slot_of-slot.result ≡ c.args.range.first % length l.places.items = c.slot_of-slot.ensures.value ∙ ap (λ n. c.args.range.first % n) (c.len.ensures ∙ l.places.ok.0) in
    rw (← c.self.view_is, slot) (seen_as _ _ _ _ (length-set _ _ _) (front_linked l.blank l.places.items l.head l.tail l.hint l.count c.self.invariant c.args.range some within).walks)
