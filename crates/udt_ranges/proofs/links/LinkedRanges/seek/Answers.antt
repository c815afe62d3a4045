use Rattle.std.proofs.Common.{◌≡◌, ◌<◌, ◌%◌, true, length, arith, ap, refl, ◌∙◌, inl, inr}
use Rattle.udt_ranges.specs.Cursors.{begins_at}
use Rattle.udt_ranges.specs.Ranges.{IsBelow}
use Rattle.udt_ranges.specs.Chains.{walk}
use Rattle.udt_ranges.proofs.StepLemmas.{walk-IsWithin}
use Rattle.udt_ranges.proofs.SeekLemmas.{from_head, from_none, head_begins, tail_begins, leads_on, below_through, from_beyond}
use Rattle.udt_ranges.proofs.ReadLemmas.{counted-some, place_at-read}
use Rattle.udt_ranges.proofs.links.LinkedRanges.seek.Goals as goal
use Rattle.udt_ranges.proofs.links.LinkedRanges.seek.Goals.{then-self-offset-2, else-self-offset-2}

pub returns-then-self-eq0-clause-before : goal.returns-then-self-eq0-clause-before
unfolding IsBelow
returns-then-self-eq0-clause-before g c = tt

pub returns-then-self-eq0-clause-following : goal.returns-then-self-eq0-clause-following
returns-then-self-eq0-clause-following g c =
    let l = c.self.inside in
    rw (← c.self.view_is) (from_none l.blank l.places.items l.head l.tail l.hint l.count c.self.invariant c.args.offset c.if-self-eq0.true)

pub returns-then-offset-self-clause-before : goal.returns-then-offset-self-clause-before
unfolding IsBelow
returns-then-offset-self-clause-before g c = tt

pub returns-then-offset-self-clause-following : goal.returns-then-offset-self-clause-following
returns-then-offset-self-clause-following g c =
    let l = c.self.inside in
    rw (← c.self.view_is) (from_head l.blank l.places.items l.head l.tail l.hint l.count c.self.invariant c.args.offset c.if-offset-self.true)

-- the tail begins before the offset, and nothing is after it
pub returns-then-self-offset-clause-cursor : goal.returns-then-self-offset-clause-cursor
returns-then-self-offset-clause-cursor g c =
    let l = c.self.inside in
    rw (← c.self.view_is) (tail_begins l.blank l.places.items l.head l.tail l.hint l.count c.self.invariant c.if-self-eq0.false)

pub returns-then-self-offset-clause-before : goal.returns-then-self-offset-clause-before
returns-then-self-offset-clause-before g c =
    let l = c.self.inside in
    let begins = tail_begins l.blank l.places.items l.head l.tail l.hint l.count c.self.invariant c.if-self-eq0.false in
    rw (← c.self.view_is) (below_through l.blank l.places.items l.head l.tail l.hint l.count c.self.invariant l.tail begins c.args.offset c.if-self-offset.true)

pub returns-then-self-offset-clause-following : goal.returns-then-self-offset-clause-following
returns-then-self-offset-clause-following g c =
    let l = c.self.inside in
    let begins = tail_begins l.blank l.places.items l.head l.tail l.hint l.count c.self.invariant c.if-self-eq0.false in
    rw (← c.self.view_is) (from_beyond l.blank l.places.items l.head l.tail l.hint l.count c.self.invariant l.tail begins c.args.offset (inl refl))

pub slot_of-requires : goal.slot_of-requires
slot_of-requires g c =
    let l = c.self.inside in
    omega (arith, counted-some l.blank l.places.items l.head l.tail l.hint l.count c.self.invariant (omega arith), l.places.ok.0)

-- the hint and the head both begin a range
pub loop-next-init : goal.loop-next-init
loop-next-init g c =
    let l = c.self.inside in
    let at = c.if-self-offset-2.at in
    let below : at < c.args.offset = elim c.if-self-offset-2.branch [ then-self-offset-2 w ↦ omega arith | else-self-offset-2 w ↦ omega arith ] in
    let begins : begins_at at (walk l.blank l.places.items l.count l.head) ≡ true =
    elim c.if-self-offset-2.branch [
      | then-self-offset-2 w ↦ rw w.at-is (c.self.invariant.hint_is (omega arith))
      | else-self-offset-2 w ↦ rw w.at-is (head_begins l.blank l.places.items l.head l.tail l.hint l.count c.self.invariant c.if-self-eq0.false)
    ] in
    let some = counted-some l.blank l.places.items l.head l.tail l.hint l.count c.self.invariant (omega arith) in
    let slot : c.slot_of.result ≡ at % length l.places.items = c.slot_of.ensures.value ∙ ap (λ n. at % n) (c.len.ensures ∙ l.places.ok.0) in
    let read = place_at-read l.blank l.places.items at c.slot_of.result c.index.result.now slot some c.index.ensures in
    let on = leads_on l.blank l.places.items l.head l.tail l.hint l.count c.self.invariant at begins (λ last. omega arith) in
    record { begins = begins; below = below; leads = rw read refl; later = rw read on.1 }

pub loop-next-smaller : goal.loop-next-smaller
loop-next-smaller g c =
    let l = c.self.inside in
    let at = c.loop-next.next in
    let on = leads_on l.blank l.places.items l.head l.tail l.hint l.count c.self.invariant c.loop-next.at c.loop-next.invariant.begins (λ last. omega arith) in
    let begins : begins_at at (walk l.blank l.places.items l.count l.head) ≡ true = rw c.loop-next.invariant.leads on.0 in
    let some = counted-some l.blank l.places.items l.head l.tail l.hint l.count c.self.invariant (omega arith) in
    let slot : c.slot_of-in-loop-next.result ≡ at % length l.places.items = c.slot_of-in-loop-next.ensures.value ∙ ap (λ n. at % n) (c.len-in-loop-next.ensures ∙ l.places.ok.0) in
    let read = place_at-read l.blank l.places.items at c.slot_of-in-loop-next.result c.index-in-loop-next.result.now slot some c.index-in-loop-next.ensures in
    let on_2 = leads_on l.blank l.places.items l.head l.tail l.hint l.count c.self.invariant at begins (λ last. omega arith) in
    let later : at < c.index-in-loop-next.result.now.next = rw read on_2.1 in
    omega arith

pub loop-next-preserved : goal.loop-next-preserved
loop-next-preserved g c =
    let l = c.self.inside in
    let at = c.loop-next.next in
    let on = leads_on l.blank l.places.items l.head l.tail l.hint l.count c.self.invariant c.loop-next.at c.loop-next.invariant.begins (λ last. omega arith) in
    let begins : begins_at at (walk l.blank l.places.items l.count l.head) ≡ true = rw c.loop-next.invariant.leads on.0 in
    let some = counted-some l.blank l.places.items l.head l.tail l.hint l.count c.self.invariant (omega arith) in
    let slot : c.slot_of-in-loop-next.result ≡ at % length l.places.items = c.slot_of-in-loop-next.ensures.value ∙ ap (λ n. at % n) (c.len-in-loop-next.ensures ∙ l.places.ok.0) in
    let read = place_at-read l.blank l.places.items at c.slot_of-in-loop-next.result c.index-in-loop-next.result.now slot some c.index-in-loop-next.ensures in
    let on_2 = leads_on l.blank l.places.items l.head l.tail l.hint l.count c.self.invariant at begins (λ last. omega arith) in
    record { begins = begins; below = omega arith; leads = rw read refl; later = rw read on_2.1 }

pub invariant_of-self : goal.invariant_of-self
invariant_of-self g c = record { rises = c.self.invariant.rises; tail_is = c.self.invariant.tail_is; hint_is = λ some. c.loop-next.invariant.begins }

pub returns-clause-cursor : goal.returns-clause-cursor
returns-clause-cursor g c = rw (← c.self.view_is) c.loop-next.invariant.begins

pub returns-clause-before : goal.returns-clause-before
returns-clause-before g c =
    let l = c.self.inside in
    rw (← c.self.view_is) (below_through l.blank l.places.items l.head l.tail l.hint l.count c.self.invariant c.loop-next.at c.loop-next.invariant.begins c.args.offset c.loop-next.invariant.below)

pub returns-clause-following : goal.returns-clause-following
returns-clause-following g c =
    let l = c.self.inside in
    rw (← c.self.view_is) (from_beyond l.blank l.places.items l.head l.tail l.hint l.count c.self.invariant c.loop-next.at c.loop-next.invariant.begins c.args.offset (inr (λ last. omega arith, omega (arith, c.loop-next.invariant.leads))))

pub returns-then-self-eq0-clause-within : goal.returns-then-self-eq0-clause-within
returns-then-self-eq0-clause-within g c =
    let l = c.self.inside in rw (← c.self.view_is) (walk-IsWithin l.blank l.places.items l.head l.tail l.hint l.count c.self.invariant)

pub returns-then-offset-self-clause-within : goal.returns-then-offset-self-clause-within
returns-then-offset-self-clause-within g c =
    let l = c.self.inside in rw (← c.self.view_is) (walk-IsWithin l.blank l.places.items l.head l.tail l.hint l.count c.self.invariant)

pub returns-then-self-offset-clause-within : goal.returns-then-self-offset-clause-within
returns-then-self-offset-clause-within g c =
    let l = c.self.inside in rw (← c.self.view_is) (walk-IsWithin l.blank l.places.items l.head l.tail l.hint l.count c.self.invariant)

pub returns-clause-within : goal.returns-clause-within
returns-clause-within g c =
    let l = c.self.inside in rw (← c.self.view_is) (walk-IsWithin l.blank l.places.items l.head l.tail l.hint l.count c.self.invariant)
