use Rattle.std.proofs.Common.{◌≡◌, ◌+◌, ◌<◌, length, ◌∙◌, sym, arith}
use Rattle.std.proofs.lemmas.Bool.{false≢true}
use Rattle.udt_rcv_buffer.specs.Walked.{NoneEnds}
use Rattle.udt_rcv_buffer.specs.Walks.{end_of}
use Rattle.udt_rcv_buffer.proofs.WalkedLemmas.{none_ends-more, not_true}
use Rattle.udt_rcv_buffer.proofs.NextLemmas.{none_below, stays_before, stops_next, unbegun_next, starts-at}
use Rattle.udt_rcv_buffer.proofs.next.look.Goals as goal
use Rattle.udt_rcv_buffer.proofs.next.look.Goals.{After-end_of-below, Else-below-place}

-- the part is there
within : (c : After-end_of-below) → c.args.place < length c.args.ring.now.list
within c = omega (arith, c.requires.within, c.requires.marked.top)

pub returns-then-below-place : goal.returns-then-below-place
returns-then-below-place c =
    let here = (goal.at.returns-then-below-place c).After-end_of-below in
    stays_before c.args.found c.args.place c.args.marks.now.run c.args.ring.now.list c.requires.was (within here) (rw (← c.count.ensures.value) (rw c.end_of-below.ensures at c.if-below-place.true))

-- where the message that was next ended
end_is : (c : Else-below-place) → c.end_of-below.result ≡ end_of c.args.found (length c.args.ring.now.list)
end_is c = rw (← c.count.ensures.value) c.end_of-below.ensures

-- none ends before the block
none : (c : Else-below-place) → NoneEnds c.args.place c.args.ring.now.list
none c = none_below c.args.found c.args.place c.args.marks.now.run c.args.ring.now.list c.requires.was (omega (arith, end_is c, c.if-below-place.false))

pub returns-then-stops : goal.returns-then-stops
returns-then-stops c =
    let here = (goal.at.returns-then-stops c).Else-below-place in
    let parts = c.args.ring.now.list in
    let s = c.stops.ensures c.if-stops.true in
    let more = none_ends-more c.args.place parts _ (none here) c.part.ensures.value (λ last. absurd (false≢true (sym (not_true c.part.result.0.flags.last c.if-not-head.true) ∙ last))) in
    stops_next c.args.found c.args.place c.args.marks.now.run parts c.requires.was (c.args.place + 1) c.requires.run
    (omega (arith, s.from, c.max.ensures)) (omega arith) (rw (end_is here) at s.below) s.breaks more

pub returns-then-place-below : goal.returns-then-place-below
returns-then-place-below c =
    let here = (goal.at.returns-then-place-below c).Else-below-place in
    unbegun_next c.args.found c.args.place c.args.marks.now.run c.args.ring.now.list c.requires.was c.start_of-from.result.0 c.requires.run
    c.if-marks-place.true c.start_of-from.ensures.before (rw (end_is here) at c.if-place-below.true) c.start_of-from.ensures.breaks (c.start_of-from.ensures.none c.if-not-begins.true)

pub walk_from-requires-clause-start : goal.walk_from-requires-clause-start
walk_from-requires-clause-start c =
    let here = (goal.at.walk_from-requires-clause-start c).Else-below-place in
    let m = c.requires.marked in
    starts-at c.args.marks.now.run c.args.place c.start_of-from.result.0 c.args.ring.now.list m.used (omega (arith, m.within, m.top)) c.requires.run (none here)
    c.start_of-from.ensures.before c.start_of-from.ensures.breaks

pub returns-in-Stopped : goal.returns-in-Stopped
returns-in-Stopped c =
    let here = (goal.at.returns-in-Stopped c).Else-below-place in
    let s = c.in-Stopped.ensures.0 in
    stops_next c.args.found c.args.place c.args.marks.now.run c.args.ring.now.list c.requires.was c.in-Stopped.field-0 c.requires.run
    (omega (arith, s.from, c.max.ensures)) (omega (arith, s.from, c.max.ensures)) (rw (end_is here) at s.below) s.breaks c.in-Stopped.ensures.1
