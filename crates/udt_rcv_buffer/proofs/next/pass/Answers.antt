use Rattle.std.proofs.Common.{arith}
use Rattle.udt_rcv_buffer.proofs.ConsumedLemmas.{within_all, stays_before, starts_after}
use Rattle.udt_rcv_buffer.proofs.next.pass.Goals as goal

pub end_of-requires-clause-within : goal.end_of-requires-clause-within
end_of-requires-clause-within c = rw c.count.ensures.value (within_all c.args.found c.args.place c.args.count c.args.ring.now.list c.requires.was)

pub returns-then-end_of-place : goal.returns-then-end_of-place
returns-then-end_of-place c =
    stays_before c.args.found c.args.place c.args.count c.args.ring.now.list c.requires.was (rw (← c.count.ensures.value) (rw c.end_of.ensures at c.if-end_of-place.true))

pub search-requires-clause-start : goal.search-requires-clause-start
search-requires-clause-start c =
    let m = c.requires.marked in
    starts_after c.args.found c.args.place c.args.count c.args.ring.now.list c.requires.was c.args.marks.now.run m.used (omega (arith, m.within, m.top)) c.requires.run
    (rw (← c.count.ensures.value) (omega (arith, c.end_of.ensures, c.if-end_of-place.false)))
