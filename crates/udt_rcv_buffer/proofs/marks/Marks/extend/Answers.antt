use Rattle.std.proofs.Common.{◌+◌, refl, arith}
use Rattle.udt_ring.proofs.JoinedLemmas.{joined-take_le, joined_more_len}
use Rattle.udt_rcv_buffer.proofs.MarkLemmas.{grown, unused_at, is_true}
use Rattle.udt_rcv_buffer.proofs.marks.Marks.extend.Goals as goal

pub overflow_add-self-in-loop-self : goal.overflow_add-self-in-loop-self
overflow_add-self-in-loop-self c =
    let parts = c.args.ring.now.list in
    let more = joined_more_len parts c.loop-self.self.run _ c.part.ensures.value in
    omega (arith, c.part.ensures.fits, joined-take_le (c.loop-self.self.run + 1) parts, more, c.loop-self.invariant.marked.bytes)

pub loop-self-preserved : goal.loop-self-preserved
loop-self-preserved c =
    let i = c.loop-self.invariant in
    record {
      marked = grown c.loop-self.self _ c.args.ring.now.list _ i.marked c.part.ensures.value (is_true c.part.result.0.used c.if-not-head.false) refl refl refl;
      given = i.given;
      top = i.top;
      later = omega (arith, i.later);
    }

-- at the top no part is used
pub returns-after-loop-self-clause-run : goal.returns-after-loop-self-clause-run
returns-after-loop-self-clause-run c = λ part found. unused_at c.args.ring.now.list c.loop-self.self.top c.loop-self.self.run part c.loop-self.invariant.marked.unused c.loop-self-test.false found
