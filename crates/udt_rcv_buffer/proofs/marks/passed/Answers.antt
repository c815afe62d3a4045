use Rattle.std.proofs.Common.{◌≡◌, arith}
use Rattle.udt_rcv_buffer.specs.declared.head.Head.{Head}
use Rattle.udt_ring.specs.Parts.{Part}
use Rattle.udt_ring.proofs.JoinedLemmas.{joined_more_len}
use Rattle.udt_rcv_buffer.proofs.marks.passed.Goals as goal

pub loop-count-init : goal.loop-count-init
loop-count-init c = omega arith

pub loop-count-preserved : goal.loop-count-preserved
loop-count-preserved c =
    let more = joined_more_len c.args.ring.now.list c.loop-count.count _ c.part.ensures.value in
    omega (arith, more, c.loop-count.invariant)

pub returns-then-bytes-left : goal.returns-then-bytes-left
returns-then-bytes-left c = record {
  within = omega arith;
  bytes = c.loop-count.invariant;
  next = λ more part found.
      let here : Part Head = record { head = c.part.result.0; bytes = c.part.result.1.now } in
      let same : here ≡ part = cc in
      rw (← same) c.if-bytes-left.true;
}

pub returns : goal.returns
returns c =
    let all : c.loop-count.count ≡ c.args.run = omega (arith, c.loop-count-test.false, c.loop-count.auto.count-end) in
    record {
      within = omega arith;
      bytes = rw all at c.loop-count.invariant;
      next = λ more. absurd (omega (arith, more));
    }
