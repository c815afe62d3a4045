use Rattle.std.proofs.Common.{◌≡◌, ◌+◌, ◌-◌, ◌≤◌, List, max, length, refl, ap, ◌∙◌, sym, arith}
use Rattle.udt_model.specs.ReceiveBlocks.{ReceiveBlocks}
use Rattle.udt_rcv_buffer.specs.declared.head.Head.{Head}
use Rattle.udt_ring.specs.Parts.{Part}
use Rattle.udt_rcv_buffer.specs.Buffers.{received_of}
use Rattle.udt_rcv_buffer.proofs.PlacedLemmas.{length-consume_parts}
use Rattle.udt_rcv_buffer.proofs.BufferLemmas.{consumed_given, consumed_beginning, nothing_consumed}
use Rattle.udt_rcv_buffer.proofs.MoveLemmas.{skip_moves}
use Rattle.udt_rcv_buffer.proofs.buffer.RcvBuffer.skip.Goals as goal
use Rattle.udt_rcv_buffer.proofs.buffer.RcvBuffer.skip.Goals.{After-extend, After-settle}

-- an empty range
pub returns-then-last-from-clause-next : goal.returns-then-last-from-clause-next
returns-then-last-from-clause-next c =
    let b = c.self.inside in
    let none : c.args.last + 1 - max c.args.first b.base ≡ 0 = omega (arith, c.if-last-from.true, c.max-from.ensures) in
    let stays = nothing_consumed (received_of b) (max c.args.first b.base) b.ring.list refl (omega arith) c.self.invariant.settled in
    rw (← c.self.view_is, none) (sym stays)

pub settle-requires-clause-given : goal.settle-requires-clause-given
settle-requires-clause-given c =
    let b = c.self.inside in
    let given = c.extend.ensures.given ∙ c.consume.ensures.given in
    let list = c.consume.ensures.list in
    consumed_given b.marks.given _ _ b.ring.list c.extend.new.self c.self.invariant.settled given (rw list at c.extend.ensures.marked) (rw list at c.extend.ensures.run)

-- there are as many parts as before
len : (c : After-settle) → length c.settle.new.ring.list ≡ length c.self.inside.ring.list
len c =
    let parts = ap (λ (ps : List (Part Head)). length ps) c.consume.ensures.list in
    c.settle.ensures.len ∙ parts ∙ length-consume_parts _ _ c.self.inside.ring.list

pub invariant_of-self : goal.invariant_of-self
invariant_of-self c =
    let s = c.settle.ensures in
    let same = len ((goal.at.invariant_of-self c).After-settle) in
    record { few = omega (arith, same, c.self.invariant.few); marked = s.marked; run = s.run; settled = s.settled; limit = s.limit; next = c.consume-2.ensures }

pub returns-clause-next : goal.returns-clause-next
returns-clause-next c =
    let b = c.self.inside in
    let same = len ((goal.at.returns-clause-next c).After-settle) in
    let at = c.max-from.result - b.base in
    let count = c.args.last - c.max-from.result + 1 in
    let from : max c.args.first b.base ≡ b.base + at = omega (arith, c.max-from.ensures) in
    let many : c.args.last + 1 - (b.base + at) ≡ count = omega (arith, c.max-from.ensures, c.if-last-from.false) in
    let capacity : c.args.self.now.capacity ≡ length b.ring.list = ap (λ (r : ReceiveBlocks). r.capacity) (sym c.self.view_is) in
    let base : c.args.self.now.base ≡ b.base = ap (λ (r : ReceiveBlocks). r.base) (sym c.self.view_is) in
    let within : at + count ≤ length b.ring.list = omega (arith, c.requires.within, capacity, base, c.max-from.ensures, c.if-last-from.false) in
    let given = c.extend.ensures.given ∙ c.consume.ensures.given in
    let step = consumed_beginning (received_of b) at count b.ring.list c.extend.new.self.given refl (omega arith) within given in
    rw (← c.self.view_is, from, many, step, ← c.consume.ensures.list, c.settle.ensures.front, same, c.settle.ensures.room ∙ c.consume.ensures.room) refl

pub returns-clause-kept : goal.returns-clause-kept
returns-clause-kept c =
    let same = len ((goal.at.returns-clause-kept c).After-settle) in
    rw (← c.self.view_is) (record { payload = c.settle.ensures.room ∙ c.consume.ensures.room; capacity = same })

pub returns-clause-base : goal.returns-clause-base
returns-clause-base c = rw (returns-clause-next c) (skip_moves c.args.self.now c.args.first c.args.last)
