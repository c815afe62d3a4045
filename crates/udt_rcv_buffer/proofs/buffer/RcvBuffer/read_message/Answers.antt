use Rattle.std.proofs.Common.{◌≡◌, ◌+◌, ◌≤◌, List, length, refl, ap, ◌∙◌, arith}
use Rattle.std.proofs.lemmas.Bool.{le-leb}
use Rattle.udt_rcv_buffer.specs.declared.head.Head.{Head}
use Rattle.udt_ring.specs.Parts.{Part}
use Rattle.udt_rcv_buffer.specs.Buffers.{received_of}
use Rattle.udt_rcv_buffer.proofs.PlacedLemmas.{length-consume_parts}
use Rattle.udt_rcv_buffer.proofs.BufferLemmas.{consumed_given, consumed_beginning, message_bytes}
use Rattle.udt_rcv_buffer.proofs.MoveLemmas.{message_moves}
use Rattle.udt_rcv_buffer.proofs.buffer.RcvBuffer.read_message.Goals as goal
use Rattle.udt_rcv_buffer.proofs.buffer.RcvBuffer.read_message.Goals.{After-settle}

pub copy_out-requires-clause-bytes : goal.copy_out-requires-clause-bytes
copy_out-requires-clause-bytes c =
    let f = c.in-Some.ensures.some in
    let bytes = message_bytes c.self.inside.ring.list c.in-Some.found.first c.in-Some.found.count c.in-Some.found.len f.len in
    omega (arith, bytes.0)

pub settle-requires-clause-given : goal.settle-requires-clause-given
settle-requires-clause-given c =
    let b = c.self.inside in
    let given = c.extend.ensures.given ∙ c.consume.ensures.given in
    let list = c.consume.ensures.list in
    consumed_given b.marks.given _ _ b.ring.list c.extend.new.self c.self.invariant.settled given (rw list at c.extend.ensures.marked) (rw list at c.extend.ensures.run)

-- there are as many parts as before
len : (c : After-settle) → length c.settle.new.ring.list ≡ length c.self.inside.ring.list
len c =
    let parts = ap (λ (ps : List (Part Head)). length ps) c.consume.ensures.list in
    c.settle.ensures.len ∙ parts ∙ length-consume_parts _ _ c.self.inside.ring.list

pub invariant_of-self : goal.invariant_of-self
invariant_of-self c =
    let s = c.settle.ensures in
    let same = len ((goal.at.invariant_of-self c).After-settle) in
    record { few = omega (arith, same, c.self.invariant.few); marked = s.marked; run = s.run; settled = s.settled; limit = s.limit; next = c.consume-2.ensures }

pub returns-clause-into : goal.returns-clause-into
returns-clause-into c =
    let b = c.self.inside in
    let f = c.in-Some.ensures.some in
    let bytes = message_bytes b.ring.list c.in-Some.found.first c.in-Some.found.count c.in-Some.found.len f.len in
    let fits = le-leb c.in-Some.found.len (length c.args.into.now) c.if-found-into.false in
    rw (c.copy_out.ensures, ← c.self.view_is, f.next b.base, ← f.len, fits, bytes.1) refl

pub returns-clause-next : goal.returns-clause-next
returns-clause-next c =
    let b = c.self.inside in
    let f = c.in-Some.ensures.some in
    let same = len ((goal.at.returns-clause-next c).After-settle) in
    let fits = le-leb c.in-Some.found.len (length c.args.into.now) c.if-found-into.false in
    let within : c.in-Some.found.first + c.in-Some.found.count ≤ length b.ring.list = omega (arith, f.within, c.self.invariant.marked.top) in
    let given = c.extend.ensures.given ∙ c.consume.ensures.given in
    let step = consumed_beginning (received_of b) c.in-Some.found.first c.in-Some.found.count b.ring.list c.extend.new.self.given refl f.some within given in
    rw (← c.self.view_is, f.next b.base, ← f.len, fits, step, ← c.consume.ensures.list, c.settle.ensures.front, same, c.settle.ensures.room ∙ c.consume.ensures.room) refl

pub returns-clause-kept : goal.returns-clause-kept
returns-clause-kept c =
    let same = len ((goal.at.returns-clause-kept c).After-settle) in
    rw (← c.self.view_is) (record { payload = c.settle.ensures.room ∙ c.consume.ensures.room; capacity = same })

pub returns-clause-base : goal.returns-clause-base
returns-clause-base c = rw (returns-clause-next c) (message_moves c.args.self.now (length c.args.into.now))
