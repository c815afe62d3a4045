use Rattle.std.proofs.Common.{◌≡◌, ◌+◌, ◌≤◌, ap, refl, ◌∙◌, sym, arith}
use Rattle.std.proofs.lemmas.List.{drop-drop}
use Rattle.udt_model.specs.ReceiveBlocks.{bytes_from, begins_at}
use Rattle.udt_rcv_buffer.specs.Buffers.{received_of}
use Rattle.udt_rcv_buffer.specs.PlacedParts.{placed_from}
use Rattle.udt_rcv_buffer.proofs.ReceivedLemmas.{waiting-beginning}
use Rattle.udt_rcv_buffer.proofs.PlacedLemmas.{beginning-settled}
use Rattle.udt_rcv_buffer.proofs.BufferLemmas.{given_le, waiting_len, run_first, all_bytes}
use Rattle.udt_rcv_buffer.proofs.MoveLemmas.{read_moves}
use Rattle.udt_rcv_buffer.proofs.buffer.RcvBuffer.read.Goals as goal
use Rattle.udt_rcv_buffer.proofs.buffer.RcvBuffer.read.Goals.{After-min-count}

pub overflow_sub-self-inside : goal.overflow_sub-self-inside
overflow_sub-self-inside c = given_le c.self.inside c.self.invariant

-- no more is read than waits
few : (c : After-min-count) → c.self.inside.marks.given + c.min-count.result ≤ c.self.inside.marks.bytes
few c = omega (arith, c.min-count.ensures, given_le c.self.inside c.self.invariant)

pub copy_out-requires-clause-bytes : goal.copy_out-requires-clause-bytes
copy_out-requires-clause-bytes c = omega (arith, few ((goal.at.copy_out-requires-clause-bytes c).After-min-count), all_bytes c.self.inside c.self.invariant)

pub settle-requires-clause-given : goal.settle-requires-clause-given
settle-requires-clause-given c = few ((goal.at.settle-requires-clause-given c).After-min-count)

pub returns-clause-value : goal.returns-clause-value
returns-clause-value c = rw (← c.self.view_is, waiting_len c.self.inside c.self.invariant) c.min-count.ensures

pub returns-clause-into : goal.returns-clause-into
returns-clause-into c =
    let first = run_first c.self.inside c.self.invariant c.min-count.result (few ((goal.at.returns-clause-into c).After-min-count)) in
    rw (c.copy_out.ensures, ← c.self.view_is, ← first) refl

pub returns-clause-rest : goal.returns-clause-rest
returns-clause-rest c =
    let b = c.self.inside in
    let placed = placed_from b.base b.ring.list in
    let moved = waiting-beginning placed b.base (b.marks.given + c.min-count.result) in
    let passed = drop-drop c.min-count.result b.marks.given (bytes_from b.base placed) in
    rw (← c.self.view_is) (sym (passed ∙ (rw c.settle.ensures.front at moved)))

pub returns-clause-next : goal.returns-clause-next
returns-clause-next c = rw (← c.self.view_is, c.settle.ensures.front, c.settle.ensures.len, c.settle.ensures.room) refl

-- what is settled stays where no byte is given
pub returns-clause-nothing : goal.returns-clause-nothing
returns-clause-nothing c none =
    let b = c.self.inside in
    let same : b.marks.given + 0 ≡ b.marks.given = omega arith in
    rw (returns-clause-next c, none, ← c.self.view_is, same)
    (ap (λ start. begins_at (received_of b) start) (beginning-settled b.ring.list b.base b.marks.given c.self.invariant.settled))

pub returns-clause-base : goal.returns-clause-base
returns-clause-base c = rw (returns-clause-next c) (read_moves c.args.self.now c.min-count.result)
