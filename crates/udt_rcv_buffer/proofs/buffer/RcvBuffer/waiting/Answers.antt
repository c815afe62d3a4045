use Rattle.std.proofs.Common.{sym}
use Rattle.udt_rcv_buffer.proofs.BufferLemmas.{given_le, waiting_len}
use Rattle.udt_rcv_buffer.proofs.buffer.RcvBuffer.waiting.Goals as goal

pub overflow_sub-result : goal.overflow_sub-result
overflow_sub-result c = given_le c.self.inside c.self.invariant

pub returns : goal.returns
returns c = rw (← c.self.view_is) (sym (waiting_len c.self.inside c.self.invariant))
