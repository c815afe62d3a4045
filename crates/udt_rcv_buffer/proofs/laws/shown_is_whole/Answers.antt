use Rattle.udt_rcv_buffer.proofs.WholeLemmas as whole
use Rattle.udt_rcv_buffer.proofs.laws.shown_is_whole.Goals as goal

pub returns : goal.returns
returns c = whole.shown_is_whole
