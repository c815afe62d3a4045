use Rattle.udt_rcv_buffer.proofs.MoveLemmas.{place_moves, read_moves, message_moves, skip_moves}
use Rattle.udt_rcv_buffer.proofs.laws.base_moves.Goals as goal

pub returns-clause-place : goal.returns-clause-place
returns-clause-place c = place_moves

pub returns-clause-read : goal.returns-clause-read
returns-clause-read c = read_moves

pub returns-clause-message : goal.returns-clause-message
returns-clause-message c = message_moves

pub returns-clause-skip : goal.returns-clause-skip
returns-clause-skip c = skip_moves
