use Rattle.udt_tool.proofs.Streaming.{read_some, read_more}
use Rattle.udt_tool.proofs.streams.read_all.Goals as goal

-- what was read before, and the last piece
pub returns-in-Err-clause-err : goal.returns-in-Err-clause-err
returns-in-Err-clause-err g c = read_some _ (g.S.Source.left c.loop-input.input) _ c.loop-input.script.items c.loop-input.invariant.read c.in-Err.ensures.err

pub returns-in-Err-clause-memory : goal.returns-in-Err-clause-memory
returns-in-Err-clause-memory g c = λ lost. read_more _ (g.S.Source.left c.loop-input.input) _ c.loop-input.script.items c.loop-input.invariant.read (c.in-Err.ensures.memory lost)
