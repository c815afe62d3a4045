use Rattle.std.proofs.Common.{◌<◌, arith}
use Rattle.udt_tool.proofs.Streaming.{gave_more, some_of_more}
use Rattle.udt_tool.proofs.streams.read_piece.Goals as goal

-- the piece that was lost for want of memory was read
pub returns-in_default-extend_from_slice-clause-err : goal.returns-in_default-extend_from_slice-clause-err
returns-in_default-extend_from_slice-clause-err g c =
    let some : 0 < c.in-Ok.n = omega (arith, c.if-n-eq0.false) in
    some_of_more _ _ (gave_more (g.S.Source.left c.args.input.now) (g.S.Source.left c.read.new.self) c.read.new.into c.in-Ok.n some c.in-Ok.ensures.ok)
