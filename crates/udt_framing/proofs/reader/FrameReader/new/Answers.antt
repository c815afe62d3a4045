use Rattle.udt_framing.proofs.Pieces.{fed_nothing}
use Rattle.udt_framing.proofs.reader.FrameReader.new.Goals as goal

pub returns : goal.returns
returns c = fed_nothing
