use Rattle.udt_packet.proofs.ReadRanges.{in_range}
use Rattle.udt_packet.proofs.laws.read_is_in_range.Goals as goal

pub returns : goal.returns
returns c = in_range
