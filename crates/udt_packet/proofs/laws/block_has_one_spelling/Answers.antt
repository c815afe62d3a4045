use Rattle.udt_packet.proofs.Spellings.{one_spelling}
use Rattle.udt_packet.proofs.laws.block_has_one_spelling.Goals as goal

pub returns : goal.returns
returns c = one_spelling
