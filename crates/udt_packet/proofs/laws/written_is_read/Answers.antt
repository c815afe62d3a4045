use Rattle.udt_model.proofs.WireLemmas.{read-spelling}
use Rattle.udt_packet.proofs.laws.written_is_read.Goals as goal

pub returns : goal.returns
returns c = read-spelling
