-- The law is proved beside the lemmas on which it stands.
use Rattle.udt_laws.proofs.sent_blocks.SocketsSend.{emitted_blocks}
use Rattle.udt_laws.proofs.emitted_blocks.Goals as goal

pub returns : goal.returns
returns g c = emitted_blocks g.C.Control.ways
