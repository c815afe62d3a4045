-- The law is proved beside the lemmas on which it stands.
use Rattle.udt_laws.proofs.sent_blocks.SocketsSend.{named}
use Rattle.udt_laws.proofs.named.Goals as goal

pub returns : goal.returns
returns g c = named g.C.Control.ways
