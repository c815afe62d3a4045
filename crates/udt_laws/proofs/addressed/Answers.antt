-- The law is proved beside the lemmas on which it stands.
use Rattle.udt_laws.proofs.sent_blocks.SocketsSend.{addressed}
use Rattle.udt_laws.proofs.addressed.Goals as goal

pub returns : goal.returns
returns g c = addressed g.C.Control.ways
