-- The law is proved beside the lemmas on which it stands.
use Rattle.udt_laws.proofs.adoption.SocketsInStep.{prefix}
use Rattle.udt_laws.proofs.prefix.Goals as goal

pub returns : goal.returns
returns g c = prefix g.C.Control.ways
