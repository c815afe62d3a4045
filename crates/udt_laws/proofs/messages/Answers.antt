-- The law is proved beside the lemmas on which it stands.
use Rattle.udt_laws.proofs.adoption.SocketsInStep.{messages}
use Rattle.udt_laws.proofs.messages.Goals as goal

pub returns : goal.returns
returns g c = messages g.C.Control.ways
