-- The law is proved beside the lemmas on which it stands.
use Rattle.udt_laws.proofs.delivered_is_carried.SocketsDeliver.{one_history}
use Rattle.udt_laws.proofs.one_history.Goals as goal

pub returns : goal.returns
returns g c = one_history g.C.Control.ways
