-- The law is proved beside the lemmas on which it stands.
use Rattle.udt_laws.proofs.acked_has_arrived.AckedHasArrived.{pair-arrived}
use Rattle.udt_laws.proofs.pair_arrived.Goals as goal

pub returns : goal.returns
returns g c = pair-arrived g.C.Control.ways
