-- The law is proved beside the lemmas on which it stands.
use Rattle.udt_laws.proofs.adoption.MutualAdoption.{mutual_adoption}
use Rattle.udt_laws.proofs.mutual_adoption.Goals as goal

pub returns : goal.returns
returns g c = mutual_adoption g.C.Control.ways
