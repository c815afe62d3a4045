-- The law is proved beside the lemmas on which it stands.
use Rattle.udt_laws.proofs.pairs.PairIsHonest.{pair_honest}
use Rattle.udt_laws.proofs.pair_honest.Goals as goal

pub returns : goal.returns
returns g c = pair_honest g.C.Control.ways
