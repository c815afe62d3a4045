-- The law is proved beside the lemmas on which it stands.
use Rattle.udt_laws.proofs.pairs.PairPrefix.{pair_prefix}
use Rattle.udt_laws.proofs.pair_prefix.Goals as goal

pub returns : goal.returns
returns g c = pair_prefix g.C.Control.ways
