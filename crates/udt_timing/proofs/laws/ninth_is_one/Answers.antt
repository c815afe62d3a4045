use Rattle.udt_timing.proofs.Medians.{ninth_unique}
use Rattle.udt_timing.proofs.laws.ninth_is_one.Goals as goal

pub returns : goal.returns
returns c = ninth_unique
