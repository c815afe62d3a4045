use Rattle.udt_timing.proofs.Medians.{median_is_ninth}
use Rattle.udt_timing.proofs.laws.median_is_ninth.Goals as goal

pub returns : goal.returns
returns c = median_is_ninth
