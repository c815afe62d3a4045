use Rattle.udt_timing.proofs.Rates.{kept_are_near}
use Rattle.udt_timing.proofs.laws.kept_are_near.Goals as goal

pub returns : goal.returns
returns c = kept_are_near
