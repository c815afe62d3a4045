use Rattle.udt_cell.proofs.HeadlineLemmas.{seen_in_step}
use Rattle.udt_cell.proofs.laws.prefix.Goals as goal

-- the law of all histories, at those that the passes have seen
pub returns : goal.returns
returns g c = seen_in_step g.C.Control.ways _ _ c.prefix.ensures
