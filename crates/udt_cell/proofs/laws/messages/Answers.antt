use Rattle.udt_cell.proofs.HeadlineLemmas.{seen_messages}
use Rattle.udt_cell.proofs.laws.messages.Goals as goal

-- the law of all histories, at those that the passes have seen
pub returns : goal.returns
returns g c = seen_messages g.C.Control.ways _ _ c.messages.ensures
