use Rattle.udt_routes.proofs.SortedLemmas.{found_isnt_absent}
use Rattle.udt_routes.proofs.sorted.gap_of.Goals as goal

-- the key isn't there
pub returns-in-Ok : goal.returns-in-Ok
returns-in-Ok g c = absurd (found_isnt_absent g.met.K.Ord.total _ c.requires.order _ _ c.in-Ok.ensures.found c.requires.absent)
