-- The least of a listing and of others.
use Rattle.udt_queues.proofs.Listed.{least_alone, least_more}
use Rattle.udt_queues.proofs.tree.least_with.Goals as goal

pub returns-in-None : goal.returns-in-None
returns-in-None c = least_alone _ _ c.in-None.ensures.none

pub returns-in-Some : goal.returns-in-Some
returns-in-Some c = least_more _ _ _ _ c.in-Some.ensures.some c.lesser.ensures
