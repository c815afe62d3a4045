-- The least of one side and the listing, and then with the other side.
use Rattle.udt_queues.proofs.Listed.{least_both}
use Rattle.udt_queues.proofs.tree.least_of_three.Goals as goal

pub returns : goal.returns
returns c = least_both _ _ _ _ _ c.least_with-first.ensures c.least_with.ensures
