use Rattle.udt_cell.proofs.ItemLemmas.{follows_goes}
use Rattle.udt_cell.proofs.shared.connections.tell_withdraw.Goals as goal

-- the event goes on from what was found
pub publish-requires-clause-item : goal.publish-requires-clause-item
publish-requires-clause-item g c = follows_goes _ _ _ _ _ c.requires.item c.requires.follows
