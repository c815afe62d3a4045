use Rattle.udt_outside.proofs.WritingLemmas.{in_turn}
use Rattle.udt_outside.proofs.writing.put_next_group.Goals as goal

-- the colon, and then the group
pub returns-clause-text : goal.returns-clause-text
returns-clause-text c = rw c.group_at.ensures at (in_turn _ _ _ _ _ _ _ _ c.put-at.ensures c.put_group.ensures.text)
