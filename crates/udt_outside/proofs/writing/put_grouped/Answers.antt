use Rattle.udt_outside.proofs.WritingLemmas.{in_turn}
use Rattle.udt_outside.proofs.writing.put_grouped.Goals as goal

-- the groups one after another
pub returns-clause-text : goal.returns-clause-text
returns-clause-text c =
    let first = c.put_group-at.ensures.text in
    let second = in_turn _ _ _ _ _ _ _ _ (rw c.group_at.ensures at first) c.put_next_group-at.ensures.text in
    let third = in_turn _ _ _ _ _ _ _ _ second c.put_next_group-at-2.ensures.text in
    let fourth = in_turn _ _ _ _ _ _ _ _ third c.put_next_group-at-3.ensures.text in
    let fifth = in_turn _ _ _ _ _ _ _ _ fourth c.put_next_group-at-4.ensures.text in
    let sixth = in_turn _ _ _ _ _ _ _ _ fifth c.put_next_group-at-5.ensures.text in
    let seventh = in_turn _ _ _ _ _ _ _ _ sixth c.put_next_group-at-6.ensures.text in
    in_turn _ _ _ _ _ _ _ _ seventh c.put_next_group.ensures.text
