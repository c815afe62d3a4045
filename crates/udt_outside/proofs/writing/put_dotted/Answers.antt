use Rattle.udt_outside.proofs.WritingLemmas.{in_turn}
use Rattle.udt_outside.proofs.writing.put_dotted.Goals as goal

-- the numbers and the dots one after another
pub returns-clause-text : goal.returns-clause-text
returns-clause-text c =
    let second = in_turn _ _ _ _ _ _ _ _ c.put-at.ensures c.put_octet-at-2.ensures.text in
    let third = in_turn _ _ _ _ _ _ _ _ c.put-at-2.ensures c.put_octet-at-3.ensures.text in
    let fourth = in_turn _ _ _ _ _ _ _ _ c.put-at-3.ensures c.put_octet.ensures.text in
    let two = in_turn _ _ _ _ _ _ _ _ c.put_octet-at.ensures.text second in
    let three = in_turn _ _ _ _ _ _ _ _ two third in
    in_turn _ _ _ _ _ _ _ _ three fourth
