use Rattle.udt_outside.proofs.WritingLemmas.{in_turn}
use Rattle.udt_outside.proofs.writing.put_port.Goals as goal

-- the colon, and then the digits
pub returns-clause-text : goal.returns-clause-text
returns-clause-text c =
    let digits = rw c.format.ensures.text at rw c.as_bytes.ensures.value at c.put.ensures in
    in_turn _ _ _ _ _ _ _ _ c.put-at.ensures digits
