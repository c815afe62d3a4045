use Rattle.udt_outside.proofs.ReadingLemmas.{v4_complete, v4_none}
use Rattle.udt_outside.proofs.reading.read_v4.Goals as goal

-- std reads the texts of its grammar, which are those of the definition
pub returns-in-Ok : goal.returns-in-Ok
returns-in-Ok c = rw (v4_complete _ _ c.in-Ok.ensures, c.joined_bytes.ensures, c.octets.ensures)

pub returns-in-Err : goal.returns-in-Err
returns-in-Err c = rw (v4_none _ (λ bytes. c.in-Err.ensures (record { octets = bytes })))
