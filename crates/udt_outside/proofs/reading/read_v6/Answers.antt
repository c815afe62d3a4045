use Rattle.std.proofs.Common.{sym, ◌∙◌}
use Rattle.udt_outside.proofs.GroupLemmas.{v6_complete, v6_none, no_dotted_v6}
use Rattle.udt_outside.proofs.reading.read_v6.Goals as goal

-- a V6 text has no dot
pub returns-then-contains : goal.returns-then-contains
returns-then-contains c = rw (no_dotted_v6 _ (sym c.contains.ensures.value ∙ c.if-contains.true))

-- std reads the texts of its grammar, which without a dot are those of the definition
pub returns-in-Ok : goal.returns-in-Ok
returns-in-Ok c =
    rw (v6_complete _ _ (sym c.contains.ensures.value ∙ c.if-contains.false) c.in-Ok.ensures, c.joined_halves.ensures, c.segments.ensures)

pub returns-in-Err : goal.returns-in-Err
returns-in-Err c = rw (v6_none _ (λ segments. c.in-Err.ensures (record { segments = segments })))
