-- The power is that of the bits to spare.
use Rattle.udt_rate.proofs.SpareBits.{adds_at_most, adds_at_least}
use Rattle.udt_rate.proofs.formulas.brought.Goals as goal

pub returns-clause-most : goal.returns-clause-most
returns-clause-most c =
    rw (c.least_power.ensures.value, c.from.ensures, c.from-2.ensures, c.from-3.ensures)
    (adds_at_most c.args.spare c.args.packet c.requires.some c.requires.packet)

pub returns-clause-least : goal.returns-clause-least
returns-clause-least c =
    rw (c.least_power.ensures.value, c.from.ensures, c.from-2.ensures, c.from-3.ensures)
    (adds_at_least c.args.spare c.args.packet c.requires.packet)
