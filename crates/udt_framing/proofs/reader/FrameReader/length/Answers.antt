use Rattle.std.proofs.Common.{take}
use Rattle.udt_framing.specs.Framing.{header_of}
use Rattle.udt_framing.proofs.Pieces.{was_fields, told-whole, none-told}
use Rattle.udt_framing.proofs.reader.FrameReader.length.Goals as goal

-- the header isn't whole yet
pub returns-then-self-lt-HEADER_LEN-clause-none : goal.returns-then-self-lt-HEADER_LEN-clause-none
returns-then-self-lt-HEADER_LEN-clause-none c =
    λ fed l was fits begins.
    none-told c.self.inside.len c.self.inside.seen c.self.inside.got c.self.inside.bad fed l c.if-self-lt-HEADER_LEN.true fits
    (was_fields c.args.self.now (take c.self.inside.seen (header_of c.self.inside.len)) c.self.inside.got c.self.inside.bad fed c.self.view_is was)
    begins

-- it is whole
pub returns-clause-some : goal.returns-clause-some
returns-clause-some c =
    λ fed was.
    told-whole c.self.inside.len c.self.inside.seen c.self.inside.got c.self.inside.bad fed c.self.invariant.1 c.if-self-lt-HEADER_LEN.false
    (was_fields c.args.self.now (take c.self.inside.seen (header_of c.self.inside.len)) c.self.inside.got c.self.inside.bad fed c.self.view_is was)
