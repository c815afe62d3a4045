-- What was read is what the definitions read, and is refused where they refuse.
use Rattle.udt_packet.proofs.Refusals as refusals
use Rattle.udt_packet.proofs.ReadRanges.{are_bytes, seen-in_range}
use Rattle.udt_packet.proofs.reading.read.Goals as goal

pub returns-clause-refused : goal.returns-clause-refused
returns-clause-refused c = refusals.refused _ _ c.packet.ensures

pub returns-clause-in_range : goal.returns-clause-in_range
returns-clause-in_range c = seen-in_range c.args.bytes.now c.packet.result (are_bytes c.args.bytes.now (λ k. (c.type_inv.bytes k).fits)) c.packet.ensures
