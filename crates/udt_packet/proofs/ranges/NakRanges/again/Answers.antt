-- The words spell the ranges, so no more bytes do than there are.
use Rattle.std.proofs.Common.{arith}
use Rattle.udt_packet.proofs.RangeBytes.{ranges-fit}
use Rattle.udt_packet.proofs.ranges.NakRanges.again.Goals as goal

pub returns-clause-bound : goal.returns-clause-bound
returns-clause-bound c = omega (arith, ranges-fit c.self.inside.rest.now, c.self.told)
