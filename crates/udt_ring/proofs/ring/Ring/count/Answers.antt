use Rattle.std.proofs.Common.{arith}
use Rattle.udt_ring.proofs.RingLemmas.{count_is}
use Rattle.udt_ring.proofs.ring.Ring.count.Goals as goal

-- there are as many parts as places
pub returns-clause-value : goal.returns-clause-value
returns-clause-value g c =
    rw (← c.self.view_is) (omega (arith, count_is c.self.inside c.self.invariant, c.len.ensures, c.self.inside.places.ok.0))
