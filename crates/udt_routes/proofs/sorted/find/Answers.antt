use Rattle.std.proofs.Common.{arith}
use Rattle.udt_routes.proofs.SortedLemmas.{value_found, value_absent}
use Rattle.udt_routes.proofs.sorted.find.Goals as goal

-- the pair there has the key, so its value is the key's
pub returns-in-Ok : goal.returns-in-Ok
returns-in-Ok g c =
    let found = value_found g.met.K.Ord.total _ c.requires _ _ c.in-Ok.ensures.found c.index.result.now in
    grind (arith, found)

-- no pair has the key
pub returns-in-Err : goal.returns-in-Err
returns-in-Err g c = grind (arith, value_absent g.met.K.Ord.total _ c.requires _ _ c.in-Err.ensures.absent)
