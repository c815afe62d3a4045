use Rattle.udt_routes.proofs.EachOnce.{each_once}
use Rattle.udt_routes.proofs.drawer.draws_once.Goals as goal

pub returns : goal.returns
returns c = each_once
