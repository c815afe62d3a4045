use Rattle.udt_routes.proofs.Origins.{reads_made}
use Rattle.udt_routes.proofs.route_reader.RouteReader.route.Goals as goal

-- what is found, a change put there
pub returns-clause-some : goal.returns-clause-some
returns-clause-some g c = reads_made _ _ c.args.want c.replace_with.result c.self.invariant c.replace_with.ensures
