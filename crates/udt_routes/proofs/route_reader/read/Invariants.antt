use Rattle.std.proofs.Common.{◌≡◌}
use Rattle.left_right.specs.Sides.{view}
use Rattle.udt_routes.proofs.route_reader.read.Given as goal

-- nothing more is seen while no reading begins
abbrev pub invariant-loop : goal.invariant-loop
invariant-loop g l = view l.reader.place ≡ view l.fn.reader.place
