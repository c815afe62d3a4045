use Rattle.std.proofs.Common.{◌≡◌, ◌≤◌, length}
use Rattle.udt_routes.proofs.tests.adopts_a_pair_once_and_keeps_it_when_the_socket_leaves.Given as goal

-- no more pairs are adopted than rows were read
abbrev pub invariant-loop-own : goal.invariant-loop-own
invariant-loop-own g l = (length l.routes.adoptions ≤ l.own-index) × (l.routes.ids ≡ 8)
