use Rattle.std.proofs.Common.{◌≡◌, ◌≤◌, length}
use Rattle.udt_routes.proofs.tests.a_datagram_goes_by_its_destination_or_by_its_handshake.Given as goal

-- no more pairs are adopted than rows were read
abbrev pub invariant-loop-own : goal.invariant-loop-own
invariant-loop-own g l = (length l.routes.adoptions ≤ l.own-index) × (l.routes.ids ≡ 8)
