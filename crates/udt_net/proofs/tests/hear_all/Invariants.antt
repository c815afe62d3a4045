use Rattle.udt_net.specs.Ends.{SameIn}
use Rattle.udt_net.proofs.tests.hear_all.Given as goal

-- the end stays one of its network
abbrev pub invariant-loop : goal.invariant-loop
invariant-loop g l = SameIn l.initial.end l.end
