use Rattle.udt_net.specs.Ends.{SameIn}
use Rattle.udt_net.proofs.tests.hear_numbers.Given as goal

-- the end stays one of its network
abbrev pub invariant-loop-number : goal.invariant-loop-number
invariant-loop-number g l = SameIn l.initial.end l.end
