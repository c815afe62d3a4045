use Rattle.udt_net.specs.Ends.{SameOut}
use Rattle.udt_net.proofs.tests.say_numbers.Given as goal

-- the end stays one of its network
abbrev pub invariant-loop-number : goal.invariant-loop-number
invariant-loop-number g l = SameOut l.initial.end l.end
