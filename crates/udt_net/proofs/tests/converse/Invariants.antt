use Rattle.udt_net.specs.Ends.{SameIn, SameOut}
use Rattle.udt_net.proofs.tests.converse.Given as goal

-- both ends stay those of their network
abbrev pub invariant-loop : goal.invariant-loop
invariant-loop g l = SameIn l.initial.port_in l.port_in × SameOut l.initial.port_out l.port_out
