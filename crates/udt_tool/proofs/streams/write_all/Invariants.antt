use Rattle.std.proofs.Common.{◌≤◌, length}
use Rattle.udt_tool.proofs.Streaming.{WrittenTo}
use Rattle.udt_tool.proofs.streams.write_all.Given as goal

abbrev pub invariant-loop-rest : goal.invariant-loop-rest
invariant-loop-rest g l = record {
  written : WrittenTo (g.K.Sink.taken l.initial.out) (g.K.Sink.taken l.out) l.text l.rest;
  faults : g.K.Sink.faults l.initial.out ≤ g.K.Sink.faults l.out;
}

abbrev pub decreases-loop-rest : goal.decreases-loop-rest
decreases-loop-rest g l = length l.rest
