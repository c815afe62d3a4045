use Rattle.std.proofs.Common.{◌≤◌, ◌-◌, ◌+◌, vec_len}
use Rattle.udt_model.specs.declared.limits.TheConstants.{LONGEST_SCRIPT}
use Rattle.udt_tool.proofs.Streaming.{ReadTo}
use Rattle.udt_tool.proofs.streams.read_all.Given as goal

abbrev pub invariant-loop-input : goal.invariant-loop-input
invariant-loop-input g l = record {
  read : ReadTo (g.S.Source.left l.initial.input) (g.S.Source.left l.input) l.script.items;
  faults : g.S.Source.faults l.initial.input ≤ g.S.Source.faults l.input;
}

abbrev pub decreases-loop-input : goal.decreases-loop-input
decreases-loop-input g l = LONGEST_SCRIPT + 1 - vec_len l.script
