-- A slot was made in each turn, and there is room for the others.
use Rattle.std.proofs.Common.{◌≡◌, ◌≤◌, length}
use Rattle.std.specs.Vec.{vec_capacity}
use Rattle.udt_core.specs.declared.outs.TheConstants.{MOST_OUTS}
use Rattle.udt_core.proofs.outs.Outs.new.Given as goal

abbrev pub invariant-loop : goal.invariant-loop
invariant-loop l = record {
  made : length l.slots.items ≡ l.counter;
  room : MOST_OUTS ≤ vec_capacity l.slots;
}
