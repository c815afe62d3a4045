use Rattle.std.proofs.Common.{◌≡◌, ◌≤◌}
use Rattle.udt_bench.proofs.loss.arrive.Given as goal

abbrev pub invariant-loop-lost : goal.invariant-loop-lost
invariant-loop-lost l = record {
  by : l.offset ≤ l.end;
  room : l.rcv.window ≡ l.fn.rcv.window;
  counted : l.calls ≤ l._lost;
}
