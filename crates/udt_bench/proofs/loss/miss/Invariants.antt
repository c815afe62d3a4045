use Rattle.std.proofs.Common.{◌≡◌, ◌≤◌}
use Rattle.udt_rcv_loss.specs.Absent.{AllBelow, AllFrom}
use Rattle.udt_bench.proofs.loss.miss.Given as goal

-- all that is listed lies in the window, below the next offset
abbrev pub invariant-loop-lost : goal.invariant-loop-lost
invariant-loop-lost l = record {
  from : l.base ≤ l.offset;
  by : l.offset ≤ l.end;
  below : AllBelow l.offset l.rcv.missing;
  first : AllFrom l.base l.rcv.missing;
  room : l.rcv.window ≡ l.window;
  counted : l.calls ≤ l._lost;
}
