use Rattle.std.proofs.Common.{◌≡◌, ◌≤◌}
use Rattle.udt_bench.proofs.loss.resend.Given as goal

abbrev pub invariant-loop-lost : goal.invariant-loop-lost
invariant-loop-lost l = record {
  from : l.base ≤ l.offset;
  by : l.offset ≤ l.end;
  floor : l.snd.floor ≡ l.base;
  room : l.snd.window ≡ l.window;
  counted : l.calls ≤ l._lost;
}
