use Rattle.std.proofs.Common.{◌≡◌, ◌*◌, ◌^◌, ◌≤◌, []}
use Rattle.udt_bench.proofs.loss.measure_rcv.Given as goal

-- each window begins with an empty list
abbrev pub invariant-loop-round : goal.invariant-loop-round
invariant-loop-round g l = record {
  room : l.rcv.window ≡ l.window;
  empty : l.rcv.missing ≡ [];
  words : 364 ≤ l.into.words;
  within : l.base ≤ l._round * 2 ^ 32;
  counted : l.calls ≤ l._round * 2 ^ 36;
}
