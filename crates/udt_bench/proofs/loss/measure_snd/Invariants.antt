use Rattle.std.proofs.Common.{◌≡◌, ◌*◌, ◌^◌, ◌≤◌}
use Rattle.udt_bench.proofs.loss.measure_snd.Given as goal

-- each window begins where the last one ended
abbrev pub invariant-loop-round : goal.invariant-loop-round
invariant-loop-round g l = record {
  floor : l.snd.floor ≡ l.base;
  room : l.snd.window ≡ l.window;
  within : l.base ≤ l._round * 2 ^ 32;
  counted : l.calls ≤ l._round * 2 ^ 36;
}
