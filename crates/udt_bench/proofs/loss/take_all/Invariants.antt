use Rattle.std.proofs.Common.{◌≡◌, ◌*◌, ◌≤◌}
use Rattle.udt_bench.proofs.loss.take_all.Given as goal

abbrev pub invariant-loop-sent : goal.invariant-loop-sent
invariant-loop-sent l = record {
  floor : l.snd.floor ≡ l.fn.snd.floor;
  room : l.snd.window ≡ l.fn.snd.window;
  counted : l.calls ≤ 2 * l._sent;
}
