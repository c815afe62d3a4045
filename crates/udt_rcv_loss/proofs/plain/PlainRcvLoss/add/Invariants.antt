use Rattle.std.proofs.Common.{◌≡◌, ◌++◌, map}
use Rattle.std.specs.List.{range_with_len}
use Rattle.udt_rcv_loss.proofs.PlainLemmas.{listed}
use Rattle.udt_rcv_loss.proofs.plain.PlainRcvLoss.add.Given as goal

-- the packets of the range are pushed one by one
abbrev pub invariant-loop-k : goal.invariant-loop-k
invariant-loop-k l = record {
  items : l.self-inside.missing.items ≡ l.initial.self-inside.missing.items ++ map (listed l.now) (range_with_len l.from l.k);
  window : l.self-inside.window ≡ l.initial.self-inside.window;
}
