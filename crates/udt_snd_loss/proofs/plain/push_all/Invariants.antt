use Rattle.std.proofs.Common.{◌≡◌, ◌++◌}
use Rattle.std.specs.List.{range_with_len}
use Rattle.udt_snd_loss.proofs.plain.push_all.Given as goal

-- the offsets of the range are pushed one by one
abbrev pub invariant-loop-k : goal.invariant-loop-k
invariant-loop-k l = l.lost.items ≡ l.fn.lost.items ++ range_with_len l.from l.k
