use Rattle.std.proofs.Common.{◌≡◌, vec_len}
use Rattle.udt_model.specs.Generated.{counted_bytes}
use Rattle.udt_world.proofs.generated.pattern.Given as goal

abbrev pub invariant-loop-i : goal.invariant-loop-i
invariant-loop-i l = record {
  value : l.bytes.items ≡ counted_bytes 0 l.i;
  length : vec_len l.bytes ≡ l.i;
}
