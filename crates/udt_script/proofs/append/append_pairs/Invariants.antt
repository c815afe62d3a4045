use Rattle.std.proofs.Common.{◌≡◌, ◌++◌, take}
use Rattle.udt_model.specs.Words.{hex_pairs}
use Rattle.udt_script.proofs.append.append_pairs.Given as goal

abbrev pub invariant-loop-byte : goal.invariant-loop-byte
invariant-loop-byte l = l.out.items ≡ l.initial.out.items ++ hex_pairs (take l.byte-index l.bytes)
