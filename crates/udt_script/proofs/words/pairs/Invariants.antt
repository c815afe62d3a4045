use Rattle.std.proofs.Common.{◌≡◌, ◌++◌, length, option_map}
use Rattle.udt_model.specs.Words.{pairs_of}
use Rattle.udt_script.proofs.words.pairs.Given as goal

abbrev pub invariant-loop-rest : goal.invariant-loop-rest
invariant-loop-rest l = pairs_of l.word ≡ option_map (λ more. l.bytes.items ++ more) (pairs_of l.rest)

abbrev pub decreases-loop-rest : goal.decreases-loop-rest
decreases-loop-rest l = length l.rest
