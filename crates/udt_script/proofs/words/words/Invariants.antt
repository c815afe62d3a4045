use Rattle.std.proofs.Common.{◌≡◌, ◌++◌, map, length}
use Rattle.udt_model.specs.Words.{words_of}
use Rattle.udt_script.proofs.words.words.Given as goal

abbrev pub invariant-loop-word : goal.invariant-loop-word
invariant-loop-word l = words_of l.line ≡ map (λ word. word.now) l.words.items ++ words_of l.rest

abbrev pub decreases-loop-word : goal.decreases-loop-word
decreases-loop-word l = length l.rest
