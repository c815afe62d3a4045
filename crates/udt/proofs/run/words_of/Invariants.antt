use Rattle.std.proofs.Common.{◌≡◌, ◌++◌, drop}
use Rattle.std.specs.Vec.Iter.{into_iter_items}
use Rattle.udt.proofs.run.words_of.Given as goal

-- the words so far, and then the arguments that are left, are the words
abbrev pub invariant-loop-word : goal.invariant-loop-word
invariant-loop-word l = drop 1 (into_iter_items l.fn.args) ≡ l.words.items ++ into_iter_items l.word-iterator
