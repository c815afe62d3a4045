use Rattle.std.proofs.Common.{◌≤◌, ◌<◌, length, sym, arith}
use Rattle.udt_script.proofs.PairLines.{too_few, too_many}
use Rattle.udt_script.proofs.reading.pair_line.Goals as goal
use Rattle.udt_script.proofs.reading.pair_line.Goals.{in_default-via-then-words-lt5, in_default-via-else-words-lt5+else-words-lt6+else-words-lt7}

-- neither five words nor six
pub returns-in_default-clause-value : goal.returns-in_default-clause-value
returns-in_default-clause-value c =
    elim c.in_default.branch [
      | in_default-via-then-words-lt5 w ↦
          let few : length c.args.words.now < 5 = search arith in
          sym (too_few _ c.args.kind.now c.args.words.now few)
      | in_default-via-else-words-lt5+else-words-lt6+else-words-lt7 w ↦
          let many : 7 ≤ length c.args.words.now = search arith in
          sym (too_many _ c.args.kind.now c.args.words.now many)
    ]
