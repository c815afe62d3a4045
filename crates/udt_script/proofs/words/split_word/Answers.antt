use Rattle.std.proofs.Common.{◌≡◌, sym, arith, take, drop, ◌∷◌}
use Rattle.std.proofs.lemmas.Grind.{common_steps}
use Rattle.udt_model.specs.Words.{words_of}
use Rattle.udt_script.proofs.Splits.{one_word, first_word}
use Rattle.udt_script.proofs.words.split_word.Goals as goal

-- the line has no space
pub returns-in_default-clause-none : goal.returns-in_default-clause-none
returns-in_default-clause-none c = one_word c.args.line.now (sym c.in_default.ensures)

-- its first space was found
pub returns-clause-some : goal.returns-clause-some
returns-clause-some c =
    let words : words_of c.args.line.now ≡ take c.in-Some.at c.args.line.now ∷ words_of (drop 1 (drop c.in-Some.at c.args.line.now)) = first_word c.args.line.now c.in-Some.at (sym c.in-Some.ensures) in
    let front = c.split_at.ensures.front in
    let back = c.split_at.ensures.back in
    grind (arith, common_steps, words, front, back)
