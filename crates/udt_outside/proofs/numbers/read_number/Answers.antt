use Rattle.std.proofs.Common.{◌≡◌, ◌∙◌, sym, ap, true, arith}
use Rattle.std.specs.Str.Parse.{ParsesUnsigned}
use Rattle.udt_model.specs.Words.{is_number, if_within}
use Rattle.udt_outside.proofs.Numerals.{spells_none, spells, is_text, parses, too_great}
use Rattle.udt_outside.proofs.numbers.read_number.Goals as goal

-- the word is no number
pub returns-then-not-is_number-clause-value : goal.returns-then-not-is_number-clause-value
returns-then-not-is_number-clause-value c = sym (spells_none _ _ _ (sym c.if-not-is_number.ensures))

-- the word of a number is text
pub returns-in_default-clause-value : goal.returns-in_default-clause-value
returns-in_default-clause-value c = absurd (c.in_default.ensures.cases.0 (is_text c.args.text.now (sym c.if-not-is_number.ensures)))

-- the number is greater than any that fits
pub returns-in_default-parse-clause-value : goal.returns-in_default-parse-clause-value
returns-in_default-parse-clause-value c =
    let same = c.in-Ok.ensures.cases.0 in
    let parsed : ParsesUnsigned 64 10 c.args.text.now c.parse.result = rw same at c.parse.ensures.value.0 in
    sym (too_great c.args.least c.args.most c.args.text.now _ c.parse.result (omega (arith, c.ranges.most)) (sym c.if-not-is_number.ensures) parsed c.in_default-parse.is)

-- what was parsed is the number of the word
pub returns-clause-value : goal.returns-clause-value
returns-clause-value c =
    let same = c.in-Ok.ensures.cases.0 in
    let parsed : ParsesUnsigned 64 10 c.args.text.now c.parse.result = rw same at c.parse.ensures.value.0 in
    let number : is_number c.args.text.now ≡ true = sym c.if-not-is_number.ensures in
    c.if_within.ensures.value
    ∙ ap (if_within c.args.least c.args.most) (parses c.args.text.now _ c.parse.result number parsed c.in-Ok-parse.is)
    ∙ sym (spells c.args.least c.args.most c.args.text.now number)
