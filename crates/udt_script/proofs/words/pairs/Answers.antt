use Rattle.std.proofs.Common.{◌≡◌, ◌∙◌, ◌++◌, sym, ap, arith, option_map, Some, length, ◌<◌, append-nil}
use Rattle.std.proofs.lemmas.Grind.{common_steps}
use Rattle.udt_script.proofs.HexPairs.{no_high, no_low, no_digits, one_digit, one_more}
use Rattle.udt_script.proofs.words.pairs.Goals as goal

-- the first of two is no digit
pub returns-in_default : goal.returns-in_default
returns-in_default c = sym (c.loop-rest.invariant ∙ ap (option_map (λ m. c.loop-rest.bytes.items ++ m)) (no_high c.loop-rest.rest.now c.loop-rest-test.true (sym c.in_default.ensures.value)))

-- the second one is none
pub returns-in_default-nibble : goal.returns-in_default-nibble
returns-in_default-nibble c = sym (c.loop-rest.invariant ∙ ap (option_map (λ m. c.loop-rest.bytes.items ++ m)) (no_low c.loop-rest.rest.now _ c.loop-rest-test.true (sym c.in-Some.ensures.value) (sym c.in_default-nibble.ensures.value)))

-- a byte was spelled
pub loop-rest-preserved : goal.loop-rest-preserved
loop-rest-preserved c =
    let more = one_more c.args.word.now c.loop-rest.bytes.items c.loop-rest.rest.now _ _ c.loop-rest.invariant c.loop-rest-test.true (sym c.in-Some.ensures.value) (sym c.in-Some-nibble.ensures.value) in
    let items = c.in_ok-push.ensures.items in
    grind (arith, common_steps, more, items)

-- all digits were read
pub returns-then-is_empty : goal.returns-then-is_empty
returns-then-is_empty c =
    let empty : length c.loop-rest.rest.now ≡ 0 = grind (arith, common_steps) in
    sym (c.loop-rest.invariant ∙ ap (option_map (λ m. c.loop-rest.bytes.items ++ m)) (no_digits c.loop-rest.rest.now empty) ∙ ap Some (append-nil c.loop-rest.bytes.items))

-- one digit is left over
pub returns : goal.returns
returns c =
    let some : 0 < length c.loop-rest.rest.now = grind (arith, common_steps) in
    sym (c.loop-rest.invariant ∙ ap (option_map (λ m. c.loop-rest.bytes.items ++ m)) (one_digit c.loop-rest.rest.now some c.loop-rest-test.false))
