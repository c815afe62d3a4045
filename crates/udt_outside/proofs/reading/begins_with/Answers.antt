use Rattle.std.proofs.Common.{◌<◌, length, sym, ◌∙◌, arith, eqb-true}
use Rattle.std.proofs.lemmas.Bool.Decides.{nat_tests}
use Rattle.udt_outside.proofs.ReadingLemmas.{begins_with_empty, begins_with_is}
use Rattle.udt_outside.proofs.reading.begins_with.Goals as goal

pub returns-then-is_empty-clause-value : goal.returns-then-is_empty-clause-value
returns-then-is_empty-clause-value c =
    sym (begins_with_empty c.args.byte c.args.text.now (eqb-true _ 0 (sym c.is_empty.ensures ∙ c.if-is_empty.true)))

pub returns-clause-value : goal.returns-clause-value
returns-clause-value c =
    let some : 0 < length c.args.text.now = grind (arith, nat_tests) in
    sym (begins_with_is c.args.byte c.args.text.now some)
