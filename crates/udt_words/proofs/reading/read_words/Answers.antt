use Rattle.std.proofs.Common.{ap, sym, Err}
use Rattle.udt_words.proofs.Refusals.{handed_on, no_fourth}
use Rattle.udt_words.proofs.reading.read_words.Goals as goal

-- there are words that no line has a place for
pub returns-in_err-given-clause-usage : goal.returns-in_err-given-clause-usage
returns-in_err-given-clause-usage c = λ usage.
    rw (sym c.in-Some.ensures.value)
    (no_fourth c.in-Some.command _ (c.in_err-given.ensures.usage (ap Err (handed_on c.from_residual.result _ c.from_residual.ensures.1 usage))))
