use Rattle.std.proofs.Common.{◌∙◌, sym, true, false}
use Rattle.udt_words.proofs.Refusals.{named, options, holds_anyway}
use Rattle.udt_words.proofs.commands.called.Goals as goal

-- a word begins with a hyphen
pub returns-then-has_option-clause-value : goal.returns-then-has_option-clause-value
returns-then-has_option-clause-value c =
    sym (named c.args.words.now c.name-item.result true c.in-len1-up.len_at_least c.name-item.is (sym c.if-has_option.true ∙ c.has_option.ensures))

-- none does
pub returns-clause-value : goal.returns-clause-value
returns-clause-value c =
    c.command_of.ensures
    ∙ sym (named c.args.words.now c.name-item.result false c.in-len1-up.len_at_least c.name-item.is (sym c.if-has_option.false ∙ c.has_option.ensures))

pub returns-clause-plain : goal.returns-clause-plain
returns-clause-plain c = holds_anyway c.command_of.result (options c.args.words.now false (sym c.if-has_option.false ∙ c.has_option.ensures))
