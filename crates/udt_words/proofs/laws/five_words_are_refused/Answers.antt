use Rattle.udt_words.proofs.Refusals.{no_fifth}
use Rattle.udt_words.proofs.laws.five_words_are_refused.Goals as goal

pub returns : goal.returns
returns c = no_fifth
