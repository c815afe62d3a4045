use Rattle.udt_words.proofs.Refusals.{no_hyphen}
use Rattle.udt_words.proofs.laws.hyphens_are_refused.Goals as goal

pub returns : goal.returns
returns c = no_hyphen
