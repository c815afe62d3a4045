use Rattle.std.proofs.Common.{sym, subst}
use Rattle.udt_turn.specs.Words.{opening_of}
use Rattle.udt_net.specs.Networks.{IsSilent}
use Rattle.udt_net.proofs.Speeches.{pass_hears_said}
use Rattle.udt_net.proofs.ends.NetOutPortOut.say.Goals as goal

-- whether it was said or not, the pass has seen a legal history of a network that was silent at first
pub returns-in-Ok-clause-said_before : goal.returns-in-Ok-clause-said_before
returns-in-Ok-clause-said_before g c =
    pass_hears_said _ _ c.say.ensures.own (subst (λ t. IsSilent (opening_of t)) (sym c.deref.ensures) c.args.self.now.silent_first) c.say.ensures.sound

pub returns-in-Err-clause-said_before : goal.returns-in-Err-clause-said_before
returns-in-Err-clause-said_before g c =
    pass_hears_said _ _ c.say.ensures.own (subst (λ t. IsSilent (opening_of t)) (sym c.deref.ensures) c.args.self.now.silent_first) c.say.ensures.sound
