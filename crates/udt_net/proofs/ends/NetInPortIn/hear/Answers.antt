use Rattle.std.proofs.Common.{sym, subst}
use Rattle.udt_turn.specs.Words.{opening_of}
use Rattle.udt_net.specs.Networks.{IsSilent}
use Rattle.udt_net.proofs.Speeches.{pass_hears_said}
use Rattle.udt_net.proofs.ends.NetInPortIn.hear.Goals as goal

-- whatever was heard, the pass has seen a legal history of a network that was silent at first
pub returns-in-Ok-Datagram-clause-said_before : goal.returns-in-Ok-Datagram-clause-said_before
returns-in-Ok-Datagram-clause-said_before g c =
    pass_hears_said _ _ c.hear.ensures.own (subst (λ t. IsSilent (opening_of t)) (sym c.deref.ensures) c.args.self.now.silent_first) c.hear.ensures.sound

pub returns-in-Ok-Quiet-clause-said_before : goal.returns-in-Ok-Quiet-clause-said_before
returns-in-Ok-Quiet-clause-said_before g c =
    pass_hears_said _ _ c.hear.ensures.own (subst (λ t. IsSilent (opening_of t)) (sym c.deref.ensures) c.args.self.now.silent_first) c.hear.ensures.sound

pub returns-in-Err-clause-said_before : goal.returns-in-Err-clause-said_before
returns-in-Err-clause-said_before g c =
    pass_hears_said _ _ c.hear.ensures.own (subst (λ t. IsSilent (opening_of t)) (sym c.deref.ensures) c.args.self.now.silent_first) c.hear.ensures.sound
