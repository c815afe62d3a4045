use Rattle.std.proofs.Common.{sym, subst}
use Rattle.udt_turn.specs.Words.{opening_of}
use Rattle.udt_net.specs.Networks.{IsSilent}
use Rattle.udt_net.specs.MemoryNets.{IsJoinedBy}
use Rattle.udt_net.proofs.Speeches.{pass_hears_said}
use Rattle.udt_net.proofs.ports.MemoryNetPorts.close.Goals as goal

-- the pass that was joined into has seen a legal history of a network that was silent at first
pub returns-clause-said_before : goal.returns-clause-said_before
returns-clause-said_before c =
    pass_hears_said _ _ c.join-2.ensures.own (subst (λ t. IsSilent (opening_of t)) (sym c.deref-2.ensures) c.args.self.now.silent_first) c.join-2.ensures.sound

-- each join tells whose items are whose
pub returns-clause-joins : goal.returns-clause-joins
returns-clause-joins c =
    let one = c.join.ensures in
    let other = c.join-2.ensures in
    record {
      middle = c.join.new.into;
      one = subst (λ p. IsJoinedBy p c.args.self.now.pass c.join.new.into) c.into_pass.ensures
          (record { names = one.names; made = one.made; from_before = one.from_into; from_gone = one.from_gone; of_before = one.of_into; of_gone = one.of_gone });
      other = subst (λ p. IsJoinedBy p c.join.new.into c.join-2.new.into) c.into_pass-2.ensures
          (record { names = other.names; made = other.made; from_before = other.from_into; from_gone = other.from_gone; of_before = other.of_into; of_gone = other.of_gone });
      sound = other.sound;
    }
