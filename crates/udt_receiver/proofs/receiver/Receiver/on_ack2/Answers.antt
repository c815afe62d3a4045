use Rattle.std.proofs.Common.{refl, ◌∙◌}
use Rattle.udt_model.specs.ReceiveReports.{after_ack2}
use Rattle.udt_timing.proofs.LastOnes.{last_under-none, without_last_under-none}
use Rattle.udt_receiver.proofs.receiver.Receiver.on_ack2.Goals as goal

-- no ACK has the number, and the history stays
pub returns-in_default-clause-next : goal.returns-in_default-clause-next
unfolding after_ack2
returns-in_default-clause-next c =
    let history = c.self.inside.history in
    let none = c.in_default.ensures.none.0 refl in
    let stays = c.take.ensures.next ∙ without_last_under-none c.args.number history none in
    rw (← c.self.view_is, last_under-none c.args.number history none, stays) refl
