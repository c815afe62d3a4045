use Rattle.std.proofs.Common.{◌∙◌, ap, refl}
use Rattle.udt_model.specs.Timing.{last_under}
use Rattle.udt_timing.specs.AckHistories.{noted}
use Rattle.udt_timing.proofs.LastOnes.{last_under-pushed}
use Rattle.udt_timing.proofs.ack_history.AckWindow.note.Goals as goal

-- what was noted stands at the end
pub returns-clause-found : goal.returns-clause-found
returns-clause-found c =
    let number = c.args.number in
    ap (last_under number) c.push_back_reserved.ensures.items
    ∙ last_under-pushed number c.if-len-eq-ACK_HISTORY.self-inside.entries.items (noted number c.args.ack c.args.now) refl
