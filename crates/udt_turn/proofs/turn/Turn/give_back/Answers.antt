use Rattle.std.proofs.Common.{ap, ◌∙◌}
use Rattle.udt_turn.specs.History.{mine_in}
use Rattle.udt_turn.specs.Kinds.{found_in}
use Rattle.udt_turn.proofs.Histories.{sees_mine}
use Rattle.udt_turn.proofs.turn.Turn.give_back.Goals as goal

-- what was found has no item of its own that it had not seen
pub returns-clause-mine : goal.returns-clause-mine
returns-clause-mine g c =
    let old = c.args.pass.now.seat.me.0 in
    ap (λ m. mine_in m.0.names m.0.seen.items) c.call.ensures.idle ∙ ap (λ m. mine_in m.0.names m.0.seen.items) c.pass_by.ensures.seen
    ∙ sees_mine old.names old.seen.items (found_in old.stage) c.requires.holds.sees
