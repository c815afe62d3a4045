use Rattle.std.proofs.Common.{◌∷◌, Some, ap, ◌∙◌}
use Rattle.udt_turn.specs.History.{value_after}
use Rattle.udt_turn.proofs.turn.Turn.begin.Goals as goal

-- the slot that was taken with the turn has the value
pub take-requires-clause-slot : goal.take-requires-clause-slot
take-requires-clause-slot g c =
    let takes = c.reach.ensures.takes in
    let (k, low, drew) = c.line_up-ticket.ensures.drew in
    let none = ap (λ m. m.1) drew ∙ c.requires.slots in
    (_, ap (λ m. m.1) takes.now ∙ ap (λ cs. (0, Some (value_after g.V.Story.tale c.line_up-ticket.new.seat.me.0.seen.opening takes.found)) ∷ cs) none)
