-- A history that is legal by the turn's words is legal by the protocol's, and leads to the same state.
use Rattle.std.proofs.Common.{◌≡◌, ℕ, List, [], ◌∷◌, map, refl}
use Rattle.udt_model.specs.History.{AreLegal, after_items}
use Rattle.udt_model.specs.Rate.{Ways}
use Rattle.udt_model.specs.State.{State}
use Rattle.udt_model.specs.Step.{step}
use Rattle.udt_turn.specs.History.{MayFollow, value_after}
use Rattle.udt_cell.specs.Entries.{Entry, tale_of_sockets}
use Rattle.udt_cell.specs.Histories.{item_of}

module _ {C : Type 0} (w : Ways C) where
  pub legal_items : (s : State C) (items : List (ℕ × Entry)) → MayFollow (tale_of_sockets w) s items
      → AreLegal w s (map item_of items)
  unfolding AreLegal
  legal_items s [] h = tt
  legal_items s (x ∷ xs) h = (h.0.0, h.0.1, legal_items (step w s x.1.event).after xs h.2)

  pub same_state : (s : State C) (items : List (ℕ × Entry))
      → after_items w s (map item_of items) ≡ value_after (tale_of_sockets w) s items
  unfolding after_items
  same_state s [] = refl
  same_state s (x ∷ xs) = same_state (step w s x.1.event).after xs
