-- What a pass has seen, as a history of the protocol.
use Rattle.std.specs.Prelude.{ℕ, map}
use Rattle.udt_model.specs.History as model
use Rattle.udt_model.specs.State.{State}
use Rattle.udt_turn.specs.declared.story.Story as story
use Rattle.udt_turn.specs.declared.pass.Pass.{Pass}
use Rattle.udt_turn.specs.declared.view.History.{History}
use Rattle.udt_turn.specs.Words.{seen_of}
use Rattle.udt_cell.specs.Entries.{Entry}

-- an item of the turn's history
abbrev pub item_of : ℕ × Entry → model.Item
item_of x = record { pass = x.0; event = x.1.event; reply = x.1.reply; outs = x.1.outs }

module _ {C : Type 0} where
  -- the turn's history
  abbrev pub history_of : History (State C) Entry → model.History C
  history_of h = record { opening = h.opening; items = map item_of h.items }

module _ {C : Type 0} {g : story.Ghosts (State C) Entry} where
  -- the history that a pass has seen
  abbrev pub seen_by : Pass (State C) Entry g → model.History C
  seen_by pass = history_of (seen_of pass)
