-- What contracts say of passes, of a turn and of whoever has it.
use Rattle.std.specs.Prelude.{◌≡◌, ℕ, ◌+◌, ◌^◌, ◌<◌, ◌≤◌, List, [], ◌∷◌, ◌++◌, Option, Some, None}
use Rattle.atomic_table.specs.Seated.{TableId}
use Rattle.udt_turn.specs.Story.{Telling}
use Rattle.udt_turn.specs.History.{mine_in, Begins, value_of}
use Rattle.udt_turn.specs.Rule.{Sees}
use Rattle.udt_turn.specs.Kinds.{seeing, found_in, IsSound}
use Rattle.udt_turn.specs.declared.story.Story as story
use Rattle.udt_turn.specs.declared.pass.Pass.{Pass}
use Rattle.udt_turn.specs.declared.turn.Turn.{Turn}
use Rattle.udt_turn.specs.declared.held.Held.{Held}
use Rattle.udt_turn.specs.declared.view.History.{History}
use Rattle.udt_turn.specs.declared.view.View.{View}
use Rattle.udt_turn.specs.declared.view.Stage.TheVariants.{Idle, Holding}

module _ {V E : Type 0} where
  -- the value that opened the turn's history
  abbrev pub opening_of : Turn V E → V
  opening_of turn = turn.table.shared.key.value

  -- which table the turn lies in
  abbrev pub table_of : Turn V E → TableId
  table_of turn = turn.table.shared.table_id

module _ {V E : Type 0} where
  -- number, names and pairs stay, and so does what is known of the numbers drawn
  pub record KeepsNames (before after : View V E) : Type 0 where
    pub number : after.number ≡ before.number
    pub names : after.names ≡ before.names
    pub made : after.made ≡ before.made
    pub drawn : after.drawn ≡ before.drawn

  -- the new view has a number of its own, fresh to what the old one had seen: no step of that one had shown it as drawn.
  -- It has seen as much and made nothing
  pub record HasBranched (old new : View V E) : Type 0 where
    pub few : new.number < 65535
    pub above : old.number < new.number
    pub fresh : old.drawn ≤ new.number
    pub names : new.names ≡ new.number ∷ []
    pub made : new.made ≡ []
    pub seen : new.seen ≡ old.seen
    pub mine : mine_in new.names new.seen.items ≡ []

  -- the value is the one after one legal item, which the count counts
  pub record GoesOn (t : Telling V E) (item : Option E) (before after : V) : Type 0 where
    pub entry : E
    pub named : item ≡ Some entry
    pub legal : t.legal before entry
    pub value : after ≡ t.after before entry
    pub count : t.count after ≡ t.count before + 1
    pub most : t.count after < 2 ^ 55

module _ {V E : Type 0} {g : story.Ghosts V E} where
  -- what the pass knows
  abbrev pub view_of : Pass V E g → View V E
  view_of p = p.seat.me.0

  -- the pass's own number
  abbrev pub number_of : Pass V E g → ℕ
  number_of p = (view_of p).number

  -- its own number, and those of the passes that were joined into it
  abbrev pub names_of : Pass V E g → List ℕ
  names_of p = (view_of p).names

  -- the numbers that were split off under its names, each after its parent
  abbrev pub made_of : Pass V E g → List (ℕ × ℕ)
  made_of p = (view_of p).made

  -- the history that it has seen
  abbrev pub seen_of : Pass V E g → History V E
  seen_of p = (view_of p).seen

  -- the items of that history which were made under its names
  abbrev pub mine_of : Pass V E g → List (ℕ × E)
  mine_of p = mine_in (names_of p) (seen_of p).items

  -- the number of pass numbers that were drawn, as its last step on them showed
  abbrev pub drawn_of : Pass V E g → ℕ
  drawn_of p = (view_of p).drawn

  -- the pass is of this turn
  pub record IsPassOf (turn : Turn V E) (p : Pass V E g) : Type 0 where
    pub table : p.seat.table_id ≡ table_of turn
    pub slots : p.seat.me.1 ≡ []
    pub idle : (view_of p).stage ≡ Idle
    pub opened : (seen_of p).opening ≡ opening_of turn

  -- the history that a pass found when it got the turn
  abbrev pub found_of : Pass V E g → History V E
  found_of p = record { opening = (seen_of p).opening; items = found_in (view_of p).stage }

  -- and that history with an item of the pass at the end
  abbrev pub with_item : Pass V E g → E → History V E
  with_item p e = record { opening = (found_of p).opening; items = (found_of p).items ++ (number_of p, e) ∷ [] }

  -- that history, with the item at the end, is seen afterwards
  abbrev pub SeesItem : Option E → Pass V E g → Pass V E g → Type 0
  SeesItem item before after = (e : E) → item ≡ Some e → seen_of after ≡ with_item before e

  -- and the item is one more of its own
  abbrev pub MakesItem : Option E → Pass V E g → Pass V E g → Type 0
  MakesItem item before after = (e : E) → item ≡ Some e → mine_of after ≡ mine_of before ++ (number_of before, e) ∷ []

  -- the number of a new pass stands in the pairs of its parent
  abbrev pub MakesPair : Pass V E g → Pass V E g → Pass V E g → Type 0
  MakesPair before after new = made_of after ≡ (number_of before, number_of new) ∷ made_of before

  -- the pass has the turn, the value is out of the slot, and what was found is legal and goes on from what the pass had seen
  pub record IsHolding (t : Telling V E) (turn : Turn V E) (p : Pass V E g) : Type 0 where
    pub ticket : ℕ
    pub table : p.seat.table_id ≡ table_of turn
    pub slot : p.seat.me.1 ≡ (0, None) ∷ []
    pub stage : (view_of p).stage ≡ Holding ticket (found_of p).items
    pub opened : (found_of p).opening ≡ opening_of turn
    pub sees : Sees (names_of p) (seen_of p).items (found_of p).items
    pub most : t.count (value_of t (found_of p)) < 2 ^ 55
    pub sound : IsSound t (seeing (view_of p) (found_of p).items Idle)

  -- the same, of whoever has the turn
  abbrev pub found_by : Held V E g → History V E
  found_by h = found_of h.pass.now

  -- the same, of whoever has the turn and the value
  abbrev pub IsHeld : Telling V E → Held V E g → Type 0
  IsHeld t h = IsHolding t h.turn.now h.pass.now

  -- one item of the pass was added, after all that it had seen and whatever others had added since
  pub record Adds (t : Telling V E) (e : E) (before after : Pass V E g) : Type 0 where
    pub found : List (ℕ × E)
    pub later : Begins (seen_of before).items found
    pub seen : seen_of after ≡ record { opening = (seen_of before).opening; items = found ++ (number_of before, e) ∷ [] }
    pub mine : mine_of after ≡ mine_of before ++ (number_of before, e) ∷ []
    pub few : t.count (value_of t (seen_of after)) < 2 ^ 55
    pub sound : IsSound t (view_of after)

  -- only more was seen, and nothing was added by the pass
  pub record OnlySees (t : Telling V E) (before after : Pass V E g) : Type 0 where
    pub opening : (seen_of after).opening ≡ (seen_of before).opening
    pub later : Begins (seen_of before).items (seen_of after).items
    pub mine : mine_of after ≡ mine_of before
    pub sound : IsSound t (view_of after)
