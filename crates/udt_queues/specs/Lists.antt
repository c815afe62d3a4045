-- Lists of messages, one for each taker, as a pass uses them.
use Rattle.std.specs.Prelude.{◌≡◌, ℕ, Bool, true, false, ◌||◌}
use Rattle.std.specs.Arc.{arc_value}
use Rattle.atomic_table.specs.Seated.{TableId}
use Rattle.crossbeam_queue.specs.Passes as queue
use Rattle.udt_queues.specs.declared.view.View.{View}
use Rattle.udt_queues.specs.declared.lane.Lane.{Lane}
use Rattle.udt_queues.specs.Passing.{both_of}
use Rattle.udt_queues.specs.Told.{Told, Emptied, WasEmpty}

-- what is left of two passes of one list, where the second may take or not: the one that may take goes first
abbrev pub joined : {T : Type 0} → Bool → View T → View T → View T
joined true v w = both_of w v
joined false v w = both_of v w

module _ {M : Type 0} where
  -- what the pass knows of this list
  abbrev pub view_of : Lane M → View M
  view_of l = queue.view l.pass

  -- the number of places of the list
  abbrev pub room_at : Lane M → ℕ
  room_at l = queue.ruled_capacity (arc_value l.line)

  -- which list it is, and its number of places
  abbrev pub list_of : Lane M → TableId × ℕ
  list_of l = (l.pass.table_id, room_at l)

  -- it is a right to the same list, and to take from it exactly where it was before
  pub record KeepsList (before after : Lane M) : Type 0 where
    pub list : list_of after ≡ list_of before
    pub takes : after.takes ≡ before.takes

  -- what is known of a list that was empty at a step of the call
  pub record IsFoundEmpty (v : View M) : Type 0 where
    pub none : WasEmpty v
    pub told : Told v
    pub emptied : Emptied v

  -- a right after another to the same list was joined into it: it has the hands of both, and may take where one of them may
  pub record Absorbs (before gone after : Lane M) : Type 0 where
    pub list : list_of after ≡ list_of before
    pub takes : after.takes ≡ (before.takes || gone.takes)
    pub view : view_of after ≡ joined gone.takes (view_of before) (view_of gone)
    pub told : Told (view_of after)
