-- What passes of lists of messages sent and took.
use Rattle.std.specs.Prelude.{◌≡◌, ℕ, Bool, true, List, map, slice_get, slice_set, Some}
use Rattle.atomic_table.specs.Seated.{TableId}
use Rattle.udt_queues.specs.declared.view.View.{View}
use Rattle.udt_queues.specs.declared.lane.Lane.{Lane}
use Rattle.udt_queues.specs.declared.attach.AttachPass.{AttachPass}
use Rattle.udt_queues.specs.Lines.{Puts, Takes}
use Rattle.udt_queues.specs.Told.{WasFull}
use Rattle.udt_queues.specs.Lists.{view_of, list_of, Absorbs, IsFoundEmpty}

module _ {M : Type 0} where
  -- what the pass knows of each list
  abbrev pub views_of : AttachPass M → List (View M)
  views_of p = map view_of p.lanes.items

  -- whether it takes from each list
  abbrev pub takes_of : AttachPass M → List Bool
  takes_of p = map (λ l. l.takes) p.lanes.items

  -- which lists they are, each with its number of places
  abbrev pub lists_of : AttachPass M → List (TableId × ℕ)
  lists_of p = map list_of p.lanes.items

  -- one message more was put into this list, and nothing else changed
  abbrev pub SendsTo : ℕ → M → AttachPass M → AttachPass M → Type 0
  SendsTo to message before after = (v : View M) × (w : View M)
      × (slice_get (views_of before) to ≡ Some v) × Puts v message w × (views_of after ≡ slice_set (views_of before) to w)

  -- one message was taken from a list from which the pass takes, and nothing else changed
  abbrev pub TakesFrom : M → AttachPass M → AttachPass M → Type 0
  TakesFrom message before after = (at : ℕ) × (v : View M) × (w : View M) × (slice_get (takes_of before) at ≡ Some true)
      × (slice_get (views_of before) at ≡ Some v) × Takes v message w × (views_of after ≡ slice_set (views_of before) at w)

  -- that list was full at a step of the call
  abbrev pub WasFullAt : ℕ → AttachPass M → Type 0
  WasFullAt to p = (v : View M) × (list : TableId × ℕ)
      × (slice_get (views_of p) to ≡ Some v) × (slice_get (lists_of p) to ≡ Some list) × WasFull list.1 v

  -- each list from which the pass takes was empty at a step of the call
  abbrev pub FoundNone : AttachPass M → Type 0
  FoundNone p = (i : ℕ) (v : View M) → slice_get (takes_of p) i ≡ Some true → slice_get (views_of p) i ≡ Some v → IsFoundEmpty v

  -- each right of the pass that went was joined into that to the same list
  abbrev pub Joins : AttachPass M → AttachPass M → AttachPass M → Type 0
  Joins before gone after = (i : ℕ) (x y z : Lane M) → slice_get before.lanes.items i ≡ Some x
      → slice_get gone.lanes.items i ≡ Some y → slice_get after.lanes.items i ≡ Some z → Absorbs x y z
