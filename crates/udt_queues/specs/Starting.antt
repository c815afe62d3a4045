-- The passes of lists of messages, as they are made.
use Rattle.std.specs.Prelude.{◌≡◌, ℕ, false, ◌==◌, List, [], ◌∷◌, ◌++◌, length, if◌then◌else◌, slice_get, Some}
use Rattle.atomic_table.specs.Seated.{TableId}
use Rattle.udt_queues.specs.declared.view.Right.TheVariants.{Never, Alone}
use Rattle.udt_queues.specs.declared.view.View.{View}
use Rattle.udt_queues.specs.declared.lane.Lane.{Lane}
use Rattle.udt_queues.specs.declared.attach.AttachPass.{AttachPass}
use Rattle.udt_queues.specs.Passing.{both_of}
use Rattle.udt_queues.specs.Lists.{view_of, list_of, room_at}
use Rattle.udt_queues.specs.Messages.{lists_of}

module _ {M : Type 0} where
  -- a right to take from a list, after this number of rights to put into it were made of it
  abbrev pub taker_view : ℕ → View M
  taker_view made = record { hands = record { name = []; made = made; right = Alone; put = []; took = [] } ∷ [] }

  -- the right to put into a list that was made as this one
  abbrev pub putter_view : ℕ → View M
  putter_view number = record { hands = record { name = number ∷ []; made = 0; right = Never; put = []; took = [] } ∷ [] }

  -- what the pass at place j knows of list i: it puts under its place, and takes where the list is its own
  abbrev pub fresh_view : ℕ → ℕ → ℕ → View M
  fresh_view takers i j = if i == j then both_of (taker_view takers) (putter_view j) else putter_view j

  -- the right of the pass at place j to list i, which has this number of places
  pub record IsFresh (takers places i j : ℕ) (l : Lane M) : Type 0 where
    pub view : view_of l ≡ fresh_view takers i j
    pub takes : l.takes ≡ (i == j)
    pub room : room_at l ≡ places

  -- the passes, after this number of lists were made. All are of the same lists
  pub record AreBuilt (takers places count : ℕ) (passes : List (AttachPass M)) : Type 0 where
    pub len : length passes ≡ takers
    pub sized : (j : ℕ) (p : AttachPass M) → slice_get passes j ≡ Some p → length p.lanes.items ≡ count
    pub fresh : (i j : ℕ) (p : AttachPass M) (l : Lane M) → slice_get passes j ≡ Some p → slice_get p.lanes.items i ≡ Some l
        → IsFresh takers places i j l
    pub same : (j k : ℕ) (p q : AttachPass M) → slice_get passes j ≡ Some p → slice_get passes k ≡ Some q
        → lists_of p ≡ lists_of q

  -- a list for each taker, and the pass of each
  abbrev pub AreFresh : ℕ → ℕ → List (AttachPass M) → Type 0
  AreFresh takers places passes = AreBuilt takers places takers passes

  -- rights to put into this list, each under its place
  abbrev pub ArePutters : TableId × ℕ → List (Lane M) → Type 0
  ArePutters list lanes = (j : ℕ) (l : Lane M) → slice_get lanes j ≡ Some l
      → (view_of l ≡ putter_view j) × (l.takes ≡ false) × (list_of l ≡ list)

  -- the rights of all passes to list i
  pub record IsColumn (takers places i : ℕ) (lanes : List (Lane M)) : Type 0 where
    pub len : length lanes ≡ takers
    pub fresh : (j : ℕ) (l : Lane M) → slice_get lanes j ≡ Some l → IsFresh takers places i j l
    pub same : (j k : ℕ) (l m : Lane M) → slice_get lanes j ≡ Some l → slice_get lanes k ≡ Some m → list_of l ≡ list_of m

  -- each pass has one right more
  abbrev pub Adds : AttachPass M → Lane M → AttachPass M → Type 0
  Adds before lane after = after.lanes.items ≡ before.lanes.items ++ lane ∷ []

  pub record HandsOut (before : List (AttachPass M)) (lanes : List (Lane M)) (after : List (AttachPass M)) : Type 0 where
    pub len : length after ≡ length before
    pub each : (k : ℕ) (p : AttachPass M) (l : Lane M) (q : AttachPass M) → slice_get before k ≡ Some p
        → slice_get lanes k ≡ Some l → slice_get after k ≡ Some q → Adds p l q

  -- passes of no lists
  pub record AreEmpty (takers : ℕ) (passes : List (AttachPass M)) : Type 0 where
    pub len : length passes ≡ takers
    pub each : (j : ℕ) (p : AttachPass M) → slice_get passes j ≡ Some p → p.lanes.items ≡ []
