-- How passes of a queue begin, part and join.
use Rattle.std.specs.Prelude.{◌≡◌, ◌+◌, List, [], ◌∷◌, ◌++◌}
use Rattle.udt_queues.specs.declared.view.Right.{Right}
use Rattle.udt_queues.specs.declared.view.Right.TheVariants.{Never, Shared, Alone}
use Rattle.udt_queues.specs.declared.view.Hand.{Hand}
use Rattle.udt_queues.specs.declared.view.View.{View}

-- the right that two hands have where they share one
abbrev pub shared : Right → Right
shared Never = Never
shared Shared = Shared
shared Alone = Shared

module _ {T : Type 0} where
  -- the first pass of a queue
  abbrev pub newcomer : View T
  newcomer = record { hands = record { name = []; made = 0; right = Alone; put = []; took = [] } ∷ [] }

  -- a hand after another was made of it, where it has this right then
  abbrev pub parent : Right → Hand T → Hand T
  parent r h = record h { made = h.made + 1; right = r }

  -- and the other, with this right
  abbrev pub child : Right → Hand T → Hand T
  child r h = record { name = h.made ∷ h.name; made = 0; right = r; put = []; took = [] }

  abbrev pub with_parent : (Right → Right) → List (Hand T) → List (Hand T)
  with_parent f [] = []
  with_parent f (h ∷ hs) = parent (f h.right) h ∷ hs

  abbrev pub with_child : (Right → Right) → List (Hand T) → List (Hand T)
  with_child f [] = []
  with_child f (h ∷ hs) = child (f h.right) h ∷ []

  -- a pass after another was made of it which may take where it may, and that other one
  abbrev pub parted : View T → View T
  parted v = record { hands = with_parent shared v.hands }

  abbrev pub part_of : View T → View T
  part_of v = record { hands = with_child shared v.hands }

  -- the first two are a pass before and after another was made of it, which is the third
  abbrev pub IsParted : View T → View T → View T → Type 0
  IsParted before after new = (after ≡ parted before) × (new ≡ part_of before)

  -- a pass after another was made of it which may not take, and that other one
  abbrev pub served : View T → View T
  served v = record { hands = with_parent (λ r. r) v.hands }

  abbrev pub putter_of : View T → View T
  putter_of v = record { hands = with_child (λ r. Never) v.hands }

  -- a pass that another was joined into, and that other one
  abbrev pub both_of : View T → View T → View T
  both_of v w = record { hands = v.hands ++ w.hands }

  abbrev pub gone : View T
  gone = record { hands = [] }
