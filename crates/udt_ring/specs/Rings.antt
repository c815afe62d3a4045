-- How parts lie in memory.
use Rattle.std.specs.Prelude.{◌≡◌, ◌≢◌, ℕ, ◌+◌, ◌-◌, ◌*◌, ◌^◌, ◌<◌, ◌≤◌, max, nat_lt, List, ◌++◌, map, take, drop, replicate, length, All, AllPairs, if◌then◌else◌}
use Rattle.udt_ring.specs.declared.ring.Place.{Place}
use Rattle.udt_ring.specs.declared.ring.Ring.TheInside.{Inside}
use Rattle.udt_ring.specs.Parts.{Part, Parts, turned, empty_part}

-- the place that is this many after this one, of this many, where the first comes again after the last
abbrev pub following : ℕ → ℕ → ℕ → ℕ
following place by places = if nat_lt (place + by) places then place + by else place + by - places

-- each place has a slot of its own, and slots are numbered below their count
pub record AreSlots (slots : List ℕ) : Type 0 where
  pub below : All (λ slot. slot < length slots) slots
  pub apart : AllPairs (λ slot other. slot ≢ other) slots

module _ {H : Type 0} where
  -- the part of a place: its bytes are the first ones in its slot, where each slot has this room
  abbrev pub part_in : ℕ → List ℕ → Place H → Part H
  part_in room memory place = record { head = place.head; bytes = take place.len (drop (place.slot * room) memory) }

  -- the parts of all places
  abbrev pub parts_in : ℕ → List ℕ → List (Place H) → List (Part H)
  parts_in room memory places = map (part_in room memory) places

  -- the slots of all places
  abbrev pub slots_of : List (Place H) → List ℕ
  slots_of places = map (λ place. place.slot) places

  -- no more of a slot is in use than there is room for
  abbrev pub AreShort : ℕ → List (Place H) → Type 0
  AreShort room places = All (λ place. place.len ≤ room) places

  -- the parts stay as they are, in whatever slots they lie then
  pub record KeepsParts (old new : List (Place H)) : Type 0 where
    pub parts : (room : ℕ) (memory : List ℕ) → parts_in room memory new ≡ parts_in room memory old
    pub short : (room : ℕ) → AreShort room old → AreShort room new
    pub slots : AreSlots (slots_of old) → AreSlots (slots_of new)

  -- this many parts from one place on are emptied and have this head then, and the next place is the one after them
  pub record Empties (by : ℕ) (head : H) (first next : ℕ) (old new : List (Place H)) : Type 0 where
    pub parts : (room : ℕ) (memory : List ℕ) → turned next (parts_in room memory new) ≡ drop by (turned first (parts_in room memory old)) ++ replicate by (empty_part head)
    pub short : (room : ℕ) → AreShort room old → AreShort room new
    pub slots : AreSlots (slots_of old) → AreSlots (slots_of new)
    pub within : next < length new

  -- the parts of a ring, from the first one on
  abbrev pub parts_of : Inside H → Parts H
  parts_of r = record { room = r.room; list = turned r.first (parts_in r.room r.memory.items r.places.items) }

  -- the memory has a slot for each place, and the first place and the hint are among the places where there are any
  pub record IsRing (r : Inside H) : Type 0 where
    pub memory : length r.memory.items ≡ length r.places.items * r.room
    pub short : AreShort r.room r.places.items
    pub slots : AreSlots (slots_of r.places.items)
    pub few : length r.places.items ≤ 2 ^ 32
    pub small : r.room < 2 ^ 32
    pub first : r.first < max 1 (length r.places.items)
    pub hot : r.hot < max 1 (length r.places.items)
