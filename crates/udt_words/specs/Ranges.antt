-- The ranges in which the numbers of an order lie.
use Rattle.std.specs.Prelude.{ℕ, ◌<◌, ◌≤◌, List, length}
use Rattle.udt_words.specs.declared.limits.TheConstants.{LAST_SEED, MOST_WORLD_TURNS, MOST_RECORD_TURNS, MOST_PAIR_BYTES, MOST_CONNECTIONS}
use Rattle.udt_words.specs.declared.order.Order.{Order}
use Rattle.udt_words.specs.declared.order.Order.TheVariants.{Replay, World, Pair, Recv, Recv6, Send, Record, Check}

-- from one connection to 64
abbrev pub IsCount : ℕ → Type 0
IsCount count = (1 ≤ count) × (count ≤ MOST_CONNECTIONS)

-- files are accepted at a port, under a name, up to a number of them
abbrev pub IsAccepting : ℕ → List ℕ → ℕ → Type 0
IsAccepting port name count = (1 ≤ port) × (0 < length name) × IsCount count

-- each number of the order lies in its range, and no name is empty
abbrev pub IsInRange : Order → Type 0
IsInRange (Replay control) = Unit {0}
IsInRange (World n turns control) = (n ≤ LAST_SEED) × (turns ≤ MOST_WORLD_TURNS)
IsInRange (Pair size count n) = (size ≤ MOST_PAIR_BYTES) × IsCount count × (n ≤ LAST_SEED)
IsInRange (Recv port name count) = IsAccepting port name count
IsInRange (Recv6 port name count) = IsAccepting port name count
IsInRange (Send name to) = (0 < length name) × (1 ≤ to.port)
IsInRange (Record turns n) = (turns ≤ MOST_RECORD_TURNS) × (n ≤ LAST_SEED)
IsInRange Check = Unit {0}
