-- How the next message is found, part by part.
use Rattle.std.specs.Prelude.{◌≡◌, ℕ, ◌+◌, ◌-◌, ◌<◌, ◌≤◌, ◌==◌, Bool, true, not, ◌&&◌, ◌||◌, List, ◌++◌, length, take, drop, Option, Some, None, option_map, if◌then◌else◌}
use Rattle.std.specs.Option.{option_or}
use Rattle.udt_model.specs.ReceiveBlocks.{WholeMessage, up_to_last, message_from}
use Rattle.udt_rcv_buffer.specs.declared.head.Head.{Head}
use Rattle.udt_rcv_buffer.specs.declared.messages.Begun.{Begun}
use Rattle.udt_rcv_buffer.specs.declared.messages.Found.{Found}
use Rattle.udt_ring.specs.Parts.{Part, joined}
use Rattle.udt_rcv_buffer.specs.PlacedParts.{placed_from}

-- the message that begins with a block, where one may be shown that does
abbrev pub begins : Head → ℕ → ℕ → Bool → Option Begun
begins head place len gapless =
    if head.used && not head.consumed && head.flags.first && (not head.flags.order || gapless)
    then Some (record { first = place; number = head.flags.message; len = len })
    else None

-- the message that goes on or begins with a block
abbrev pub begun_then : Option Begun → Head → ℕ → ℕ → Bool → Option Begun
begun_then None head place len gapless = begins head place len gapless
begun_then (Some b) head place len gapless =
    if head.used && not head.consumed && head.flags.message == b.number
    then Some (record { first = b.first; number = b.number; len = b.len + len })
    else begins head place len gapless

-- this many parts from this one on, as a message
abbrev pub message_in : ℕ → ℕ → ℕ → List (Part Head) → WholeMessage
message_in base first count parts =
    record { first = base + first; count = count; bytes = joined (take count (drop first parts)) }

-- two pieces of a message
abbrev pub followed_by : WholeMessage → WholeMessage → WholeMessage
followed_by m more = record { first = m.first; count = m.count + more.count; bytes = m.bytes ++ more.bytes }

-- what is still to be found from this part on
abbrev pub sought : ℕ → ℕ → Bool → Option Begun → List (Part Head) → Option WholeMessage
sought base place gapless None parts = message_from (base + place) gapless (placed_from (base + place) (drop place parts))
sought base place gapless (Some b) parts =
    option_or
    (option_map (followed_by (message_in base b.first (place - b.first) parts))
    (up_to_last (base + place) b.number (placed_from (base + place) (drop place parts))))
    (message_from (base + place) gapless (placed_from (base + place) (drop place parts)))

-- a message that was begun has bytes of the parts from its first on
pub record IsBegun (place : ℕ) (parts : List (Part Head)) (b : Begun) : Type 0 where
  pub first : b.first < place
  pub len : b.len ≡ length (joined (take (place - b.first) (drop b.first parts)))

-- the message is the next one, at whatever offset the parts begin, and its blocks stand below the top
pub record IsFound (found : Found) (top : ℕ) (parts : List (Part Head)) : Type 0 where
  pub some : 0 < found.count
  pub within : found.first + found.count ≤ top
  pub len : found.len ≡ length (joined (take found.count (drop found.first parts)))
  pub next : (base : ℕ) → message_from base true (placed_from base parts) ≡ Some (message_in base found.first found.count parts)
