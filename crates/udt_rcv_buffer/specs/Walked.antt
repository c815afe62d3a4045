-- What a walk over the parts from the first one on has come to at a place.
use Rattle.std.specs.Prelude.{◌≡◌, ℕ, zero, suc, ◌+◌, ◌<◌, ◌≤◌, ◌==◌, Bool, true, false, not, ◌&&◌, List, length, slice_get, Option, Some, None}
use Rattle.udt_rcv_buffer.specs.declared.head.Head.{Head}
use Rattle.udt_rcv_buffer.specs.declared.messages.Begun.{Begun}
use Rattle.udt_rcv_buffer.specs.declared.messages.Found.{Found}
use Rattle.udt_ring.specs.Parts.{Part}
use Rattle.udt_rcv_buffer.specs.Messages.{begun_then}

-- the part is there, and is used
abbrev pub is_used : Option (Part Head) → Bool
is_used None = false
is_used (Some part) = part.head.used

-- whether all parts below a place are used
unfoldable pub gapless_at : ℕ → List (Part Head) → Bool
gapless_at zero parts = true
gapless_at (suc place) parts = gapless_at place parts && is_used (slice_get parts place)

-- the message that goes on or begins with a part
abbrev pub begun_by : Option Begun → ℕ → Bool → Option (Part Head) → Option Begun
begun_by begun place gapless None = None
begun_by begun place gapless (Some part) = begun_then begun part.head place (length part.bytes) (gapless && part.head.used)

-- the message that is begun at a place
unfoldable pub begun_at : ℕ → List (Part Head) → Option Begun
begun_at zero parts = None
begun_at (suc place) parts = begun_by (begun_at place parts) place (gapless_at place parts) (slice_get parts place)

-- no message ends below this place
abbrev pub NoneEnds : ℕ → List (Part Head) → Type 0
NoneEnds end parts =
    (place : ℕ) (part : Part Head) → place < end → slice_get parts place ≡ Some part → part.head.flags.last ≡ true
    → begun_at (place + 1) parts ≡ None

-- the walk ends with this message: it ends with the part at this place, and none ends before
pub record EndsWith (found : Found) (parts : List (Part Head)) : Type 0 where
  pub place : ℕ
  pub part : Part Head
  pub number : ℕ
  pub some : 0 < found.count
  pub end : found.first + found.count ≡ place + 1
  pub before : NoneEnds place parts
  pub begun : begun_at (place + 1) parts ≡ Some (record { first = found.first; number = number; len = found.len })
  pub there : slice_get parts place ≡ Some part
  pub last : part.head.flags.last ≡ true

-- the message that is read next, if there is one
abbrev pub IsNext : Option Found → List (Part Head) → Type 0
IsNext None parts = NoneEnds (length parts) parts
IsNext (Some found) parts = EndsWith found parts

-- a message that has a block with this head goes on with one with that head
abbrev pub goes_over : Head → Head → Bool
goes_over before head =
    before.used && not before.consumed && not before.flags.last && head.used && not head.consumed
    && head.flags.message == before.flags.message

-- no message goes on from the part before this place to the one at it
abbrev pub Breaks : ℕ → List (Part Head) → Type 0
Breaks place parts =
    (at : ℕ) (before part : Part Head) → place ≡ at + 1 → slice_get parts at ≡ Some before → slice_get parts place ≡ Some part
    → goes_over before.head part.head ≡ false

-- no block from one place to another is its message's first
abbrev pub NoneBegins : ℕ → ℕ → List (Part Head) → Type 0
NoneBegins from to parts =
    (place : ℕ) (part : Part Head) → from ≤ place → place ≤ to → slice_get parts place ≡ Some part → part.head.flags.first ≡ false

-- a walk may start here, as if nothing was begun
pub record StartsAt (place : ℕ) (gapless : Bool) (parts : List (Part Head)) : Type 0 where
  pub before : NoneEnds place parts
  pub still : gapless ≡ gapless_at place parts
  pub fresh : begun_by (begun_at place parts) place gapless (slice_get parts place) ≡ begun_by None place gapless (slice_get parts place)
