-- What a walk over the parts answers, and what of it is kept in mind.
use Rattle.std.specs.Prelude.{◌≡◌, ℕ, ◌+◌, ◌<◌, ◌≤◌, true, false, List, length, slice_get, Option, Some, None}
use Rattle.udt_rcv_buffer.specs.declared.head.Head.{Head}
use Rattle.udt_rcv_buffer.specs.declared.messages.Found.{Found}
use Rattle.udt_rcv_buffer.specs.declared.messages.Stop.{Stop}
use Rattle.udt_rcv_buffer.specs.declared.messages.Walk.{Walk}
use Rattle.udt_rcv_buffer.specs.declared.messages.Walk.TheVariants as walks
use Rattle.udt_rcv_buffer.specs.declared.next.Next.{Next}
use Rattle.udt_ring.specs.Parts.{Part}
use Rattle.udt_rcv_buffer.specs.PlacedParts.{consume_parts, IsUnused}
use Rattle.udt_rcv_buffer.specs.Walked.{gapless_at, NoneEnds, EndsWith, Breaks, IsNext}

-- a walk may stop at this place
pub record StopsAt (stop : Stop) (place : ℕ) (parts : List (Part Head)) : Type 0 where
  pub from : stop.from ≤ place
  pub below : place < stop.below
  pub breaks : Breaks place parts

-- what a walk came to
abbrev pub IsWalk : Stop → List (Part Head) → Walk → Type 0
IsWalk stop parts (walks.Whole found) = EndsWith found parts
IsWalk stop parts (walks.Stopped place) = StopsAt stop place parts × NoneEnds place parts
IsWalk stop parts walks.Over = NoneEnds (length parts) parts

-- the end of a message, or else of all parts
abbrev pub end_of : Option Found → ℕ → ℕ
end_of None parts = parts
end_of (Some found) parts = found.first + found.count

-- the message that was read next before a block was placed here, when the run wasn't longer than this
pub record WasNext (found : Option Found) (place run : ℕ) (parts : List (Part Head)) : Type 0 where
  pub before : List (Part Head)
  pub len : length before ≡ length parts
  pub same : (k : ℕ) → (k ≡ place → ⊥) → slice_get before k ≡ slice_get parts k
  pub missing : (part : Part Head) → slice_get before place ≡ Some part → IsUnused part
  pub next : IsNext found before
  pub gapped : (k : ℕ) → run ≤ k → gapless_at (k + 1) before ≡ false

-- the message that was read next before so many parts from a place on were consumed
pub record WasConsumed (found : Option Found) (place count : ℕ) (parts : List (Part Head)) : Type 0 where
  pub before : List (Part Head)
  pub is : parts ≡ consume_parts place count before
  pub some : 0 < count
  pub within : place + count ≤ length before
  pub next : IsNext found before

-- where it is kept in mind, it is the message that is read next
abbrev pub KnowsNext : Next → List (Part Head) → Type 0
KnowsNext next parts = next.kept ≡ true → IsNext next.found parts
