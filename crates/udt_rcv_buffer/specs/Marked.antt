-- What is kept in mind of parts.
use Rattle.std.specs.Prelude.{◌≡◌, ℕ, ◌≤◌, List, length, take, drop, slice_get, Some, All}
use Rattle.udt_rcv_buffer.specs.declared.marks.Marks.{Marks}
use Rattle.udt_rcv_buffer.specs.declared.head.Head.{Head}
use Rattle.udt_ring.specs.Parts.{Part, joined}
use Rattle.udt_rcv_buffer.specs.PlacedParts.{IsUsed, IsUnused}

-- the parts of the run are used and have this many bytes, and no part from the top on is used
pub record IsMarked (marks : Marks) (parts : List (Part Head)) : Type 0 where
  pub within : marks.run ≤ marks.top
  pub used : All IsUsed (take marks.run parts)
  pub bytes : marks.bytes ≡ length (joined (take marks.run parts))
  pub top : marks.top ≤ length parts
  pub unused : All IsUnused (drop marks.top parts)

-- no part that is used follows the run
abbrev pub EndsRun : ℕ → List (Part Head) → Type 0
EndsRun run parts = (part : Part Head) → slice_get parts run ≡ Some part → IsUnused part

-- the part at this place is used, and its block has this many bytes
pub record HasBlock (place len : ℕ) (parts : List (Part Head)) : Type 0 where
  pub part : Part Head
  pub found : slice_get parts place ≡ Some part
  pub used : IsUsed part
  pub bytes : len ≡ length part.bytes
