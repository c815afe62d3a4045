-- The offsets that a sender is to retransmit, and the window that they lie in.
use Rattle.std.specs.Prelude.{ℕ, ◌+◌, List}
use Rattle.udt_ranges.specs.Offsets.{Rising}

-- what a sender's list is seen as: the room that its offsets have, the offset of its last drop, and its offsets
pub record LossList : Type 0 where
  pub window : ℕ
  pub floor : ℕ
  pub lost : List ℕ

-- the offsets rise within the window above the last drop
abbrev pub IsInWindow : LossList → Type 0
IsInWindow l = Rising l.floor (l.floor + l.window) l.lost
