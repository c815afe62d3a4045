-- How the base moves.
use Rattle.std.specs.Prelude.{◌≡◌, ℕ, ◌<◌, ◌≤◌, ◌&&◌, ◌||◌, Bool, true, false, nat_le}
use Rattle.udt_model.specs.ReceiveBlocks.{ReceiveBlocks, is_taken}

-- the base doesn't fall, and each offset that it passes was taken, or passes a test
pub record BaseMoves (passes : ℕ → Bool) (old new : ReceiveBlocks) : Type 0 where
  pub later : old.base ≤ new.base
  pub passed : (offset : ℕ) → old.base ≤ offset → offset < new.base → (is_taken offset old.placed || passes offset) ≡ true

-- no offset
abbrev pub none : ℕ → Bool
none offset = false

-- the offsets of a range
abbrev pub range_of : ℕ → ℕ → ℕ → Bool
range_of first last offset = nat_le first offset && nat_le offset last
