-- What a kind of value says of its histories: how an item goes on from a value, where it may stand, and what a value tells.
use Rattle.std.specs.Prelude.{ℕ}

-- how the histories of a kind of value go on, and what a value tells
pub record Telling (V E : Type 0) : Type 1 where
  -- the value after an item
  pub after : V → E → V
  -- the item may come after this value
  pub legal : V → E → Type 0
  -- how many items the value counts
  pub count : V → ℕ
  -- what the value is ready for
  pub bits : V → ℕ
