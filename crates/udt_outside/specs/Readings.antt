-- What clocks read.
use Rattle.std.specs.Prelude.{◌≡◌, ℕ, List, Some, slice_get}

-- the list has this value at some place
pub record Has (values : List ℕ) (value : ℕ) : Type 0 where
  pub place : ℕ
  pub there : slice_get values place ≡ Some value
