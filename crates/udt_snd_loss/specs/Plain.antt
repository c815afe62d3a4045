-- How ranges are counted in a plain list of offsets.
use Rattle.std.specs.Prelude.{ℕ, ◌+◌, ◌==◌, Bool, false, List, [], ◌∷◌}

-- the first offset is followed by the next one
abbrev pub goes_on : List ℕ → Bool
goes_on [] = false
goes_on (n ∷ []) = false
goes_on (n ∷ m ∷ ns) = m == n + 1
