-- The lines that a world keeps.
use Rattle.std.specs.Prelude.{◌≡◌, ℕ, Bool, true, false, List, [], ◌∷◌, ◌++◌, Some, Vec}
use Rattle.std.specs.Global.{Global}
use Rattle.udt_model.specs.Rate.{Ways}
use Rattle.udt_model.specs.Script.{printed_after}

-- the bytes of a line
abbrev pub items_of : Vec ℕ Global → List ℕ
items_of line = line.items

-- the lines with one more, where it was accepted
abbrev pub kept_lines : Bool → List (List ℕ) → List ℕ → List (List ℕ)
kept_lines true lines line = lines ++ line ∷ []
kept_lines false lines line = lines

module _ {C : Type 0} (w : Ways C) where
  -- the definitions accept each of these lines, after the ones before it
  unfoldable pub AreAccepted : List (List ℕ) → List (List ℕ) → Type 0
  AreAccepted before [] = Unit {0}
  AreAccepted before (line ∷ lines) =
      ((text : List ℕ) × (printed_after w before line ≡ Some text)) × AreAccepted (before ++ line ∷ []) lines
