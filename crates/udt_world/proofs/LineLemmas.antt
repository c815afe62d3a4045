-- What one more line leaves and prints.
use Rattle.std.proofs.Common.{◌≡◌, ◌∙◌, ℕ, Bool, true, false, List, [], ◌∷◌, ◌++◌, Some, None, Option, refl}
use Rattle.std.specs.Prelude.{option_map, if◌then◌else◌}
use Rattle.std.proofs.lemmas.Option.{same_Some}
use Rattle.udt_model.specs.Network.{Network, empty_network}
use Rattle.udt_model.specs.Rate.{Ways}
use Rattle.udt_model.specs.Script.{Printed, left_by, network_from, network_after, played_line, printed_after, fits_after}

module _ {C : Type 0} (w : Ways C) where
  -- no line makes no socket
  pub no_lines : network_after w [] ≡ empty_network
  unfolding network_from
  no_lines = refl

  -- the last line comes last
  pub one_more : (n : Network C) (lines : List (List ℕ)) (line : List ℕ)
      → network_from w n (lines ++ line ∷ []) ≡ left_by (network_from w n lines) (played_line w (network_from w n lines) line)
  unfolding network_from
  one_more n [] line = refl
  one_more n (first ∷ lines) line = one_more (left_by n (played_line w n first)) lines line

  -- the line was played, and this is what it printed
  fitted : (fits : Bool) (planned : Option (Printed C)) (text : List ℕ)
      → (if fits then option_map (λ (p : Printed C). p.text) planned else None) ≡ Some text
      → (p : Printed C) × (planned ≡ Some p) × (p.text ≡ text)
  fitted true None text is = absurd (cc)
  fitted true (Some p) text is = (p, refl, same_Some _ _ is)
  fitted false planned text is = absurd (cc)

  pub accepted-by : (lines : List (List ℕ)) (line text : List ℕ) → printed_after w lines line ≡ Some text
      → (p : Printed C) × (played_line w (network_after w lines) line ≡ Some p) × (p.text ≡ text)
  unfolding printed_after
  accepted-by lines line text is = fitted (fits_after lines line) (played_line w (network_after w lines) line) text is

  -- and this is what it left
  pub left-after : (lines : List (List ℕ)) (line : List ℕ) (p : Printed C) → played_line w (network_after w lines) line ≡ Some p
      → network_after w (lines ++ line ∷ []) ≡ p.network
  left-after lines line p is = one_more empty_network lines line ∙ rw is refl
