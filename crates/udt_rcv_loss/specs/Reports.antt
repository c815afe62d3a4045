-- What is reported: ranges, the words that they take, and how they lie.
use Rattle.std.specs.Prelude.{◌≡◌, ℕ, ◌+◌, ◌≤◌, true, List, [], ◌∷◌}
use Rattle.udt_model.specs.Losses.{Missing, LostRange, words_of_range, is_within, is_missing}

-- the ranges of a report, and how many words it was made for
pub record Report : Type 0 where
  pub words : ℕ
  pub ranges : List LostRange

-- how many words ranges take
unfoldable pub words_of : List LostRange → ℕ
words_of [] = 0
words_of (r ∷ rs) = words_of_range r + words_of rs

-- the ranges rise from an offset on, and each ends no earlier than it begins
unfoldable pub RangesRise : ℕ → List LostRange → Type 0
RangesRise low [] = Unit {0}
RangesRise low (r ∷ rs) = (low ≤ r.first) × (r.first ≤ r.last) × RangesRise (r.last + 1) rs

-- each offset of the ranges is among the missing ones
abbrev pub AreListed : List LostRange → List Missing → Type 0
AreListed ranges missing = (n : ℕ) → is_within ranges n ≡ true → is_missing n missing ≡ true
