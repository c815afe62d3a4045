-- Ranges of lost numbers, as code holds them: the words that spell them.
use Rattle.std.specs.Prelude.{◌≡◌, ℕ, ◌%◌, List, [], ◌∷◌, ◌++◌, length, take, drop, Option, Some, None, true, false}
use Rattle.std.specs.Option.{is_some}
use Rattle.udt_model.specs.Wire.{WireRange, range_bytes, words_of, ranges_from}

-- these ranges, or none where there are none
abbrev pub those : Option (List WireRange) → List WireRange
those (Some ranges) = ranges
those None = []

-- the ranges that these words spell
abbrev pub ranges_in : List ℕ → List WireRange
ranges_in bytes = those (ranges_from None (words_of bytes))

-- the bytes are whole words, and spell ranges
pub record AreRanges (bytes : List ℕ) : Type 0 where
  pub whole : length bytes % 4 ≡ 0
  pub spelled : is_some (ranges_from None (words_of bytes)) ≡ true

-- the range of these ends
abbrev pub range_from : ℕ × ℕ → WireRange
range_from ends = record { first = ends.0; last = ends.1 }

-- the bytes that spell the range of these ends
abbrev pub range_spelling : ℕ → ℕ → List ℕ
range_spelling first last = range_bytes (range_from (first, last))

-- the list with these bytes between two places
abbrev pub with_between : ℕ → ℕ → List ℕ → List ℕ → List ℕ
with_between start end bytes into = take start into ++ bytes ++ drop end into

-- whether there are ranges from this word on is left to the words after it
abbrev pub GoesOn : Option ℕ → ℕ → Option ℕ → Type 0
GoesOn begun word left = (words : List ℕ) → is_some (ranges_from begun (word ∷ words)) ≡ is_some (ranges_from left words)

-- there are none from this word on, whatever stands after it
abbrev pub IsBroken : Option ℕ → ℕ → Type 0
IsBroken begun word = (words : List ℕ) → is_some (ranges_from begun (word ∷ words)) ≡ false
