-- Dice that give the words of a list.
use Rattle.std.specs.Prelude.{ℕ, ◌+◌, Bool, true, nat_lt, List, Option, Some, None, length, take, slice_index, if◌then◌else◌}

-- the stated words, how many of them were given, and whether more was asked
pub record Words : Type 0 where
  pub stated : List ℕ
  pub at : ℕ
  pub spent : Bool

-- the words that were given are told as long as all are stated ones
abbrev pub words_told : Words → Option (List ℕ)
words_told d = if d.spent then None else Some (take d.at d.stated)

-- whether a stated word is left
abbrev pub has_word : Words → Bool
has_word d = nat_lt d.at (length d.stated)

-- the next word, which is 0 where no stated one is left
abbrev pub word_of : Words → ℕ
word_of d = if has_word d then slice_index d.stated d.at else 0

-- one more word was given
abbrev pub after_word : Words → Words
after_word d = if has_word d then record d { at = d.at + 1 } else record d { spent = true }
