-- The words of a script's line: names, decimal numbers and hexadecimal bytes.
use Rattle.std.specs.Prelude.{ℕ, ◌+◌, ◌-◌, ◌*◌, ◌/◌, ◌%◌, ◌==◌, Bool, false, not, ◌&&◌, ◌||◌, List, [], ◌∷◌, length, Option, Some, None, option_and_then, nat_lt, nat_le, codes, if◌then◌else◌}
use Rattle.std.specs.List.{list_all, flat_map}
use Rattle.std.specs.Str.{bytes_eq, all_ascii_digits}
use Rattle.std.specs.Str.Parse.{digits_value}
use Rattle.std.specs.Char.{is_ascii_digit, is_ascii_lowercase}

infixl 10 ◌>>=◌
abbrev pub ◌>>=◌ : {A B : Type 0} → Option A → (A → Option B) → Option B
option >>= next = option_and_then next option

-- a byte in front of the first word
abbrev pub in_front : ℕ → List (List ℕ) → List (List ℕ)
in_front byte [] = (byte ∷ []) ∷ []
in_front byte (word ∷ words) = (byte ∷ word) ∷ words

-- the words of a line: what stands before, between and after its spaces
unfoldable pub words_of : List ℕ → List (List ℕ)
words_of [] = [] ∷ []
words_of (byte ∷ line) = if byte == 32 then [] ∷ words_of line else in_front byte (words_of line)

-- the word is this one
abbrev pub is_word : List ℕ → List ℕ → Bool
is_word word text = bytes_eq word text

-- a character a to z, and then at most fifteen characters a to z or digits
abbrev pub is_name : List ℕ → Bool
is_name [] = false
is_name (first ∷ others) =
    is_ascii_lowercase first && nat_le (length others) 15 && list_all (λ c. is_ascii_lowercase c || is_ascii_digit c) others

abbrev pub name_of : List ℕ → Option (List ℕ)
name_of word = if is_name word then Some word else None

-- decimal digits, without a leading zero but in 0 itself
abbrev pub is_number : List ℕ → Bool
is_number [] = false
is_number (digit ∷ []) = is_ascii_digit digit
is_number (first ∷ second ∷ others) = not (first == 48) && all_ascii_digits (first ∷ second ∷ others)

unfoldable pub number_of : List ℕ → Option ℕ
number_of word = if is_number word then Some (digits_value 10 word) else None

-- the number, where it lies between these two
abbrev pub if_within : ℕ → ℕ → ℕ → Option ℕ
if_within least most number = if nat_le least number && nat_le number most then Some number else None

-- the number that a word spells, from the least to the most
abbrev pub number_within : ℕ → ℕ → List ℕ → Option ℕ
number_within least most word = number_of word >>= if_within least most

-- what a hexadecimal digit stands for. Upper case isn't read
abbrev pub nibble_of : ℕ → Option ℕ
nibble_of c =
    if nat_le 48 c && nat_le c 57
    then Some (c - 48)
    else (if nat_le 97 c && nat_le c 102 then Some (c - 87) else None)

-- the bytes that pairs of hexadecimal digits spell
unfoldable pub pairs_of : List ℕ → Option (List ℕ)
pairs_of [] = Some []
pairs_of (high ∷ []) = None
pairs_of (high ∷ low ∷ others) = do
  h ← nibble_of high
  l ← nibble_of low
  bytes ← pairs_of others
  Some ((16 * h + l) ∷ bytes)

-- the bytes that a word spells: pairs of digits, or a dash for none
abbrev pub bytes_of : List ℕ → Option (List ℕ)
bytes_of [] = None
bytes_of (c ∷ cs) = if is_word (c ∷ cs) (codes "-") then Some [] else pairs_of (c ∷ cs)

-- the hexadecimal digit for a number below 16
abbrev pub hex_digit : ℕ → ℕ
hex_digit n = if nat_lt n 10 then 48 + n else 87 + n

-- two digits a byte
unfoldable pub hex_pairs : List ℕ → List ℕ
hex_pairs bytes = flat_map (λ byte. hex_digit (byte / 16) ∷ hex_digit (byte % 16) ∷ []) bytes

-- the word that spells these bytes
abbrev pub hex_word : List ℕ → List ℕ
hex_word [] = codes "-"
hex_word (b ∷ bs) = hex_pairs (b ∷ bs)
