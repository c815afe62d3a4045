-- Ranges of lost numbers read back from the words that spell them.
use Rattle.std.proofs.Common.{◌≡◌, ℕ, suc, ◌+◌, ◌%◌, ◌^◌, ◌<◌, true, false, List, [], ◌∷◌, ◌++◌, Some, None, refl, ap, ◌∙◌, append_assoc, arith, inl, inr, length-append}
use Rattle.std.specs.Prelude.{nat_lt, length, ◌⊎◌, ◌==◌, ◌&&◌, All}
use Rattle.std.proofs.lemmas.Bool.{cases_eq, eq-eqb, ne_eqb, lt-ltb, le-ltb, and_from}
use Rattle.std.proofs.lemmas.Nat.{from_be_bytes-to_be_bytes_4}
use Rattle.udt_model.specs.Wire.{WireRange, word_of, word, range_bytes, ranges_bytes, IsRange, reach, words_of, before, ranges_from, ranges_of}

abbrev ends : ℕ → ℕ → WireRange
ends first last = record { first = first; last = last }

-- a word that was written is the number that it spells
pub word_of-word : (number : ℕ) → number < 2 ^ 32 → word_of (word number) ≡ number
word_of-word number fits = omega (arith, from_be_bytes-to_be_bytes_4 number fits)

-- a word that was written reads as itself, and after it stand the words of the rest
pub words-word : (number : ℕ) (rest : List ℕ) → number < 2 ^ 32 → words_of (word number ++ rest) ≡ number ∷ words_of rest
unfolding words_of
words-word number rest fits = ap (λ (w : ℕ). w ∷ words_of rest) (word_of-word number fits)

-- a number alone is a range
alone-reads : (number : ℕ) (words : List ℕ) → number < 2 ^ 31 → ranges_from None (number ∷ words) ≡ before (ends number number) (ranges_from None words)
unfolding ranges_from
alone-reads number words fits =
    let low : nat_lt number (2 ^ 31) ≡ true = lt-ltb number (2 ^ 31) fits in
    rw low refl

-- two words whose first begins a range and whose second ends it
two-read : (first last : ℕ) (words : List ℕ) → IsRange (ends first last)
    → ranges_from None ((2 ^ 31 + first) ∷ last ∷ words) ≡ before (ends first last) (ranges_from None words)
unfolding ranges_from
two-read first last words is =
    let high : nat_lt (2 ^ 31 + first) (2 ^ 31) ≡ false = le-ltb (2 ^ 31 + first) (2 ^ 31) (omega arith) in
    let begun : (2 ^ 31 + first) % 2 ^ 31 ≡ first = omega arith in
    let ended : (nat_lt last (2 ^ 31) && nat_lt (reach first last) (2 ^ 30)) ≡ true =
    and_from _ _ (lt-ltb last (2 ^ 31) is.last) (lt-ltb (reach first last) (2 ^ 30) is.near) in
    rw (high, begun, ended) refl

-- so a range reads back, and then the rest
pub range-reads : (range : WireRange) (rest : List ℕ) → IsRange range
    → ranges_from None (words_of (range_bytes range ++ rest)) ≡ before range (ranges_from None (words_of rest))
range-reads range rest is =
    elim (cases_eq range.first range.last) [
      | inl same ↦
          let equal : (range.first == range.last) ≡ true = eq-eqb range.first range.last same in
          rw (equal, words-word range.first rest (omega (arith, is.first)), alone-reads range.first (words_of rest) is.first)
          (ap (λ (last : ℕ). before (ends range.first last) (ranges_from None (words_of rest))) same)
      | inr differ ↦
          let unequal : (range.first == range.last) ≡ false = ne_eqb range.first range.last differ in
          rw (unequal, append_assoc (word (2 ^ 31 + range.first)) (word range.last) rest, words-word (2 ^ 31 + range.first) (word range.last ++ rest) (omega (arith, is.first)), words-word range.last rest (omega (arith, is.last)))
          (two-read range.first range.last (words_of rest) is)
    ]

none-read : ranges_from None (words_of []) ≡ Some []
unfolding ranges_from words_of
none-read = refl

-- ranges read back
ranges-read : (ranges : List WireRange) → All IsRange ranges → ranges_from None (words_of (ranges_bytes ranges)) ≡ Some ranges
unfolding ranges_bytes
ranges-read [] each = none-read
ranges-read (range ∷ ranges) each =
    range-reads range (ranges_bytes ranges) (each 0 range (omega arith)) ∙ ap (before range) (ranges-read ranges (λ k d lt. each (suc k) d (omega arith)))

-- a range has four bytes or eight
pub length-range : (range : WireRange) → (length (range_bytes range) ≡ 4) ⊎ (length (range_bytes range) ≡ 8)
length-range range =
    elim (cases_eq range.first range.last) [
      | inl same ↦ inl (let equal : (range.first == range.last) ≡ true = eq-eqb range.first range.last same in rw equal refl)
      | inr differ ↦ inr (let unequal : (range.first == range.last) ≡ false = ne_eqb range.first range.last differ in rw unequal refl)
    ]

-- so ranges have whole words
pub length-ranges : (ranges : List WireRange) → length (ranges_bytes ranges) % 4 ≡ 0
unfolding ranges_bytes
length-ranges [] = refl
length-ranges (range ∷ ranges) =
    let rest = length-ranges ranges in
    let both = length-append (range_bytes range) (ranges_bytes ranges) in
    elim (length-range range) [ inl four ↦ omega arith | inr eight ↦ omega arith ]

-- and at least one
some-bytes : (ranges : List WireRange) → 0 < length ranges → 0 < length (ranges_bytes ranges)
unfolding ranges_bytes
some-bytes [] some = absurd (omega arith)
some-bytes (range ∷ ranges) some =
    let both = length-append (range_bytes range) (ranges_bytes ranges) in
    elim (length-range range) [ inl four ↦ omega arith | inr eight ↦ omega arith ]

-- the ranges of a field are those that it was written from
pub ranges_of-bytes : (ranges : List WireRange) → 0 < length ranges → All IsRange ranges → ranges_of (ranges_bytes ranges) ≡ Some ranges
unfolding ranges_of
ranges_of-bytes ranges some each =
    let whole : (nat_lt 0 (length (ranges_bytes ranges)) && (length (ranges_bytes ranges) % 4 == 0)) ≡ true =
    and_from _ _ (lt-ltb 0 (length (ranges_bytes ranges)) (some-bytes ranges some)) (eq-eqb (length (ranges_bytes ranges) % 4) 0 (length-ranges ranges)) in
    rw whole (ranges-read ranges each)
