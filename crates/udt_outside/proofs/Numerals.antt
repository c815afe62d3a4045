-- The numbers that words spell.
use Rattle.std.proofs.Common.{◌≡◌, ℕ, ◌<◌, ◌^◌, List, [], ◌∷◌, length, refl, ap, arith, true, false, ◌&&◌, Bool, None, rules}
use Rattle.std.specs.Char.{is_ascii_digit}
use Rattle.std.specs.List.{list_all}
use Rattle.std.specs.Prelude.{Result, Ok, Err}
use Rattle.std.specs.Str.{all_ascii_digits, IsUtf8}
use Rattle.std.specs.Str.Parse.{digits_value, ParsesUnsigned}
use Rattle.std.proofs.lemmas.Fmt.{IsAscii-from_digits}
use Rattle.std.proofs.lemmas.Result.{OkIff-at_ok, OkIff-at_err}
use Rattle.std.proofs.lemmas.Str.{IsUtf8-from_ascii}
use Rattle.std.proofs.lemmas.Str.Parse.{parse_digits}
use Rattle.udt_outside.proofs.NumberLemmas.{digits_model}
use Rattle.udt_model.specs.Words.{is_number, number_of, if_within, number_within}

-- each byte is a digit
pub digits_each : (bytes : List ℕ) → list_all is_ascii_digit bytes ≡ all_ascii_digits bytes
digits_each [] = refl
digits_each (c ∷ cs) = ap (λ b. is_ascii_digit c && b) (digits_each cs)

-- no number is spelled by another word
pub spells_none : (least most : ℕ) (word : List ℕ) → is_number word ≡ false → number_within least most word ≡ None
unfolding number_of
spells_none least most word no_number = rw no_number refl

-- the number that is spelled counts where it lies in the range
pub spells : (least most : ℕ) (word : List ℕ) → is_number word ≡ true → number_within least most word ≡ if_within least most (digits_value 10 word)
unfolding number_of
spells least most word number = rw number refl

and_right : (a b : Bool) → (a && b) ≡ true → b ≡ true
and_right true b h = h
and_right false b h = absurd (search rules)

-- the word of a number has digits alone, and at least one
has_digits : (word : List ℕ) → is_number word ≡ true → all_ascii_digits word ≡ true
has_digits [] h = refl
has_digits (digit ∷ []) h = rw h refl
has_digits (first ∷ second ∷ others) h = and_right _ _ h

has_some : (word : List ℕ) → is_number word ≡ true → 0 < length word
has_some [] h = absurd (search rules)
has_some (c ∷ cs) h = omega arith

-- so it is text
pub is_text : (word : List ℕ) → is_number word ≡ true → IsUtf8 word
is_text word h = IsUtf8-from_ascii word (IsAscii-from_digits word (digits_model.to word (has_digits word h)))

-- and what is parsed is its number
pub parses : {E : Type 0} (word : List ℕ) (number : ℕ) (r : Result ℕ E) → is_number word ≡ true → ParsesUnsigned 64 10 word r → r ≡ Ok number → number ≡ digits_value 10 word
parses word number r h p e = (OkIff-at_ok r _ (digits_value 10 word) number (parse_digits digits_model 64 word r p (has_digits word h)) e).1

larger : (most n : ℕ) → most < 2 ^ 64 → (n < 2 ^ 64 → ⊥) → most < n
larger most n fits wide = omega (arith, fits, wide)

above : (least most n : ℕ) → most < n → if_within least most n ≡ None
above least most n h = grind arith

-- which fits into 64 bits
pub too_great : {E : Type 0} (least most : ℕ) (word : List ℕ) (why : E) (r : Result ℕ E) → most < 2 ^ 64 → is_number word ≡ true → ParsesUnsigned 64 10 word r → r ≡ Err why → number_within least most word ≡ None
too_great least most word why r fits h p e =
    let wide = OkIff-at_err r _ (digits_value 10 word) why (parse_digits digits_model 64 word r p (has_digits word h)) e in
    let some : 0 < length word = has_some word h in
    let great : most < digits_value 10 word = larger most (digits_value 10 word) fits (λ small. wide (some, small)) in
    rw (spells least most word h) (above least most _ great)
