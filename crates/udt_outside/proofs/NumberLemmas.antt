-- Decimal numbers without a leading zero.
use Rattle.std.proofs.Common.{◌≡◌, ◌≢◌, ℕ, ◌^◌, ◌<◌, ◌≤◌, true, not, ◌&&◌, ◌==◌, List, [], ◌∷◌, length, get_or, Some, decimal, refl, sym, ap, ◌∙◌, arith, inl, inr, le-leb, ne_eqb, nat_le}
use Rattle.std.proofs.lemmas.Bool.{and_parts, false≢true, leb-true, cases_lt}
use Rattle.std.proofs.lemmas.Bool.Decides.{nat_tests}
use Rattle.std.proofs.lemmas.Fmt.{decimal_is_IsNumeral, decimal_digit, first_decimal, decimal-digits_value}
use Rattle.std.proofs.lemmas.Str.Parse.{IsNumeralModel, numerals_by_value, tells_all_ascii_digits}
use Rattle.std.specs.Str.{all_ascii_digits}
use Rattle.std.specs.Str.Parse.{digits_value}
use Rattle.std.proofs.NetLemmas.Options.{and_then_some, cond_some}
use Rattle.udt_model.specs.Words.{is_number, number_of, if_within, number_within}

-- std's lemmas read these digits
pub digits_model : IsNumeralModel (λ ds. all_ascii_digits ds ≡ true) (digits_value 10)
digits_model = numerals_by_value _ tells_all_ascii_digits

-- a number is some digits, of which the first is 0 only where it is the only one
pub record IsNumber (text : List ℕ) : Type 0 where
  pub digits : all_ascii_digits text ≡ true
  pub some : 0 < length text
  pub alone : get_or text 0 0 ≡ 48 → length text ≡ 1

pub is_number_sound : (text : List ℕ) → is_number text ≡ true → IsNumber text
is_number_sound [] h = absurd (false≢true h)
is_number_sound (d ∷ []) h = record { digits = grind arith; some = omega arith; alone = λ _. refl }
is_number_sound (a ∷ b ∷ cs) h =
    let (first, all) = and_parts (not (a == 48)) (all_ascii_digits (a ∷ b ∷ cs)) h in
    record { digits = all; some = omega arith; alone = λ zero. absurd (grind (arith, nat_tests)) }

pub is_number_complete : (text : List ℕ) → IsNumber text → is_number text ≡ true
is_number_complete [] h = absurd (omega (arith, h.some))
is_number_complete (d ∷ []) h = grind (arith, h.digits)
is_number_complete (a ∷ b ∷ cs) h =
    let other : a ≢ 48 = λ zero. let one : length (a ∷ b ∷ cs) ≡ 1 = h.alone zero in omega arith in
    rw (ne_eqb a 48 other, h.digits)

-- the decimal spelling of a number is one
pub is_number-decimal : (n : ℕ) → n < 2 ^ 64 → is_number (decimal n) ≡ true
is_number-decimal n small =
    let (numeral, value) = decimal_is_IsNumeral n small in
    is_number_complete (decimal n) (record {
      digits = digits_model.from _ numeral.1;
      some = numeral.0;
      alone = λ zero. elim (cases_lt n 10) [ inl one ↦ ap length (decimal_digit n one) | inr more ↦ absurd (omega (arith, first_decimal n (omega arith) small)) ];
    })

-- a number within bounds that a text spells is one whose decimal spelling it is
pub number_within-decimal : (most n : ℕ) → n ≤ most → most < 2 ^ 64 → number_within 0 most (decimal n) ≡ Some n
unfolding number_of
number_within-decimal most n fits small =
    rw (is_number-decimal n (omega arith), (decimal_is_IsNumeral n (omega arith)).1, le-leb 0 n (omega arith), le-leb n most fits)

pub number_within_sound : (most n : ℕ) (text : List ℕ) → most < 2 ^ 64 → number_within 0 most text ≡ Some n → (text ≡ decimal n) × (n ≤ most)
unfolding number_of
number_within_sound most n text small e =
    and_then_some (if_within 0 most) (number_of text) n e λ v spelled kept.
    let (test, value) = cond_some (is_number text) (digits_value 10 text) v spelled in
    let (within, same) = cond_some (nat_le 0 v && nat_le v most) v n kept in
    let number = is_number_sound text test in
    let fits = leb-true v most (and_parts (nat_le 0 v) (nat_le v most) within).1 in
    (sym (decimal-digits_value digits_model text number.digits number.some number.alone (omega arith)) ∙ ap decimal (value ∙ same), omega arith)
