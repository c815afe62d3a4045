-- What was written piece after piece, and the digits of a group.
use Rattle.std.proofs.Common.{◌≡◌, ℕ, ◌/◌, ◌%◌, ◌<◌, ◌≤◌, false, List, [], ◌∷◌, ◌++◌, length, take, drop, sym, ap, ◌∙◌, arith, append_assoc, length-append, ne_eqb, eq-eqb}
use Rattle.std.proofs.lemmas.List.{drop-drop}
use Rattle.std.specs.Fmt.{digits, digit_glyph}
use Rattle.udt_outside.specs.Writing.{Writes}

-- two pieces after each other are one
pub in_turn : (a b c : List ℕ) (from middle to : ℕ) (x y : List ℕ) → Writes a b from middle x → Writes b c middle to y → Writes a c from to (x ++ y)
in_turn a b c from middle to x y first second =
    let after : drop to b ≡ drop to a =
    ap (λ n. drop n b) second.ends ∙ sym (drop-drop (length y) middle b) ∙ ap (drop (length y)) first.rest
    ∙ drop-drop (length y) middle a ∙ ap (λ n. drop n a) (sym second.ends) in
    record {
      ends = omega (arith, first.ends, second.ends, length-append x y);
      front = second.front ∙ ap (λ t. t ++ y) first.front ∙ append_assoc (take from a) x y;
      rest = second.rest ∙ after;
    }

-- a number below 16 has one digit
pub one_digit : (n : ℕ) → n < 0x10 → digits 16 false n ≡ digit_glyph false (n % 16) ∷ []
unfolding digits
one_digit n low = rw (eq-eqb (n / 16) 0 (omega arith))

-- one below 16^2 has two
pub two_digits : (n : ℕ) → 0x10 ≤ n → n < 0x100 → digits 16 false n ≡ digit_glyph false (n / 0x10 % 16) ∷ digit_glyph false (n % 16) ∷ []
unfolding digits
two_digits n high low = rw (ne_eqb (n / 16) 0 (omega arith), eq-eqb (n / 16 / 16) 0 (omega arith))

-- one below 16^3 has three
pub three_digits : (n : ℕ) → 0x100 ≤ n → n < 0x1000 → digits 16 false n ≡ digit_glyph false (n / 0x100 % 16) ∷ digit_glyph false (n / 0x10 % 16) ∷ digit_glyph false (n % 16) ∷ []
unfolding digits
three_digits n high low =
    let third : n / 16 / 16 % 16 ≡ n / 0x100 % 16 = omega arith in
    rw (ne_eqb (n / 16) 0 (omega arith), ne_eqb (n / 16 / 16) 0 (omega arith), eq-eqb (n / 16 / 16 / 16) 0 (omega arith), third)

-- one below 16^4 has four
pub four_digits : (n : ℕ) → 0x1000 ≤ n → n < 0x1_0000 → digits 16 false n ≡ digit_glyph false (n / 0x1000) ∷ digit_glyph false (n / 0x100 % 16) ∷ digit_glyph false (n / 0x10 % 16) ∷ digit_glyph false (n % 16) ∷ []
unfolding digits
four_digits n high low =
    let third : n / 16 / 16 % 16 ≡ n / 0x100 % 16 = omega arith in
    let fourth : n / 16 / 16 / 16 % 16 ≡ n / 0x1000 = omega arith in
    rw (
      ne_eqb (n / 16) 0 (omega arith),
      ne_eqb (n / 16 / 16) 0 (omega arith),
      ne_eqb (n / 16 / 16 / 16) 0 (omega arith),
      eq-eqb (n / 16 / 16 / 16 / 16) 0 (omega arith),
      fourth,
      third,
    )
