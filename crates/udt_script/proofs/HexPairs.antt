-- The bytes that pairs of digits spell, pair by pair.
use Rattle.std.proofs.Common.{◌≡◌, ℕ, ◌+◌, ◌*◌, ◌≤◌, ◌<◌, List, [], ◌∷◌, ◌++◌, length, get_or, drop, refl, sym, ap, ◌∙◌, arith, append_assoc, Option, Some, None, option_map}
use Rattle.udt_model.specs.Words.{◌>>=◌, nibble_of, pairs_of}

-- a pair without a digit spells nothing
pub no_high : (word : List ℕ) → 2 ≤ length word → nibble_of (get_or word 0 0) ≡ None → pairs_of word ≡ None
unfolding pairs_of
no_high [] enough none = absurd (omega (arith, enough))
no_high (high ∷ []) enough none = refl
no_high (high ∷ low ∷ others) enough none = rw none refl

pub no_low : (word : List ℕ) (h : ℕ) → 2 ≤ length word → nibble_of (get_or word 0 0) ≡ Some h → nibble_of (get_or word 1 0) ≡ None → pairs_of word ≡ None
unfolding pairs_of
no_low [] h enough some none = absurd (omega (arith, enough))
no_low (high ∷ []) h enough some none = refl
no_low (high ∷ low ∷ others) h enough some none = rw (some, none) refl

before : (byte : ℕ) (more : Option (List ℕ)) → (more >>= λ bytes. Some (byte ∷ bytes)) ≡ option_map (λ bytes. byte ∷ bytes) more
before byte None = refl
before byte (Some bytes) = refl

-- a pair of digits spells a byte, before what the others spell
pub a_pair : (word : List ℕ) (h l : ℕ) → 2 ≤ length word → nibble_of (get_or word 0 0) ≡ Some h → nibble_of (get_or word 1 0) ≡ Some l → pairs_of word ≡ option_map (λ more. (16 * h + l) ∷ more) (pairs_of (drop 2 word))
unfolding pairs_of
a_pair [] h l enough some some' = absurd (omega (arith, enough))
a_pair (high ∷ []) h l enough some some' = absurd (omega (arith, enough))
a_pair (high ∷ low ∷ others) h l enough some some' = rw (some, some') (before (16 * h + l) (pairs_of others))

-- no bytes are spelled by no digits
pub no_digits : (word : List ℕ) → length word ≡ 0 → pairs_of word ≡ Some []
unfolding pairs_of
no_digits [] empty = refl
no_digits (c ∷ cs) empty = absurd (omega (arith, empty))

-- and none by one digit
pub one_digit : (word : List ℕ) → 0 < length word → length word < 2 → pairs_of word ≡ None
unfolding pairs_of
one_digit [] some few = absurd (omega (arith, some))
one_digit (c ∷ []) some few = refl
one_digit (c ∷ d ∷ cs) some few = absurd (omega (arith, few))

onward : (front : List ℕ) (byte : ℕ) (more : Option (List ℕ)) → option_map (λ m. front ++ m) (option_map (λ m. byte ∷ m) more) ≡ option_map (λ m. (front ++ byte ∷ []) ++ m) more
onward front byte None = refl
onward front byte (Some m) = ap Some (sym (append_assoc front (byte ∷ []) m))

-- so a byte goes after those so far
pub one_more : (whole front rest : List ℕ) (h l : ℕ) → pairs_of whole ≡ option_map (λ m. front ++ m) (pairs_of rest) → 2 ≤ length rest → nibble_of (get_or rest 0 0) ≡ Some h → nibble_of (get_or rest 1 0) ≡ Some l → pairs_of whole ≡ option_map (λ m. (front ++ (16 * h + l) ∷ []) ++ m) (pairs_of (drop 2 rest))
one_more whole front rest h l so_far enough some some' =
    so_far ∙ ap (λ p. option_map (λ m. front ++ m) p) (a_pair rest h l enough some some') ∙ onward front (16 * h + l) (pairs_of (drop 2 rest))
