-- How a line is cut into words at its spaces.
use Rattle.std.proofs.Common.{◌≡◌, ℕ, suc, zero, ◌<◌, List, [], ◌∷◌, length, take, drop, get_or, refl, arith, rules, true, false, Bool, Some, None}
use Rattle.std.proofs.Common.{◌≤◌, cond, nltb→le}
use Rattle.std.specs.Prelude.{◌==◌, position, nat_lt}
use Rattle.std.specs.List.{position_or_len}
use Rattle.std.proofs.lemmas.List.Quantifiers.{position-Some}
use Rattle.std.proofs.lemmas.List.Sums.{fails_before_first}
use Rattle.udt_model.specs.Words.{words_of}

-- a line without a space is one word
without_space : (line : List ℕ) → ((k : ℕ) → k < length line → (get_or line k 0 == 32) ≡ false) → words_of line ≡ line ∷ []
unfolding words_of
without_space [] none = refl
without_space (c ∷ cs) none =
    let here : (c == 32) ≡ false = none 0 (omega arith) in
    let later : words_of cs ≡ cs ∷ [] = without_space cs (λ k small. none (suc k) (omega (arith, small))) in
    rw (here, later) refl

none_only : (b : Bool) (n : ℕ) → cond b (Some n) None ≡ None → b ≡ false
none_only true n h = absurd (search rules)
none_only false n h = refl

not_below : (m n : ℕ) → cond (nat_lt m n) (Some m) None ≡ None → n ≤ m
not_below m n h = let e : nat_lt m n ≡ false = none_only (nat_lt m n) m h in nltb→le m n (rw e tt)

pub one_word : (line : List ℕ) → position (λ byte. byte == 32) line ≡ None → words_of line ≡ line ∷ []
one_word line none =
    let past : length line ≤ position_or_len (λ byte. byte == 32) line = not_below _ _ none in
    without_space line (λ k small. fails_before_first (λ byte. byte == 32) line k 0 (omega (arith, small, past)))

-- the first word ends at the first space
before_space : (line : List ℕ) (at : ℕ) → at < length line → (get_or line at 0 == 32) ≡ true → ((k : ℕ) → k < at → (get_or line k 0 == 32) ≡ false) → words_of line ≡ take at line ∷ words_of (drop 1 (drop at line))
unfolding words_of
before_space [] at within is_space before = absurd (omega (arith, within))
before_space (c ∷ cs) zero within is_space before = rw is_space refl
before_space (c ∷ cs) (suc at) within is_space before =
    let here : (c == 32) ≡ false = before 0 (omega arith) in
    let later : words_of cs ≡ take at cs ∷ words_of (drop 1 (drop at cs)) = before_space cs at (omega (arith, within)) is_space (λ k small. before (suc k) (omega (arith, small))) in
    rw (here, later) refl

pub first_word : (line : List ℕ) (at : ℕ) → position (λ byte. byte == 32) line ≡ Some at → words_of line ≡ take at line ∷ words_of (drop 1 (drop at line))
first_word line at found =
    let p = position-Some (λ byte. byte == 32) line at 0 found in
    before_space line at p.0 p.1 p.2
