-- What is taken from joined lists.
use Rattle.std.proofs.Common.{◌≡◌, ℕ, zero, suc, ◌-◌, List, [], ◌∷◌, ◌++◌, length, take, drop, refl, ◌∙◌, ap, arith, append_assoc}
use Rattle.std.proofs.lemmas.List.{take_at}
use Rattle.udt_model.specs.Emissions.{IsPrefix}

-- what is taken of two lists is taken of the first, and then of the second
pub take-append : {X : Type 0} (n : ℕ) (xs ys : List X) → take n (xs ++ ys) ≡ take n xs ++ take (n - length xs) ys
take-append zero xs ys = grind arith
take-append (suc n) [] ys = let none : suc n ≡ suc n - 0 = omega arith in ap (λ k. take k ys) none
take-append (suc n) (x ∷ xs) ys = ap (λ zs. x ∷ zs) (take-append n xs ys) ∙ grind arith

-- and so what is dropped
pub drop-append : {X : Type 0} (n : ℕ) (xs ys : List X) → drop n (xs ++ ys) ≡ drop n xs ++ drop (n - length xs) ys
drop-append zero xs ys = grind arith
drop-append (suc n) [] ys = let none : suc n ≡ suc n - 0 = omega arith in ap (λ k. drop k ys) none
drop-append (suc n) (x ∷ xs) ys = drop-append n xs ys ∙ grind arith

-- a prefix is what is taken at its length
pub IsPrefix-taken : (xs ys : List ℕ) → IsPrefix xs ys → take (length xs) ys ≡ xs
IsPrefix-taken xs ys (rest, is) = ap (take (length xs)) is ∙ take_at xs rest (length xs) refl

-- and so is a prefix of it
pub IsPrefix-shorter : (xs ys zs : List ℕ) → IsPrefix (xs ++ ys) zs → IsPrefix xs zs
IsPrefix-shorter xs ys zs (rest, is) = (ys ++ rest, is ∙ append_assoc xs ys rest)

-- what is longer has the same prefixes, and more
pub IsPrefix-longer : (xs ys zs : List ℕ) → IsPrefix xs ys → IsPrefix xs (ys ++ zs)
IsPrefix-longer xs ys zs (rest, is) = (rest ++ zs, ap (λ ws. ws ++ zs) is ∙ append_assoc xs rest zs)
