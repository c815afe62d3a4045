-- The bytes that a generated run sends.
use Rattle.std.proofs.Common.{◌≡◌, ℕ, zero, suc, ◌+◌, ◌-◌, ◌≤◌, [], ◌∷◌, ◌++◌, length, take, refl, ap, ◌∙◌, arith}
use Rattle.std.specs.Prelude.{◌%◌, drop}
use Rattle.udt_model.specs.Generated.{counted_bytes}

pub no_bytes : (before : ℕ) → counted_bytes before 0 ≡ []
unfolding counted_bytes
no_bytes before = refl

pub counted-length : (before count : ℕ) → length (counted_bytes before count) ≡ count
unfolding counted_bytes
counted-length before zero = refl
counted-length before (suc count) = ap suc (counted-length (before + 1) count)

-- one more byte comes last
pub counted-push : (before count : ℕ) → counted_bytes before (suc count) ≡ counted_bytes before count ++ (before + count) % 251 ∷ []
unfolding counted_bytes
counted-push before zero = let same : before + 0 ≡ before = omega arith in rw same refl
counted-push before (suc count) =
    let moved : before + suc count ≡ (before + 1) + count = omega arith in
    rw moved (ap (λ bytes. before % 251 ∷ bytes) (counted-push (before + 1) count))

-- the first ones of them
pub counted-take : (before count most : ℕ) → count ≤ most → take count (counted_bytes before most) ≡ counted_bytes before count
unfolding counted_bytes
counted-take before zero most few = refl
counted-take before (suc count) zero few = absurd (omega (arith, few))
counted-take before (suc count) (suc most) few =
    ap (λ bytes. before % 251 ∷ bytes) (counted-take (before + 1) count most (omega (arith, few)))

-- and those after so many
pub counted-drop : (before count more : ℕ) → drop count (counted_bytes before (count + more)) ≡ counted_bytes (before + count) more
unfolding counted_bytes
counted-drop before zero more = let same : before + 0 ≡ before = omega arith in let all : 0 + more ≡ more = omega arith in rw (same, all) refl
counted-drop before (suc count) more =
    let moved : before + suc count ≡ (before + 1) + count = omega arith in
    let all : suc count + more ≡ suc (count + more) = omega arith in
    rw (moved, all) (counted-drop (before + 1) count more)

-- they are the same after each round
pub counted-round : (before other count : ℕ) → before % 251 ≡ other % 251 → counted_bytes before count ≡ counted_bytes other count
unfolding counted_bytes
counted-round before other zero same = refl
counted-round before other (suc count) same =
    let next : (before + 1) % 251 ≡ (other + 1) % 251 = omega (arith, same) in
    rw (same, counted-round (before + 1) (other + 1) count next) refl

-- those of a send stand in the pattern
pub counted_in : (before count most : ℕ) → before % 251 + count ≤ most
    → take count (drop (before % 251) (counted_bytes 0 most)) ≡ counted_bytes before count
counted_in before count most within =
    let most_is : most ≡ before % 251 + (most - before % 251) = omega (arith, within) in
    let less : count ≤ most - before % 251 = omega (arith, within) in
    let from : 0 + before % 251 ≡ before % 251 = omega arith in
    let twice : (before % 251) % 251 ≡ before % 251 = omega arith in
    let dropped : drop (before % 251) (counted_bytes 0 most) ≡ counted_bytes (before % 251) (most - before % 251) =
    ap (λ m. drop (before % 251) (counted_bytes 0 m)) most_is ∙ counted-drop 0 (before % 251) (most - before % 251)
    ∙ ap (λ m. counted_bytes m (most - before % 251)) from in
    rw dropped (counted-take (before % 251) count (most - before % 251) less ∙ counted-round (before % 251) before count twice)
