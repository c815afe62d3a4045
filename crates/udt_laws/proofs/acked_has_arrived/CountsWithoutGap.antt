-- What is counted without a gap: where all offsets of a stretch are among the given ones, at least the stretch.
use Rattle.std.proofs.Common.{◌≡◌, ℕ, zero, suc, ◌+◌, ◌<◌, ◌≤◌, true, false, List, [], ◌∷◌, length, refl, arith}
use Rattle.std.specs.Prelude.{◌==◌, ◌||◌, if◌then◌else◌}
use Rattle.std.specs.List.{list_any}
use Rattle.std.proofs.lemmas.Bool.{eqb-true}
use Rattle.std.proofs.lemmas.Bool.Decides.{nat_tests}
use Rattle.udt_model.specs.History.{gapless}

-- the offset is one of these
abbrev pub IsAmong : ℕ → List ℕ → Type 0
IsAmong offset offsets = list_any (λ n. n == offset) offsets ≡ true

-- each offset from the start on and below the end meets this
abbrev pub AllBetween : (ℕ → Type 0) → ℕ → ℕ → Type 0
AllBetween P start end = (n : ℕ) → start ≤ n → n < end → P n

-- these offsets without one place of this one
abbrev without : ℕ → List ℕ → List ℕ
without offset [] = []
without offset (first ∷ others) = if first == offset then others else first ∷ without offset others

length-without : (offset : ℕ) (offsets : List ℕ) → IsAmong offset offsets → length offsets ≡ length (without offset offsets) + 1
length-without offset [] among = absurd (cc)
length-without offset (first ∷ others) among =
    elim (first == offset) as (λ here. (here || list_any (λ n. n == offset) others) ≡ true
    → length (first ∷ others) ≡ length (if here then others else first ∷ without offset others) + 1) [
      | true ↦ λ found. omega arith
      | false ↦ λ found. let later = length-without offset others found in omega (arith, later)
    ] among

among-without : (offset other : ℕ) (offsets : List ℕ) → (offset ≡ other → ⊥) → IsAmong other offsets → IsAmong other (without offset offsets)
among-without offset other [] differ among = among
among-without offset other (first ∷ others) differ among =
    elim (first == offset) as (λ here. (first == offset) ≡ here → IsAmong other (if here then others else first ∷ without offset others)) [
      | true ↦ λ same. grind (arith, nat_tests, eqb-true first offset same)
      | false ↦ λ apart. elim (first == other) as (λ found. (found || list_any (λ n. n == other) others) ≡ true
          → (found || list_any (λ n. n == other) (without offset others)) ≡ true) [
            | true ↦ λ is. refl
            | false ↦ λ later. among-without offset other others differ later
          ] among
    ] refl

-- this many different offsets stand at this many places
pub stretch-fits : (k start : ℕ) (offsets : List ℕ) → AllBetween (λ n. IsAmong n offsets) start (start + k) → k ≤ length offsets
stretch-fits zero start offsets all = omega arith
stretch-fits (suc k) start offsets all =
    let last = all (start + k) (omega arith) (omega arith) in
    let fits = stretch-fits k start (without (start + k) offsets)
    (λ n low high. among-without (start + k) n offsets (λ same. omega arith) (all n low (omega arith))) in
    omega (arith, fits, length-without (start + k) offsets last)

-- a stretch is counted where it may be
stretch-counted : (most k start : ℕ) (offsets : List ℕ) → k ≤ most → AllBetween (λ n. IsAmong n offsets) start (start + k)
    → k ≤ gapless most start offsets
unfolding gapless
stretch-counted zero k start offsets few all = few
stretch-counted (suc most) zero start offsets few all = omega arith
stretch-counted (suc most) (suc k) start offsets few all =
    let next = stretch-counted most k (start + 1) offsets (omega arith) (λ n low high. all n (omega arith) (omega arith)) in
    let here : IsAmong start offsets = all start (omega arith) (omega arith) in
    rw here (omega (arith, next))

-- so all of it is counted
pub gapless-stretch : (k start : ℕ) (offsets : List ℕ) → AllBetween (λ n. IsAmong n offsets) start (start + k)
    → k ≤ gapless (length offsets) start offsets
gapless-stretch k start offsets all = stretch-counted (length offsets) k start offsets (stretch-fits k start offsets all) all
