-- What near answers: the one offset near the base with this sequence number, and none where there is none.
use Rattle.std.proofs.Common.{◌≡◌, ℕ, ◌+◌, ◌-◌, ◌^◌, ◌<◌, ◌≤◌, Some, None, arith}
use Rattle.std.proofs.lemmas.Bool.Decides.{nat_tests}
use Rattle.udt_model.specs.Numbers.{sequence_number, IsNear, ahead_of, near}

-- the offset that lies ahead has the sequence number
ahead-carries : (isn base number : ℕ) → number < 2 ^ 31 → sequence_number isn (base + ahead_of isn base number) ≡ number
ahead-carries isn base number fits = omega arith

-- and so has the one that lies after
following-carries : (isn base number : ℕ) → number < 2 ^ 31 → 2 ^ 31 ≤ base + ahead_of isn base number
    → sequence_number isn (base + ahead_of isn base number - 2 ^ 31) ≡ number
following-carries isn base number fits far = omega arith

-- each offset that near answers is near
pub near-found : (isn base number offset : ℕ) → near isn base number ≡ Some offset → IsNear isn base number offset
unfolding near
near-found isn base number offset found = record {
  carries = grind (arith, nat_tests, found, ahead-carries isn base number, following-carries isn base number);
  not_above = grind (arith, nat_tests, found);
  not_below = grind (arith, nat_tests, found);
}

-- and each that is near is answered
pub near-is : (isn base number offset : ℕ) → IsNear isn base number offset → near isn base number ≡ Some offset
unfolding near
near-is isn base number offset is_near = grind (arith, nat_tests)

-- so where near answers none, no offset is near
pub near-none : (isn base number offset : ℕ) → near isn base number ≡ None → IsNear isn base number offset → ⊥
near-none isn base number offset none is_near = cc (near-is isn base number offset is_near)

-- two offsets near one base that have one sequence number are the same
pub near-unique : (isn base number m n : ℕ) → IsNear isn base number m → IsNear isn base number n → m ≡ n
near-unique isn base number m n left right = omega arith
