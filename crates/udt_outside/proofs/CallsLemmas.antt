-- How many of the first calls fail.
use Rattle.std.proofs.Common.{◌≡◌, ℕ, ◌+◌, List, if◌then◌else◌, refl, add-one}
use Rattle.udt_outside.specs.Calls.{is_failing, failures_of}

-- with one more call, that call is counted if it is to fail
pub failures_next : (failing : List ℕ) (n : ℕ) → failures_of failing (n + 1) ≡ failures_of failing n + (if is_failing failing (n + 1) then 1 else 0)
failures_next failing n = rw (add-one n) refl
