-- How far an increase goes.
use Rattle.std.proofs.Common.{ℕ, ◌*◌, ◌/◌, ◌≤◌, arith}
use Rattle.std.proofs.Math.Nat.{div-le_of_le-mul, le-div_iff_mul-le}
use Rattle.udt_model.specs.Rate.{power_of_ten}
use Rattle.udt_rate.proofs.Powers.{power_is_least, least_is_near}

-- each spare packet gives at most 120 millionths
pub adds_at_most :
    (spare packet : ℕ) → 1 ≤ spare → 1 ≤ packet
    → 3 * power_of_ten (spare * packet * 8) / (2 * packet) ≤ 120 * spare
adds_at_most spare packet some positive =
    let bits : 1 ≤ spare * packet * 8 = grind arith in
    let near = least_is_near (spare * packet * 8) bits in
    div-le_of_le-mul (2 * packet) (omega arith)

-- and at least twelve
pub adds_at_least :
    (spare packet : ℕ) → 1 ≤ packet
    → 12 * spare ≤ 3 * power_of_ten (spare * packet * 8) / (2 * packet)
adds_at_least spare packet positive =
    let reaches = (power_is_least (spare * packet * 8)).reaches in
    (le-div_iff_mul-le {k = 2 * packet} (omega arith)).1 (omega arith)
