-- The power is one of ten, and no lower one reaches the number.
use Rattle.std.proofs.Common.{◌≡◌, ℕ, ◌-◌, ◌*◌, ◌^◌, ◌<◌}
use Rattle.udt_rate.proofs.formulas.least_power.Given as goal

abbrev pub invariant-loop-power : goal.invariant-loop-power
invariant-loop-power l =
    (k : ℕ) × (l.power ≡ 10 ^ k) × ((j : ℕ) → j < k → 10 ^ j < l.need)

abbrev pub decreases-loop-power : goal.decreases-loop-power
decreases-loop-power l = 10 * l.need - l.power
