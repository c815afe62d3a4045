-- The law of every control, for the fixed control.
use Rattle.std.proofs.Common.{ℕ, arith}
use Rattle.udt_model.specs.Rate.{IsInBounds}
use Rattle.udt_model.specs.declared.limits.TheConstants.{GREATEST_WINDOW}
use Rattle.udt_model.specs.Controls.{fixed_period}

-- the largest window and a fixed period are in the bounds
pub fixed_is_in_bounds : (period : ℕ) → IsInBounds GREATEST_WINDOW (fixed_period period)
fixed_is_in_bounds period = record { least = omega arith; longest = omega arith }
