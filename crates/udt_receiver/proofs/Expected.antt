-- The packet that is expected, which is the one at the top.
use Rattle.std.proofs.Common.{◌≡◌, ℕ, Some, sym, arith}
use Rattle.udt_model.specs.Numbers.{sequence_number, near}
use Rattle.udt_model.proofs.NearLemmas.{near-is}

-- its sequence number is that of the offset at the top
pub near_top : (isn top number : ℕ) → number ≡ sequence_number isn top → near isn top number ≡ Some top
near_top isn top number is = near-is isn top number top (record { carries = sym is; not_above = omega arith; not_below = omega arith })
