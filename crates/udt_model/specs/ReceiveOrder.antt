-- How the blocks, the top and the missing packets of a receiving half lie.
use Rattle.std.specs.Prelude.{◌≡◌, ℕ, ◌+◌, ◌-◌, ◌<◌, ◌≤◌, true, false, List, nat_lt, if◌then◌else◌}
use Rattle.udt_model.specs.Losses.{Missing, is_missing, with_missing, without_missing}
use Rattle.udt_model.specs.ReceiveBlocks.{ReceiveBlocks, is_taken}

-- each offset from the base up to the top has a block or is missing, and not both. No other offset has or is
pub record IsInOrder (blocks : ReceiveBlocks) (top : ℕ) (missing : List Missing) : Type 0 where
  pub base : blocks.base ≤ top
  pub room : top ≤ blocks.base + blocks.capacity
  pub from : (n : ℕ) → is_missing n missing ≡ true → blocks.base ≤ n
  pub below : (n : ℕ) → is_missing n missing ≡ true → n < top
  pub absent : (n : ℕ) → is_missing n missing ≡ true → is_taken n blocks.placed ≡ false
  pub placed : (n : ℕ) → is_taken n blocks.placed ≡ true → n < top
  pub all : (n : ℕ) → blocks.base ≤ n → n < top → is_missing n missing ≡ false → is_taken n blocks.placed ≡ true

-- what is missing below a top once a block of this offset was placed: the offsets that it shows to be missing too, or
-- all but its own
abbrev pub missing_then : ℕ → ℕ → ℕ → List Missing → List Missing
missing_then top now offset missing =
    if nat_lt top offset
    then with_missing top (offset - 1) now missing
    else (if nat_lt offset top then without_missing offset offset missing else missing)

-- what is missing below a top once a range of offsets was taken: the offsets that it shows to be missing too, or all but its
-- own
abbrev pub missing_past : ℕ → ℕ → ℕ → ℕ → List Missing → List Missing
missing_past top now first last missing =
    if nat_lt top first then with_missing top (first - 1) now missing else without_missing first last missing
