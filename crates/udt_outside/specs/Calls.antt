-- The calls of an object in memory, of which some are to fail.
use Rattle.std.specs.Prelude.{ℕ, zero, suc, ◌+◌, ◌-◌, ◌^◌, min, Bool, ◌&&◌, ◌==◌, nat_lt, List, if◌then◌else◌}
use Rattle.std.specs.List.{list_any}

-- the numbers of the calls that are to fail, from 1, and how many calls were made
pub record Schedule : Type 0 where
  pub failing : List ℕ
  pub made : ℕ

-- whether the call of this number is to fail
abbrev pub is_failing : List ℕ → ℕ → Bool
is_failing failing number = list_any (λ n. n == number) failing

-- how many of the first calls are to fail
abbrev pub failures_of : List ℕ → ℕ → ℕ
failures_of failing zero = 0
failures_of failing (suc n) = failures_of failing n + (if is_failing failing (suc n) then 1 else 0)

-- how many of the calls made so far failed
abbrev pub failed_of : Schedule → ℕ
failed_of s = failures_of s.failing s.made

-- whether the next call fails; a call past the number 2^64 - 1 is in no list
abbrev pub fails_next : Schedule → Bool
fails_next s = nat_lt s.made (2 ^ 64 - 1) && is_failing s.failing (s.made + 1)

-- one more call was made; the count of calls ends at 2^64 - 1
abbrev pub after_call : Schedule → Schedule
after_call s = record s { made = min (s.made + 1) (2 ^ 64 - 1) }
