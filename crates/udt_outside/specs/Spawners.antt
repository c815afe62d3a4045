-- The spawner that refuses jobs as a list says.
use Rattle.std.specs.Prelude.{ℕ, ◌+◌, ◌-◌, ◌^◌, min, if◌then◌else◌}
use Rattle.udt_outside.specs.Calls.{Schedule, failed_of, fails_next, after_call}

-- its calls, and how many starts gave nothing
pub record Starts : Type 0 where
  pub calls : Schedule
  pub refused : ℕ

-- how many calls failed, by the list or since the start gave nothing
abbrev pub start_faults : Starts → ℕ
start_faults s = min (failed_of s.calls + s.refused) (2 ^ 64 - 1)

-- a job was started
abbrev pub after_start : Starts → Starts
after_start s = record s { calls = after_call s.calls }

-- a job was refused by the list, or else its start gave nothing and is counted by itself
abbrev pub after_refusal : Starts → Starts
after_refusal s =
    record s {
      calls = after_call s.calls;
      refused = if fails_next s.calls then s.refused else min (s.refused + 1) (2 ^ 64 - 1);
    }
