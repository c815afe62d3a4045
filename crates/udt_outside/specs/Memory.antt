-- The inputs and outputs in memory.
use Rattle.std.specs.Prelude.{◌≡◌, ℕ, ◌+◌, ◌-◌, ◌^◌, min, Bool, ◌&&◌, ◌||◌, nat_lt, ◌==◌, List, [], ◌++◌, Option, Some, length, take, drop, if◌then◌else◌}
use Rattle.udt_outside.specs.Calls.{Schedule, failed_of, fails_next, after_call}

-- an input: what it has left, how many bytes a call gives at most, and its calls
pub record Input : Type 0 where
  pub left : List ℕ
  pub piece : ℕ
  pub calls : Schedule

-- what it has left is told
abbrev pub to_give : Input → Option (List ℕ)
to_give s = Some s.left

-- how many calls failed
abbrev pub read_faults : Input → ℕ
read_faults s = failed_of s.calls

-- an input that was just made: its piece, and the calls that are to fail
pub record IsFreshInput (s : Input) (piece : ℕ) (failing : List ℕ) : Type 0 where
  pub piece_is : s.piece ≡ piece
  pub failing_is : s.calls.failing ≡ failing
  pub none_made : s.calls.made ≡ 0

-- how many bytes a read into this much room gives
abbrev pub given_of : Input → ℕ → ℕ
given_of s room = min s.piece (min room (length s.left))

-- a call was made, and n bytes were given
abbrev pub after_giving : Input → ℕ → Input
after_giving s n = record s { left = drop n s.left; calls = after_call s.calls }

-- an output: what it took, how much it takes in all and at most in a call, its calls, and how
-- many of them were refused for want of room
pub record Output : Type 0 where
  pub taken : List ℕ
  pub room : ℕ
  pub piece : ℕ
  pub calls : Schedule
  pub refused : ℕ

-- an output that was just made
pub record IsFreshOutput (s : Output) (room piece : ℕ) (failing : List ℕ) : Type 0 where
  pub taken : s.taken ≡ []
  pub room_is : s.room ≡ room
  pub piece_is : s.piece ≡ piece
  pub failing_is : s.calls.failing ≡ failing
  pub none_made : s.calls.made ≡ 0
  pub none_refused : s.refused ≡ 0

-- what it took is told
abbrev pub took : Output → Option (List ℕ)
took s = Some s.taken

-- how many calls failed, by the list or for want of room
abbrev pub write_faults : Output → ℕ
write_faults s = min (failed_of s.calls + s.refused) (2 ^ 64 - 1)

-- how much it may still take
abbrev pub space_of : Output → ℕ
space_of s = s.room - length s.taken

-- whether there is no room for any of the bytes
abbrev pub is_refused : Output → List ℕ → Bool
is_refused s bytes = (space_of s == 0) && nat_lt 0 (length bytes)

-- whether a write fails: by the list, or for want of room
abbrev pub write_fails : Output → List ℕ → Bool
write_fails s bytes = fails_next s.calls || is_refused s bytes

-- how many bytes a write takes
abbrev pub taken_of : Output → List ℕ → ℕ
taken_of s bytes = min s.piece (min (length bytes) (space_of s))

-- a call was made, and the first n bytes were taken
abbrev pub after_taking : Output → List ℕ → ℕ → Output
after_taking s bytes n = record s { taken = s.taken ++ take n bytes; calls = after_call s.calls }

-- a call that failed by the list is counted there; one that was refused is counted by itself
abbrev pub after_failing : Output → Output
after_failing s =
    record s {
      refused = if fails_next s.calls then s.refused else min (s.refused + 1) (2 ^ 64 - 1);
      calls = after_call s.calls;
    }
