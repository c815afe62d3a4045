-- Draws: numbers in a fixed order that depends on where they start, for networks that lose, repeat and reorder.
use Rattle.std.specs.Prelude.{ℕ, ◌+◌, ◌*◌, ◌/◌, ◌%◌, ◌^◌}

-- where the draws stand after one more, from where they stood
abbrev pub next_state : ℕ → ℕ
next_state state = (6364136223846793005 * state + 1442695040888963407) % 2 ^ 64

-- what a draw gives: the upper bits of where the draws stand after it, a number below 2^31
abbrev pub draw : ℕ → ℕ
draw state = next_state state / 2 ^ 33
