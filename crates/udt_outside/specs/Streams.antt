-- What one call moves between a buffer and an input or an output.
use Rattle.std.specs.Prelude.{◌≡◌, ℕ, ◌<◌, ◌≤◌, List, [], ◌++◌, length, take, drop, Option, Some, IfSome}

-- the first n bytes of what was left stand at the front of the buffer, and the rest is left
pub record MovesFront (before : List ℕ) (after : Option (List ℕ)) (buffer : List ℕ) (n : ℕ)
    : Type 0 where
  pub fits : n ≤ length before
  pub front : take n buffer ≡ take n before
  pub rest : after ≡ Some (drop n before)

-- where it is told what an input has left, a read moved the first n bytes of it into the buffer
abbrev pub Gives : Option (List ℕ) → Option (List ℕ) → List ℕ → ℕ → Type 0
Gives before after buffer n = IfSome before (λ left. MovesFront left after buffer n)

-- where it is told what an input has left, a read into some room that gave nothing was at its end
abbrev pub EndsOnlyWhenEmpty : Option (List ℕ) → ℕ → ℕ → Type 0
EndsOnlyWhenEmpty before room n = IfSome before (λ left. 0 < room → n ≡ 0 → left ≡ [])

-- where it is told what an output took, a write added the first n of the bytes at its end
abbrev pub Takes : Option (List ℕ) → Option (List ℕ) → List ℕ → ℕ → Type 0
Takes taken_before taken_after bytes n =
    IfSome taken_before (λ taken. taken_after ≡ Some (taken ++ take n bytes))
