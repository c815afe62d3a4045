-- The bytes that a receive gave.
use Rattle.std.specs.Prelude.{ℕ, List, take, Result, Ok, Err}
use Rattle.udt_model.specs.declared.answers.Refusal.{Refusal}

-- they stand at the front of its room
abbrev pub received_in : Result ℕ Refusal → List ℕ → Result (List ℕ) Refusal
received_in (Ok count) into = Ok (take count into)
received_in (Err why) into = Err why
