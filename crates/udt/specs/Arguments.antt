-- The arguments of the program.
use Rattle.std.specs.Prelude.{String, ℕ, List, drop}
use Rattle.udt_tool.specs.Commands.{spelled}

-- the bytes of the words after the first argument, which is the program's name
abbrev pub command_of : {A : Type 0} → List (String A) → List (List ℕ)
command_of args = spelled (drop 1 args)
