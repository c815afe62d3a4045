-- What reading a message leaves, by whether one was given.
use Rattle.std.specs.Prelude.{ℕ}
use Rattle.udt_rcv_buffer.specs.declared.answers.Got.{Got}
use Rattle.udt_rcv_buffer.specs.declared.answers.Got.TheVariants as got

-- this holds of how many bytes the message has, where one was given
abbrev pub IfWhole : Got → (ℕ → Type 0) → Type 0
IfWhole (got.Whole count) P = P count
IfWhole (got.TooLarge count) P = Unit {0}
IfWhole got.Nothing P = Unit {0}

-- this holds where none was
abbrev pub UnlessWhole : Got → Type 0 → Type 0
UnlessWhole (got.Whole count) P = Unit {0}
UnlessWhole (got.TooLarge count) P = P
UnlessWhole got.Nothing P = P
