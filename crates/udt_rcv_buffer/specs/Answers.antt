-- The answers of the code, by the definitions of the protocol.
use Rattle.std.specs.Prelude.{ℕ, List, ◌++◌, drop, length, nat_le, Option, Some, None, if◌then◌else◌}
use Rattle.udt_model.specs.ReceiveBlocks.{WholeMessage}
use Rattle.udt_rcv_buffer.specs.declared.answers.Got.{Got}
use Rattle.udt_rcv_buffer.specs.declared.answers.Got.TheVariants as got

-- what reading a message into so much room gives, where this one is the next
abbrev pub got_of : ℕ → Option WholeMessage → Got
got_of room None = got.Nothing
got_of room (Some m) = if nat_le (length m.bytes) room then got.Whole (length m.bytes) else got.TooLarge (length m.bytes)

-- the room then: the message at its front, where it fits
abbrev pub shown_in : List ℕ → Option WholeMessage → List ℕ
shown_in into None = into
shown_in into (Some m) = if nat_le (length m.bytes) (length into) then m.bytes ++ drop (length m.bytes) into else into
