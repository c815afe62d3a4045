-- What a socket is ready for.
use Rattle.std.specs.Prelude.{ℕ, ◌+◌, ◌*◌, ◌==◌, Bool, true, false, not, ◌&&◌, ◌||◌, length, is_some}
use Rattle.udt_model.specs.Phases.{Phase, Backlog, is_closed}
use Rattle.udt_model.specs.Phases as phase
use Rattle.udt_model.specs.declared.packets.Kind.{Kind}
use Rattle.udt_model.specs.declared.packets.Kind.TheVariants as kind
use Rattle.udt_model.specs.Wire.{bit}
use Rattle.udt_model.specs.State.{State}
use Rattle.udt_model.specs.ReceiveBlocks.{ReceiveBlocks, waiting_of, next_message}
use Rattle.udt_model.specs.SendBlocks.{free_of}

-- ---- readiness

-- the socket is connected
abbrev pub is_connected : Phase → Bool
is_connected phase.Connected = true
is_connected other = false

-- its connection was lost
abbrev pub is_broken : Phase → Bool
is_broken (phase.Broken why) = true
is_broken other = false

-- it was lost, didn't come about, or the socket is closed for good
abbrev pub is_over : Phase → Bool
is_over (phase.Broken why) = true
is_over (phase.Failed why) = true
is_over phase.Closed = true
is_over other = false

-- a listener has a connection to be accepted
abbrev pub has_offered : Phase → Bool
has_offered (phase.Listening b) = not (length b.offered == 0)
has_offered other = false

-- a byte of a stream waits, or a message is readable
abbrev pub has_readable : ReceiveBlocks → Kind → Bool
has_readable b kind.Stream = not (length (waiting_of b) == 0)
has_readable b kind.Message = is_some (next_message b)

module _ {C : Type 0} where
  -- a byte or a message can be received
  abbrev pub can_read : State C → Bool
  can_read s = (is_connected s.phase || is_broken s.phase) && has_readable s.receiving.blocks s.kind

  -- a block is free
  abbrev pub can_write : State C → Bool
  can_write s = is_connected s.phase && not (free_of s.sending.blocks == 0)

  -- what a socket is ready for, as bits: 1 that bytes or a message can be read, 2 that some can be written, 4 that it is cut off,
  -- failed or closed, 8 that a connection can be accepted, 16 that it is connected, 32 that it is closed
  unfoldable pub ready_bits : State C → ℕ
  ready_bits s =
      bit (can_read s) + 2 * bit (can_write s) + 4 * bit (is_over s.phase) + 8 * bit (has_offered s.phase)
      + 16 * bit (is_connected s.phase) + 32 * bit (is_closed s.phase)
