-- The messages of kept blocks: where they lie, which have expired, and what is left to send once one is dropped.
use Rattle.std.specs.Prelude.{ℕ, ◌+◌, ◌<◌, ◌≤◌, max, List, [], ◌∷◌, Option, Some, None, if◌then◌else◌}
use Rattle.udt_model.specs.Losses.{without_range}
use Rattle.udt_model.specs.Numbers.{sequence_number}
use Rattle.udt_model.specs.SendBlocks.{Message, KeptBlock}
use Rattle.udt_model.specs.SendHalf.{Sending, has_passed}
use Rattle.udt_model.specs.Wire.{Packet, DropAsk}
use Rattle.udt_sender.specs.declared.sender.packing.Dropping.{Dropping}

-- each block lies within its message, which ends below the end of all. The first block has this offset
unfoldable pub LieInMessages : ℕ → ℕ → List KeptBlock → Type 0
LieInMessages end offset [] = Unit {0}
LieInMessages end offset (block ∷ others) =
    (block.message.first ≤ offset) × (offset ≤ block.message.last) × (block.message.last < end) × LieInMessages end (offset + 1) others

-- the message of a kept block, where there is one and it has expired at this moment
abbrev pub expired_of : ℕ → Option KeptBlock → Option Message
expired_of now None = None
expired_of now (Some block) = if has_passed now block.message.expires then Some block.message else None

-- what is told of a message that is to be dropped
abbrev pub dropping_of : Message → Dropping
dropping_of message = record { message = message.number; first = message.first; last = message.last }

-- the packet that asks for it
abbrev pub drop_packet_of : ℕ → ℕ → ℕ → Dropping → Packet
drop_packet_of isn stamp dest message =
    DropAsk message.message stamp dest (sequence_number isn message.first) (sequence_number isn message.last)

-- the half once it was asked for: none of the message's blocks is sent any more
abbrev pub after_dropping : {C : Type 0} → Sending C → Dropping → Sending C
after_dropping s message =
    record s { lost = without_range message.first message.last s.lost; next = max s.next (message.last + 1) }
