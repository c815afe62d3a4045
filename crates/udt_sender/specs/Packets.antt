-- What packing writes and answers.
use Rattle.std.specs.Prelude.{◌≡◌, ℕ, ◌+◌, ◌^◌, ◌<◌, ◌≤◌, Bool, true, false, List, ◌++◌, length, drop, Option, Some, None}
use Rattle.udt_model.specs.declared.answers.Packed.{Packed}
use Rattle.udt_model.specs.declared.answers.Packed.TheVariants as packed
use Rattle.udt_model.specs.SendBlocks.{KeptBlock}
use Rattle.udt_model.specs.SendHalf.{Packing, Waits, Retransmits, Drops, Sends, Idles}
use Rattle.udt_model.specs.Wire.{Packet, spelling}

-- a kept block can be sent: it carries its message's number, which has 29 bits, and has a byte at least and no more than
-- the payload
pub record IsSound (payload : ℕ) (block : KeptBlock) : Type 0 where
  pub number : block.flags.message ≡ block.message.number
  pub message : block.flags.message < 2 ^ 29
  pub some : 0 < length block.bytes
  pub fits : length block.bytes ≤ payload

-- the bytes with the spelling of a packet in front of the others, where there is one
abbrev pub with_packet : Option Packet → List ℕ → List ℕ
with_packet None into = into
with_packet (Some packet) into = spelling packet ++ drop (length (spelling packet)) into

-- a packet leaves
abbrev pub leaves : Packing → Bool
leaves (Waits until) = false
leaves (Retransmits offset block) = true
leaves (Drops message) = true
leaves (Sends block) = true
leaves Idles = false

-- a datagram with a block has four words, a byte at least, and no more bytes than the payload. One that asks to drop a message
-- has six words
abbrev pub IsSized : ℕ → Packed → Type 0
IsSized payload (packed.Block size) = (17 ≤ size) × (size ≤ 16 + payload)
IsSized payload (packed.DropAsk size) = size ≡ 24
IsSized payload (packed.NotYet until) = Unit {0}
IsSized payload packed.Nothing = Unit {0}
