-- Messages that follow one another in a direction, each cut into blocks of its own.
use Rattle.std.specs.Prelude.{◌≡◌, ℕ, ◌+◌, ◌-◌, ◌*◌, ◌≤◌, List, [], ◌∷◌, length, take, drop}
use Rattle.std.specs.List.{Contains}
use Rattle.udt_model.specs.declared.packets.Flags.{Flags}
use Rattle.udt_model.specs.History.{AskedMessage}
use Rattle.udt_model.specs.SendBlocks.{Message, count_for, flags_at}

-- a message with the bytes of all its blocks
pub record LaidMessage : Type 0 where
  pub message : Message
  pub bytes : List ℕ

-- what a history tells of it
abbrev pub asked_as : LaidMessage → AskedMessage
asked_as laid = record { first = laid.message.first; order = laid.message.order; bytes = laid.bytes }

-- each message has some bytes and begins where the one before it ends, the first one at this offset, in blocks of so many bytes
unfoldable pub AreLaidOut : ℕ → ℕ → List LaidMessage → Type 0
AreLaidOut payload start [] = Unit {0}
AreLaidOut payload start (laid ∷ others) =
    (laid.message.first ≡ start) × (1 ≤ length laid.bytes)
    × (laid.message.last + 1 ≡ start + count_for (length laid.bytes) payload)
    × AreLaidOut payload (laid.message.last + 1) others

-- the bytes and the flags are those of the block of this offset
pub record IsBlockOf (payload : ℕ) (messages : List LaidMessage) (offset : ℕ) (flags : Flags) (bytes : List ℕ) : Type 0 where
  pub laid : LaidMessage
  pub among : Contains messages laid
  pub from : laid.message.first ≤ offset
  pub to : offset ≤ laid.message.last
  pub flagged : flags ≡ flags_at laid.message offset
  pub carries : bytes ≡ take payload (drop ((offset - laid.message.first) * payload) laid.bytes)

-- the range is that of one message
pub record IsRangeOf (messages : List LaidMessage) (first last : ℕ) : Type 0 where
  pub laid : LaidMessage
  pub among : Contains messages laid
  pub begins : first ≡ laid.message.first
  pub ends : last ≡ laid.message.last
