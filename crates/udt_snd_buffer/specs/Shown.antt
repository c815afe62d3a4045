-- What is shown of a kept block.
use Rattle.std.specs.Prelude.{ℕ, List, Option}
use Rattle.udt_model.specs.declared.packets.Flags.{Flags}
use Rattle.udt_model.specs.SendBlocks.{KeptBlock}
use Rattle.udt_snd_buffer.specs.declared.buffer.Block.{Block}

-- a block's bytes and flags, and when it expires
pub record Shown : Type 0 where
  pub bytes : List ℕ
  pub flags : Flags
  pub expires : Option ℕ

-- of a block that is lent
abbrev pub shown : Block → Shown
shown block = record { bytes = block.bytes.now; flags = block.flags; expires = block.expires }

-- of one that is kept
abbrev pub shown_of : KeptBlock → Shown
shown_of block = record { bytes = block.bytes; flags = block.flags; expires = block.message.expires }
