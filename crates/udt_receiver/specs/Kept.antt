-- What no packet, no timer and no reading changes.
use Rattle.std.specs.Prelude.{◌≡◌}
use Rattle.udt_model.specs.ReceiveHalf.{Receiving}

-- the initial sequence number, the agreed payload, and the room of a block and for blocks
pub record KeepsTerms (old new : Receiving) : Type 0 where
  pub isn : new.isn ≡ old.isn
  pub payload : new.payload ≡ old.payload
  pub room : new.blocks.payload ≡ old.blocks.payload
  pub capacity : new.blocks.capacity ≡ old.blocks.capacity
