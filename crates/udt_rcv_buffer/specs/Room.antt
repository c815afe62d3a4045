-- What no call changes.
use Rattle.std.specs.Prelude.{◌≡◌}
use Rattle.udt_model.specs.ReceiveBlocks.{ReceiveBlocks}

-- blocks have as much room as before, and there is room for as many
pub record KeepsRoom (old new : ReceiveBlocks) : Type 0 where
  pub payload : new.payload ≡ old.payload
  pub capacity : new.capacity ≡ old.capacity
