-- A datagram in a piece of memory.
use Rattle.std.specs.Prelude.{◌≡◌, ◌≤◌, length, take}
use Rattle.udt_model.specs.State.{Datagram}
use Rattle.udt_queues.specs.declared.buffer.TheConstants.{MOST_BYTES}
use Rattle.udt_queues.specs.declared.buffer.Buffer.TheInside.{Inside}

-- the datagram that was written last
abbrev pub datagram_of : Inside → Datagram
datagram_of b = record { addr = b.to; bytes = take b.len b.memory.items }

-- the memory has room for any datagram, and holds this one
pub record IsBuffer (b : Inside) : Type 0 where
  pub room : length b.memory.items ≡ MOST_BYTES
  pub len : b.len ≤ MOST_BYTES
