-- What was received, as it lies in memory.
use Rattle.std.specs.Prelude.{◌+◌, ◌^◌, ◌≤◌, length}
use Rattle.udt_model.specs.ReceiveBlocks.{ReceiveBlocks}
use Rattle.udt_rcv_buffer.specs.declared.buffer.RcvBuffer.TheInside.{Inside}
use Rattle.udt_rcv_buffer.specs.PlacedParts.{placed_from, IsSettled}
use Rattle.udt_rcv_buffer.specs.Marked.{IsMarked, EndsRun}
use Rattle.udt_rcv_buffer.specs.Walks.{KnowsNext}

-- the first part is that of the base
abbrev pub received_of : Inside → ReceiveBlocks
received_of b = record {
  payload = b.ring.room;
  capacity = length b.ring.list;
  base = b.base;
  given = b.marks.given;
  placed = placed_from b.base b.ring.list;
}

-- what is kept in mind is so, the run is as long as may be, and offsets don't wrap
pub record IsReceived (b : Inside) : Type 0 where
  pub few : length b.ring.list ≤ 2 ^ 32
  pub marked : IsMarked b.marks b.ring.list
  pub run : EndsRun b.marks.run b.ring.list
  pub settled : IsSettled b.marks.given b.ring.list
  pub limit : b.base + b.marks.top ≤ 2 ^ 62
  pub next : KnowsNext b.next b.ring.list
