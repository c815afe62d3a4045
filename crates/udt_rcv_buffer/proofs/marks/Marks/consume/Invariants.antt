use Rattle.std.proofs.Common.{◌≡◌, ◌+◌, max}
use Rattle.udt_rcv_buffer.specs.PlacedParts.{consume_parts}
use Rattle.udt_rcv_buffer.specs.Marked.{IsMarked}
use Rattle.udt_rcv_buffer.proofs.marks.Marks.consume.Given as goal

abbrev pub invariant-loop-i : goal.invariant-loop-i
invariant-loop-i l = record {
  list : l.ring.list ≡ consume_parts l.at l.i l.fn.ring.list;
  room : l.ring.room ≡ l.fn.ring.room;
  marked : IsMarked l.self l.ring.list;
  given : l.self.given ≡ l.fn.self.given;
  top : l.self.top ≡ max l.fn.self.top (l.at + l.count);
}
