use Rattle.std.proofs.Common.{◌≡◌, ◌-◌, ◌≤◌, ◌++◌, length, take, drop}
use Rattle.udt_ring.specs.Parts.{joined}
use Rattle.udt_rcv_buffer.proofs.copies.copy_parts.Given as goal

abbrev pub invariant-loop-filled : goal.invariant-loop-filled
invariant-loop-filled l = record {
  filled : l.filled ≤ l.count;
  part : l.part ≤ length l.ring.list;
  bytes : l.count - l.filled ≤ length (joined (drop l.part l.ring.list));
  front : take l.filled l.into ++ take (l.count - l.filled) (joined (drop l.part l.ring.list))
      ≡ take l.there l.fn.into ++ take (l.count - l.there) (joined (drop l.first l.ring.list));
  rest : drop l.filled l.into ≡ drop l.filled l.fn.into;
}

abbrev pub decreases-loop-filled : goal.decreases-loop-filled
decreases-loop-filled l = length l.ring.list - l.part
