use Rattle.std.proofs.Common.{◌≡◌, ◌+◌, ◌-◌, ◌≤◌, ◌++◌, length, take, drop}
use Rattle.udt_rcv_buffer.proofs.copies.copy_out.Given as goal
use Rattle.udt_ring.specs.Parts.{joined}

abbrev pub invariant-loop-skip : goal.invariant-loop-skip
invariant-loop-skip l = record {
  filled : l.filled ≤ l.count;
  part : l.part ≤ length l.ring.list;
  bytes : l.skip + (l.count - l.filled) ≤ length (joined (drop l.part l.ring.list));
  front : take l.filled l.into ++ take (l.count - l.filled) (drop l.skip (joined (drop l.part l.ring.list)))
      ≡ take l.count (drop l.fn.skip (joined (drop l.first l.ring.list)));
  rest : drop l.filled l.into ≡ drop l.filled l.fn.into;
}

abbrev pub decreases-loop-skip : goal.decreases-loop-skip
decreases-loop-skip l = length l.ring.list - l.part
