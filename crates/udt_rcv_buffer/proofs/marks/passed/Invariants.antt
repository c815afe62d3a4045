use Rattle.std.proofs.Common.{◌≡◌, ◌+◌, length, take}
use Rattle.udt_ring.specs.Parts.{joined}
use Rattle.udt_rcv_buffer.proofs.marks.passed.Given as goal

abbrev pub invariant-loop-count : goal.invariant-loop-count
invariant-loop-count l = length (joined (take l.count l.ring.list)) + l.left ≡ l.given
