use Rattle.std.proofs.Common.{◌≡◌, ◌-◌, ◌≤◌}
use Rattle.udt_rcv_buffer.specs.Marked.{IsMarked}
use Rattle.udt_rcv_buffer.proofs.marks.Marks.extend.Given as goal

abbrev pub invariant-loop-self : goal.invariant-loop-self
invariant-loop-self l = record {
  marked : IsMarked l.self l.ring.list;
  given : l.self.given ≡ l.fn.self.given;
  top : l.self.top ≡ l.fn.self.top;
  later : l.fn.self.run ≤ l.self.run;
}

abbrev pub decreases-loop-self : goal.decreases-loop-self
decreases-loop-self l = l.self.top - l.self.run
