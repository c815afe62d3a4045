use Rattle.std.proofs.Common.{◌≡◌, ◌≤◌, false}
use Rattle.udt_rcv_buffer.specs.Walked.{NoneBegins}
use Rattle.udt_rcv_buffer.proofs.messages.start_of.Given as goal

abbrev pub invariant-loop-start : goal.invariant-loop-start
invariant-loop-start l = record {
  within : l.start ≤ l.place;
  none : l.begins ≡ false → NoneBegins l.start l.place l.ring.list;
}

abbrev pub decreases-loop-start : goal.decreases-loop-start
decreases-loop-start l = l.start
