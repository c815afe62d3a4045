use Rattle.std.proofs.Common.{◌≡◌, Some}
use Rattle.std.specs.Prelude.{slice_get}
use Rattle.udt_rcv_buffer.specs.declared.messages.Begun.{Begun}
use Rattle.udt_rcv_buffer.specs.Messages.{IsBegun}
use Rattle.udt_rcv_buffer.specs.Walked.{gapless_at, begun_by, begun_at, NoneEnds}
use Rattle.udt_rcv_buffer.proofs.messages.walk_from.Given as goal

abbrev pub invariant-loop-i : goal.invariant-loop-i
invariant-loop-i l = record {
  begun : (b : Begun) → l.begun ≡ Some b → IsBegun l.i l.ring.list b;
  gapless : l.gapless ≡ gapless_at l.i l.ring.list;
  same : begun_by (begun_at l.i l.ring.list) l.i l.gapless (slice_get l.ring.list l.i) ≡ begun_by l.begun l.i l.gapless (slice_get l.ring.list l.i);
  none : NoneEnds l.i l.ring.list;
}
