-- Where some offset is lost, its block is kept.
use Rattle.std.proofs.Common.{◌≡◌, true, sym, subst, arith}
use Rattle.udt_model.specs.SendHalf.{Sending, due_moment, leaves_next}
use Rattle.udt_sender.specs.Halves.{sending_of}
use Rattle.udt_sender.specs.Packets.{leaves}
use Rattle.udt_sender.proofs.LostLemmas.{first_lost, some_least}
use Rattle.udt_sender.proofs.PackLemmas.{leaves-lost}
use Rattle.udt_sender.proofs.sender.Sender.has_block.Goals as goal

pub returns-then-len-gt0 : goal.returns-then-len-gt0
returns-then-len-gt0 g c =
    let i = c.self.invariant in
    let s = c.self.inside in
    let least = some_least s.loss.lost (omega (arith, c.if-len-gt0.true, c.len.ensures.value)) in
    let first = first_lost s.buffer s.next s.loss.lost least.0 i.lost i.unsent least.1 in
    subst (λ (s : Sending g.row.C.Denot). true ≡ leaves (leaves_next g.C.Control.ways s (due_moment g.C.Control.ways s) s.lost)) c.self.view_is
    (sym (leaves-lost g.C.Control.ways (sending_of s) (due_moment g.C.Control.ways (sending_of s)) least.0 first))
