use Rattle.std.proofs.Common.{◌≡◌, ◌+◌, max, Some, ap, refl, ◌∙◌, arith}
use Rattle.std.specs.Prelude.{slice_get}
use Rattle.udt_rcv_buffer.specs.declared.marks.Marks.{Marks}
use Rattle.udt_ring.proofs.JoinedLemmas.{joined-take_le, joined_more_len}
use Rattle.udt_rcv_buffer.proofs.MarkLemmas.{grown}
use Rattle.udt_rcv_buffer.proofs.marks.Marks.add.Goals as goal
use Rattle.udt_rcv_buffer.proofs.marks.Marks.add.Goals.{Then-self-place}

-- the part follows the run
found : (c : Then-self-place) → slice_get c.args.ring.now.list c.args.self.now.run ≡ Some c.requires.block.part
found c = ap (slice_get c.args.ring.now.list) c.if-self-place.true ∙ c.requires.block.found

pub overflow_add-self-then-self-place : goal.overflow_add-self-then-self-place
overflow_add-self-then-self-place c =
    let parts = c.args.ring.now.list in
    let run = c.args.self.now.run in
    let more = joined_more_len parts run c.requires.block.part (found ((goal.at.overflow_add-self-then-self-place c).Then-self-place)) in
    omega (arith, c.requires.fits, joined-take_le (run + 1) parts, more, c.requires.marked.bytes, c.requires.block.bytes)

pub extend-requires : goal.extend-requires
extend-requires c =
    let old = c.args.self.now in
    let marks : Marks = record old { top = max old.top (c.args.place + 1) } in
    let block = c.requires.block in
    grown marks _ c.args.ring.now.list block.part c.requires.marked (found ((goal.at.extend-requires c).Then-self-place)) block.used refl (omega (arith, block.bytes)) c.max-self.ensures
