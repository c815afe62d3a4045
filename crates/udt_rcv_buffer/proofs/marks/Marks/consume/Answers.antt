use Rattle.std.proofs.Common.{◌≡◌, ◌+◌, ◌-◌, ◌<◌, cond, ltb, length, ap, refl, ◌∙◌, sym, arith}
use Rattle.std.proofs.lemmas.Bool.{lt-ltb, le-ltb}
use Rattle.udt_rcv_buffer.specs.declared.marks.Marks.{Marks}
use Rattle.udt_rcv_buffer.specs.declared.head.Head.{Head}
use Rattle.udt_ring.specs.Parts.{Parts}
use Rattle.udt_rcv_buffer.proofs.MarkLemmas.{bytes_within, consumed, higher}
use Rattle.udt_rcv_buffer.proofs.PlacedLemmas.{length-consume_parts, consume_none, consume_more}
use Rattle.udt_rcv_buffer.proofs.marks.Marks.consume.Goals as goal
use Rattle.udt_rcv_buffer.proofs.marks.Marks.consume.Goals.{In-loop-i, then-place-self, else-place-self}

-- there are as many parts as before
within : (c : In-loop-i) → c.args.at + c.loop-i.i < length c.loop-i.ring.list
within c =
    let list = ap (λ (ps : _). length ps) c.loop-i.invariant.list in
    omega (arith, list, length-consume_parts c.args.at c.loop-i.i c.args.ring.now.list, c.requires.within, c.loop-i-test.true)

pub part-requires : goal.part-requires
part-requires c = within ((goal.at.part-requires c).In-loop-i)

pub put-requires-clause-within : goal.put-requires-clause-within
put-requires-clause-within c = within ((goal.at.put-requires-clause-within c).In-loop-i)

pub overflow_sub-self : goal.overflow_sub-self
overflow_sub-self c = bytes_within c.loop-i.self c.loop-i.ring.list (c.args.at + c.loop-i.i) _ c.loop-i.invariant.marked c.if-place-self.true c.part.ensures.value

pub loop-i-init : goal.loop-i-init
loop-i-init c = record {
  list = sym (consume_none c.args.at c.args.ring.now.list);
  room = refl;
  marked = higher c.args.self.now _ c.args.ring.now.list c.requires.marked refl refl (omega (arith, c.max-self.ensures)) (omega (arith, c.max-self.ensures, c.requires.within, c.requires.marked.top));
  given = refl;
  top = c.max-self.ensures;
}

pub loop-i-preserved : goal.loop-i-preserved
loop-i-preserved c =
    let i = c.loop-i.invariant in
    let at = c.args.at + c.loop-i.i in
    let bytes : c.if-place-self.self ≡ record c.loop-i.self { bytes = cond (ltb at c.loop-i.self.run) (c.loop-i.self.bytes - length c.part.result.1.now) c.loop-i.self.bytes } =
    elim c.if-place-self.branch [
      | then-place-self w ↦ rw (w.self-is, lt-ltb at c.loop-i.self.run w.if-place-self.true) refl
      | else-place-self w ↦ rw (w.self-is, le-ltb at c.loop-i.self.run w.if-place-self.false) refl
    ] in
    let list = ap (λ (p : Parts Head). p.list) c.put.ensures.next in
    let run = ap (λ (m : Marks). m.run) bytes in
    let len = ap (λ (m : Marks). m.bytes) bytes in
    let top = ap (λ (m : Marks). m.top) bytes in
    record {
      list = rw (list, i.list) (consume_more c.args.at c.loop-i.i c.args.ring.now.list);
      room = ap (λ (p : Parts Head). p.room) c.put.ensures.next ∙ i.room;
      marked = rw list (consumed c.loop-i.self _ c.loop-i.ring.list at _ i.marked c.part.ensures.value (omega (arith, i.top, c.loop-i-test.true)) run len top);
      given = ap (λ (m : Marks). m.given) bytes ∙ i.given;
      top = top ∙ i.top;
    }
