use Rattle.std.proofs.Common.{◌≡◌, suc, ◌+◌, ◌-◌, ◌<◌, map, length, take, drop, ap, ◌∙◌, sym, refl, arith}
use Rattle.std.proofs.lemmas.List.{take_min, drop_min, length-set, append-nil}
use Rattle.udt_snd_buffer.specs.declared.head.Head.{Head}
use Rattle.udt_ring.specs.Parts.{Parts}
use Rattle.udt_snd_buffer.specs.KeptParts.{kept_block_of, message_of_head}
use Rattle.udt_snd_buffer.proofs.KeptLemmas.{keeps_one, keeps_none}
use Rattle.udt_snd_buffer.proofs.buffer.keep.Goals as goal

pub overflow_add-kept : goal.overflow_add-kept
overflow_add-kept c = omega (arith, c.requires.free, c.requires.few)

-- one block more is kept, the next of the message
pub loop-i-preserved : goal.loop-i-preserved
loop-i-preserved c =
    let i = c.loop-i.invariant in
    let rest = c.loop-i.rest.now in
    let payload = c.args.payload in
    let front : c.split_at.result.0.now ≡ take payload rest = rw (c.split_at.ensures.front, c.min.ensures) (take_min payload rest) in
    let back : c.split_at.result.1.now ≡ drop payload rest = rw (c.split_at.ensures.back, c.min.ensures) (drop_min payload rest) in
    let list = ap (λ (p : Parts Head). p.list) c.put.ensures.next in
    let place : c.args.kept + (c.loop-i.i + 1) ≡ c.args.kept + c.loop-i.i + 1 = omega arith in
    let offset : c.args.offset + (c.loop-i.i + 1) ≡ c.args.offset + c.loop-i.i + 1 = omega arith in
    let lt : c.args.kept + c.loop-i.i < length c.loop-i.ring.list = omega (arith, i.len, c.requires.free, c.loop-i-test.true) in
    let more : c.args.count - c.loop-i.i ≡ suc (c.args.count - (c.loop-i.i + 1)) = omega (arith, c.loop-i-test.true) in
    record {
      kept = rw (list, back, place, offset, front) (keeps_one _ payload (c.args.offset + c.loop-i.i) (c.args.count - c.loop-i.i) _ _ c.loop-i.ring.list _ rest lt more refl ∙ i.kept);
      len = rw list (length-set c.loop-i.ring.list (c.args.kept + c.loop-i.i) _ ∙ i.len);
      room = ap (λ (p : Parts Head). p.room) c.put.ensures.next ∙ i.room;
    }

-- none is left
pub returns-clause-kept : goal.returns-clause-kept
returns-clause-kept c =
    let i = c.loop-i.invariant in
    let all : c.loop-i.i ≡ c.args.count = omega (arith, c.loop-i-test.false, c.loop-i.auto.i-end) in
    let none : c.args.count - c.args.count ≡ 0 = omega arith in
    let kept = rw (all, none, keeps_none (message_of_head c.args.head) c.args.payload (c.args.offset + c.args.count) c.loop-i.rest.now) at i.kept in
    sym (append-nil (map kept_block_of (take (c.args.kept + c.args.count) c.loop-i.ring.list))) ∙ kept
