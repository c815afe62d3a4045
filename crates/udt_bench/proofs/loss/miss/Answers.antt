use Rattle.std.proofs.Common.{◌+◌, sym, ap, subst, ◌∙◌, arith}
use Rattle.udt_rcv_loss.specs.Absent.{AllBelow, AllFrom, first_or}
use Rattle.udt_rcv_loss.proofs.MissingLemmas.{AllFrom-with, AllBelow-with, AllBelow-higher, first_or-from}
use Rattle.udt_bench.proofs.loss.miss.Goals as goal

pub loop-lost-init : goal.loop-lost-init
unfolding AllBelow AllFrom
loop-lost-init c =
    record {
      from = omega arith;
      by = omega arith;
      below = rw c.requires.empty tt;
      first = rw c.requires.empty tt;
      room = c.requires.room;
      counted = omega arith;
    }

pub add-requires-clause-above : goal.add-requires-clause-above
add-requires-clause-above c =
    AllBelow-higher c.loop-lost.offset (c.loop-lost.offset + c.below-offset.result) c.loop-lost.rcv.missing (omega arith) c.loop-lost.invariant.below

pub add-requires-clause-room : goal.add-requires-clause-room
add-requires-clause-room c =
    let i = c.loop-lost.invariant in
    let offset = c.loop-lost.offset + c.below-offset.result in
    omega (arith, first_or-from c.args.base offset c.loop-lost.rcv.missing (omega (arith, i.from)) i.first, i.room, c.from.ensures)

-- one more is listed
pub loop-lost-preserved : goal.loop-lost-preserved
loop-lost-preserved c =
    let i = c.loop-lost.invariant in
    let offset = c.loop-lost.offset + c.below-offset.result in
    let ms = c.loop-lost.rcv.missing in
    let listed = AllBelow-higher c.loop-lost.offset offset ms (omega arith) i.below in
    let e = c.add.ensures in
    record {
      from = omega (arith, i.from);
      by = omega arith;
      below = subst (λ r. AllBelow (offset + 1) r.missing) (sym e) (AllBelow-with offset offset offset ms (omega arith) listed);
      first = subst (λ r. AllFrom c.args.base r.missing) (sym e) (AllFrom-with c.args.base offset offset offset ms (omega (arith, i.from)) i.first);
      room = ap (λ r. r.window) e ∙ i.room;
      counted = omega (arith, i.counted);
    }
