use Rattle.std.proofs.Common.{◌+◌, refl, arith}
use Rattle.udt_ranges.specs.Ranges.{items_of}
use Rattle.udt_ranges.proofs.OffsetLemmas.{without_none}
use Rattle.udt_snd_loss.proofs.RangeLemmas.{without_is}
use Rattle.udt_snd_loss.proofs.list.SndLoss.remove.Goals as goal

pub invariant_of-self : goal.invariant_of-self
invariant_of-self c =
    let l = c.self.inside in
    let i = c.self.invariant in
    let e = c.cut-removed.ensures in
    record {
      maximal = e.maximal i.maximal;
      rises = rw e.kept (e.within l.floor (l.floor + l.ranges.window) i.rises);
      counted = omega (arith, i.counted, e.count);
    }

pub returns-then-from-to : goal.returns-then-from-to
returns-then-from-to c =
    let e = c.cut-removed.ensures in
    rw (← c.self.view_is, e.kept, e.next, without_is c.args.from c.args.to (items_of c.self.inside.ranges.ranges)) refl

pub returns-else-from-to : goal.returns-else-from-to
returns-else-from-to c = rw (without_none c.args.from c.args.to c.args.self.now.lost c.if-from-to.false) refl
