use Rattle.std.proofs.Common.{◌≡◌, ◌+◌, ◌-◌, ◌<◌, ◌≤◌, refl, arith}
use Rattle.udt_model.specs.Losses.{with_range}
use Rattle.udt_ranges.specs.Ranges.{Rises, items_of, count_of}
use Rattle.udt_ranges.specs.declared.range.Range.{Range}
use Rattle.udt_ranges.proofs.RisingLemmas.{Rises-lower, Rises-higher}
use Rattle.udt_ranges.proofs.ItemLemmas.{length-items_of_range, length-items_of}
use Rattle.udt_snd_loss.proofs.RangeLemmas.{with_is}
use Rattle.udt_snd_loss.proofs.list.SndLoss.add.Goals as goal
use Rattle.udt_snd_loss.proofs.list.SndLoss.add.Goals.{After-insert-removed}

pub insert-removed-requires-clause-near : goal.insert-removed-requires-clause-near
insert-removed-requires-clause-near c =
    let l = c.self.inside in
    let floor : l.floor ≤ c.args.from = rw (← c.self.view_is) at c.requires.floor in
    let room : c.args.to < l.floor + l.ranges.window = rw (← c.self.view_is) at c.requires.room in
    Rises-lower l.floor (c.args.to + 1 - l.ranges.window) (c.args.from + l.ranges.window) l.ranges.ranges (omega arith)
    (Rises-higher l.floor (l.floor + l.ranges.window) (c.args.from + l.ranges.window) l.ranges.ranges (omega arith) c.self.invariant.rises)

-- the ranges still lie in the window
rises : (c : After-insert-removed) → Rises c.self.inside.floor (c.self.inside.floor + c.self.inside.ranges.window) c.insert-removed.new.self.ranges
rises c =
    let l = c.self.inside in
    let floor : l.floor ≤ c.args.from = rw (← c.self.view_is) at c.requires.floor in
    let room : c.args.to < l.floor + l.ranges.window = rw (← c.self.view_is) at c.requires.room in
    c.insert-removed.ensures.within l.floor (l.floor + l.ranges.window) floor room c.self.invariant.rises

-- and their offsets are counted
counted : (c : After-insert-removed) → c.self.inside.count - c.insert-removed.result + (c.args.to - c.args.from + 1) ≡ count_of c.insert-removed.new.self.ranges
counted c =
    let x : Range (Unit {0}) = record { first = c.args.from; last = c.args.to; tag = tt } in
    let e = c.insert-removed.ensures in
    omega (arith, c.self.invariant.counted, e.count, e.most, length-items_of_range x, c.requires.order)

pub overflow_add-self-2 : goal.overflow_add-self-2
overflow_add-self-2 c =
    let l = c.self.inside in
    let here = (goal.at.overflow_add-self-2 c).After-insert-removed in
    omega (arith, counted here, c.insert-removed.ensures.fits, length-items_of l.floor (l.floor + l.ranges.window) c.insert-removed.new.self.ranges (rises here))

pub invariant_of-self : goal.invariant_of-self
invariant_of-self c =
    let here = (goal.at.invariant_of-self c).After-insert-removed in
    let e = c.insert-removed.ensures in
    record { maximal = e.maximal; rises = rw e.kept (rises here); counted = counted here }

pub returns : goal.returns
returns c =
    let e = c.insert-removed.ensures in
    rw (← c.self.view_is, e.kept, e.next, with_is (record { first = c.args.from; last = c.args.to; tag = tt }) (items_of c.self.inside.ranges.ranges)) refl
