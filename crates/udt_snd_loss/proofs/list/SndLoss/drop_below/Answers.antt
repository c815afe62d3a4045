use Rattle.std.proofs.Common.{◌≡◌, ◌+◌, ◌<◌, refl, ap, subst, ◌∙◌, arith}
use Rattle.udt_model.specs.Losses.{from_offset}
use Rattle.udt_ranges.specs.Ranges.{items_of}
use Rattle.udt_ranges.specs.Offsets.{offsets_in, Rising}
use Rattle.udt_ranges.proofs.OffsetLemmas.{from_offset-zero, from_offset-twice, from_offset-without, Rising-from_offset, Rising-items, IsFrom-offsets}
use Rattle.udt_ranges.proofs.RisingLemmas.{Rises-higher}
use Rattle.udt_ranges.proofs.ItemLemmas.{Rises-from}
use Rattle.udt_snd_loss.proofs.list.SndLoss.drop_below.Goals as goal

pub returns-then-n-eq0 : goal.returns-then-n-eq0
returns-then-n-eq0 c =
    let s = c.args.self.now in
    let same : from_offset c.args.n s.lost ≡ s.lost = rw c.if-n-eq0.true (from_offset-zero s.lost) in
    let floor : s.floor ≡ c.args.n = omega arith in
    rw (same, ← floor) refl

pub invariant_of-self : goal.invariant_of-self
invariant_of-self c =
    let l = c.self.inside in
    let i = c.self.invariant in
    let s = c.args.self.now in
    let some : 0 < c.args.n = omega arith in
    let now = c.self.view_is ∙ c.remove.ensures in
    let lost : offsets_in (items_of l.ranges.ranges) ≡ from_offset c.args.n s.lost = ap (λ v. v.lost) now ∙ from_offset-without c.args.n s.lost some in
    let floor : l.floor ≡ s.floor = ap (λ v. v.floor) now in
    let window : l.ranges.window ≡ s.window = ap (λ v. v.window) now in
    let high = l.floor + l.ranges.window in
    let kept : from_offset c.args.n (offsets_in (items_of l.ranges.ranges)) ≡ offsets_in (items_of l.ranges.ranges) = rw lost (from_offset-twice c.args.n s.lost) in
    let rising = subst (Rising c.args.n high) kept (Rising-from_offset c.args.n l.floor high (offsets_in (items_of l.ranges.ranges)) (Rising-items l.floor high l.ranges.ranges i.rises)) in
    let from = IsFrom-offsets c.args.n l.floor high high l.ranges.ranges i.rises rising in
    record {
      maximal = i.maximal;
      rises = Rises-higher c.args.n high (c.args.n + l.ranges.window) l.ranges.ranges (omega (arith, floor, c.requires)) (Rises-from c.args.n l.floor high l.ranges.ranges from i.rises);
      counted = i.counted;
    }

pub returns : goal.returns
returns c =
    let l = c.self.inside in
    let i = c.self.invariant in
    let s = c.args.self.now in
    let some : 0 < c.args.n = omega arith in
    let now = c.self.view_is ∙ c.remove.ensures in
    let lost : offsets_in (items_of l.ranges.ranges) ≡ from_offset c.args.n s.lost = ap (λ v. v.lost) now ∙ from_offset-without c.args.n s.lost some in
    let floor : l.floor ≡ s.floor = ap (λ v. v.floor) now in
    let window : l.ranges.window ≡ s.window = ap (λ v. v.window) now in
    rw (lost, window) refl
