use Rattle.std.proofs.Common.{◌≡◌, ◌++◌, drop, refl, sym, ap, ◌∙◌, arith}
use Rattle.udt_ranges.specs.declared.range.Range.{Range}
use Rattle.udt_ranges.specs.Merging.{pushed}
use Rattle.udt_ranges.specs.Cursors.{before, following}
use Rattle.udt_ranges.proofs.PlaceLemmas.{next_is, whole, bounds}
use Rattle.udt_ranges.proofs.EditLemmas.{EndsBelow-front, IsWithin-retagged, IsWithin-pushed}
use Rattle.udt_ranges.proofs.links.LinkedRanges.retag_next.Goals as goal

pub settle-requires-clause-before : goal.settle-requires-clause-before
settle-requires-clause-before g c =
    let s = c.args.self.now in
    let r = c.args.range in
    let n = next_is s.window c.args.cursor r s.ranges c.requires.cursor c.requires.within c.requires.range in
    let b = bounds s.window _ n.within in
    rw c.unlink.ensures.before (EndsBelow-front r.first b.low b.high _ r _ (omega arith) b.rises)

pub settle-requires-clause-room : goal.settle-requires-clause-room
settle-requires-clause-room g c =
    let s = c.args.self.now in
    let r = c.args.range in
    let n = next_is s.window c.args.cursor r s.ranges c.requires.cursor c.requires.within c.requires.range in
    rw (c.unlink.ensures.kept, c.unlink.ensures.before, c.unlink.ensures.following)
    (IsWithin-retagged s.window _ r (record r { tag = c.args.tag }) _ refl refl n.within)

pub returns-clause-within : goal.returns-clause-within
returns-clause-within g c =
    let s = c.args.self.now in
    let r = c.args.range in
    let q : Range g.row.T.Denot = record r { tag = c.args.tag } in
    let n = next_is s.window c.args.cursor r s.ranges c.requires.cursor c.requires.within c.requires.range in
    let e = c.settle.ensures in
    let new = c.settle.new.self in
    let front = before c.args.cursor s.ranges in
    let rest = drop 1 (following c.args.cursor s.ranges) in
    let before_is : before c.settle.result new.ranges ≡ pushed g.T.Tag.same front q = e.before ∙ ap (λ xs. pushed g.T.Tag.same xs q) c.unlink.ensures.before in
    let final : pushed g.T.Tag.same front q ++ rest ≡ new.ranges = ap (λ xs. xs ++ rest) (sym before_is) ∙ ap (λ xs. before c.settle.result new.ranges ++ xs) (sym (e.following ∙ c.unlink.ensures.following)) ∙ whole c.settle.result new.ranges e.cursor in
    rw (e.kept, c.unlink.ensures.kept, ← final) (IsWithin-pushed g.T.Tag.same s.window front q rest (IsWithin-retagged s.window front r q rest refl refl n.within))
