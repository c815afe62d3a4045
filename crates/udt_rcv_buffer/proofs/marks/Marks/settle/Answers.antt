use Rattle.std.proofs.Common.{◌≡◌, ◌+◌, ◌-◌, ◌<◌, ◌≤◌, ◌++◌, length, take, drop, replicate, Some, ap, ◌∙◌, sym, refl, arith}
use Rattle.std.specs.Prelude.{slice_get}
use Rattle.udt_model.specs.ReceiveBlocks.{beginning}
use Rattle.std.proofs.lemmas.List.Elements.{All-replicate, All-take}
use Rattle.std.proofs.lemmas.List.{take-take, append-nil}
use Rattle.udt_rcv_buffer.specs.declared.head.TheConstants.{MISSING}
use Rattle.udt_rcv_buffer.specs.declared.head.Head.{Head}
use Rattle.udt_ring.specs.Parts.{Part, Parts, empty_part}
use Rattle.udt_ring.proofs.TurnLemmas.{length-passed}
use Rattle.udt_rcv_buffer.specs.PlacedParts.{placed_from, IsUsed, IsUnused}
use Rattle.udt_rcv_buffer.proofs.MarkLemmas.{freed, freed_ends, freed_first, settled_at}
use Rattle.udt_rcv_buffer.proofs.PlacedLemmas.{beginning-passed, beginning-settled, placed_from-append}
use Rattle.udt_rcv_buffer.proofs.marks.Marks.settle.Goals as goal
use Rattle.udt_rcv_buffer.proofs.marks.Marks.settle.Goals.{After-turn}

-- the parts then
parts_then : (c : After-turn) → c.turn.new.self.list ≡ drop c.passed-count.result.0 c.args.ring.now.list ++ replicate c.passed-count.result.0 (empty_part MISSING)
parts_then c = ap (λ (ps : Parts Head). ps.list) c.turn.ensures

-- no part is passed that isn't there
within : (c : After-turn) → c.passed-count.result.0 ≤ length c.args.ring.now.list
within c = omega (arith, c.passed-count.ensures.within, c.requires.marked.within, c.requires.marked.top)

pub returns-clause-marked : goal.returns-clause-marked
returns-clause-marked c =
    let p = c.passed-count.ensures in
    rw (parts_then ((goal.at.returns-clause-marked c).After-turn)) (freed c.args.self.now _ c.passed-count.result.0 (empty_part MISSING) c.args.ring.now.list c.requires.marked p.within refl refl (omega (arith, p.bytes, c.requires.given)) refl)

pub returns-clause-run : goal.returns-clause-run
returns-clause-run c =
    rw (parts_then ((goal.at.returns-clause-run c).After-turn)) (freed_ends c.args.self.now.run c.passed-count.result.0 (empty_part MISSING) c.args.ring.now.list c.requires.run c.passed-count.ensures.within refl)

pub returns-clause-len : goal.returns-clause-len
returns-clause-len c =
    let here = (goal.at.returns-clause-len c).After-turn in
    rw (parts_then here) (length-passed c.passed-count.result.0 c.args.ring.now.list (empty_part MISSING) (within here))

-- where no part is passed, all stay
pub returns-clause-same : goal.returns-clause-same
returns-clause-same c low =
    let here = (goal.at.returns-clause-same c).After-turn in
    let none : c.passed-count.result.0 ≡ 0 = omega (arith, low) in
    parts_then here ∙ rw none (append-nil c.args.ring.now.list)

pub returns-clause-room : goal.returns-clause-room
returns-clause-room c = ap (λ (ps : Parts Head). ps.room) c.turn.ensures

pub returns-clause-settled : goal.returns-clause-settled
returns-clause-settled c =
    let here = (goal.at.returns-clause-settled c).After-turn in
    let p = c.passed-count.ensures in
    let left = λ (some : 0 < c.args.self.now.run - c.passed-count.result.0) (part : Part Head) (found : slice_get c.turn.new.self.list 0 ≡ Some part).
    let more : c.passed-count.result.0 < c.args.self.now.run = omega (arith, some) in
    let first = freed_first c.passed-count.result.0 (empty_part MISSING) c.args.ring.now.list (omega (arith, more, c.requires.marked.within, c.requires.marked.top)) in
    p.next more part (sym first ∙ (rw (parts_then here) at found)) in
    settled_at _ c.turn.new.self.list (returns-clause-marked c) (returns-clause-run c) (omega (arith, p.bytes, c.requires.given)) left

pub returns-clause-front : goal.returns-clause-front
returns-clause-front c =
    let here = (goal.at.returns-clause-front c).After-turn in
    let count = c.passed-count.result.0 in
    let left = c.passed-count.result.1 in
    let parts = c.args.ring.now.list in
    let base = c.args.base.now in
    let p = c.passed-count.ensures in
    let used = rw (take-take count c.args.self.now.run parts p.within) at (All-take IsUsed count (take c.args.self.now.run parts) c.requires.marked.used) in
    let passed = beginning-passed count parts base c.args.self.now.given left (within here) used p.bytes in
    let ends = placed_from-append (drop count parts) (replicate count (empty_part MISSING)) (base + count) (All-replicate IsUnused count (empty_part MISSING) refl) in
    let same : placed_from (base + count) c.turn.new.self.list ≡ placed_from (base + count) (drop count parts) = ap (placed_from (base + count)) (parts_then here) ∙ ends in
    passed ∙ (ap (beginning (base + count) left) (sym same) ∙ beginning-settled c.turn.new.self.list (base + count) left (returns-clause-settled c))
