use Rattle.std.proofs.Common.{◌≡◌, ◌+◌, Some, refl, ◌∙◌, sym, arith, inl, inr}
use Rattle.std.proofs.lemmas.Bool.{false≢true}
use Rattle.udt_rcv_buffer.specs.declared.messages.Begun.{Begun}
use Rattle.udt_rcv_buffer.specs.declared.head.Head.{Head}
use Rattle.udt_ring.specs.Parts.{Part}
use Rattle.udt_rcv_buffer.specs.Messages.{IsBegun}
use Rattle.udt_rcv_buffer.specs.Walked.{begun_at}
use Rattle.udt_rcv_buffer.proofs.WalkLemmas.{begun_fits, counted, ended_some, ended_none}
use Rattle.udt_rcv_buffer.proofs.WalkedLemmas.{gapless-next, begun-next, none_ends-more, none_ends-all}
use Rattle.udt_rcv_buffer.proofs.messages.walk_from.Goals as goal
use Rattle.udt_rcv_buffer.proofs.messages.walk_from.Goals.{After-ended}

pub go_on-begun-requires : goal.go_on-begun-requires
go_on-begun-requires c = begun_fits c.args.ring.now.list c.loop-i.i _ c.loop-i.begun c.loop-i.invariant.begun c.part.ensures.value c.part.ensures.fits

pub loop-i-init : goal.loop-i-init
loop-i-init c = record { begun = λ b is. absurd cc; gapless = c.requires.start.still; same = c.requires.start.fresh; none = c.requires.start.before }

-- this turn's part
part_of : After-ended → Part Head
part_of c = record { head = c.part.result.0; bytes = c.part.result.1.now }

-- what is begun after it
begun_next : (c : After-ended) → begun_at (c.loop-i.i + 1) c.args.ring.now.list ≡ c.go_on-begun.result
unfolding part_of
begun_next c =
    let i = c.loop-i.invariant in
    let same = rw (c.part.ensures.value) at i.same in
    begun-next c.loop-i.i c.args.ring.now.list ∙ rw (← i.gapless, c.part.ensures.value) (same ∙ sym c.go_on-begun.ensures)

begun_is : (c : After-ended) (b : Begun) → c.go_on-begun.result ≡ Some b → IsBegun (c.loop-i.i + 1) c.args.ring.now.list b
unfolding part_of
begun_is c b is =
    counted c.args.ring.now.list c.loop-i.i (part_of c) _ c.loop-i.begun c.loop-i.invariant.begun c.part.ensures.value b (sym c.go_on-begun.ensures ∙ is)

pub overflow_sub-result : goal.overflow_sub-result
overflow_sub-result c =
    let ended = ended_some c.part.result.0.flags.last c.go_on-begun.result c.in-Some.b (sym c.ended.ensures ∙ c.in-Some.is) in
    let first = (begun_is ((goal.at.overflow_sub-result c).After-ended) c.in-Some.b ended.1).first in
    omega (arith, first)

pub returns-in-Some : goal.returns-in-Some
unfolding part_of
returns-in-Some c =
    let here = (goal.at.returns-in-Some c).After-ended in
    let ended = ended_some c.part.result.0.flags.last c.go_on-begun.result c.in-Some.b (sym c.ended.ensures ∙ c.in-Some.is) in
    let begun = begun_is here c.in-Some.b ended.1 in
    let first = begun.first in
    record {
      place = c.loop-i.i;
      part = part_of here;
      number = c.in-Some.b.number;
      some = omega (arith, first);
      end = omega (arith, first);
      before = c.loop-i.invariant.none;
      begun = begun_next here ∙ ended.1;
      there = c.part.ensures.value;
      last = ended.0;
    }

pub loop-i-preserved : goal.loop-i-preserved
unfolding part_of
loop-i-preserved c =
    let here = (goal.at.loop-i-preserved c).After-ended in
    let still = sym (gapless-next c.loop-i.i c.args.ring.now.list ∙ rw (c.part.ensures.value, ← c.loop-i.invariant.gapless) refl) in
    record {
      begun = begun_is here;
      gapless = still;
      same = rw (begun_next here) refl;
      none = none_ends-more c.loop-i.i c.args.ring.now.list (part_of here) c.loop-i.invariant.none c.part.ensures.value (λ last.
          begun_next here ∙ elim (ended_none c.part.result.0.flags.last c.go_on-begun.result (sym c.ended.ensures ∙ c.in_default.is)) [
            | inl more ↦ absurd (false≢true (sym more ∙ last))
            | inr none ↦ none
          ]);
    }

pub returns : goal.returns
returns c =
    let all : c.loop-i.i ≡ c.args.top = omega (arith, c.loop-i-test.false, c.loop-i.auto.i-end) in
    none_ends-all c.args.top c.args.ring.now.list c.requires.unused (rw all at c.loop-i.invariant.none)
