use Rattle.std.proofs.Common.{◌≡◌, List, length, refl, ap, ◌∙◌, arith}
use Rattle.std.specs.Prelude.{All}
use Rattle.std.proofs.lemmas.List.{length-replicate}
use Rattle.std.proofs.lemmas.List.Elements.{All-replicate}
use Rattle.udt_rcv_buffer.specs.declared.head.Head.{Head}
use Rattle.udt_rcv_buffer.specs.declared.head.TheConstants.{MISSING}
use Rattle.udt_ring.specs.Parts.{Part, empty_part}
use Rattle.udt_rcv_buffer.specs.PlacedParts.{IsUnused}
use Rattle.udt_rcv_buffer.proofs.PlacedLemmas.{placed_from-unused}
use Rattle.udt_rcv_buffer.proofs.BufferLemmas.{none_settled, none_marked, none_first}
use Rattle.udt_rcv_buffer.proofs.WalkedLemmas.{none_ends-all}
use Rattle.udt_rcv_buffer.proofs.buffer.RcvBuffer.new.Goals as goal
use Rattle.udt_rcv_buffer.proofs.buffer.RcvBuffer.new.Goals.{In_ok-ring}

-- nothing is known of any offset
unused : (c : In_ok-ring) → All IsUnused c.in_ok-ring.ring.list
unused c = rw c.in_ok-ring.ensures.list (All-replicate IsUnused c.args.blocks (empty_part MISSING) refl)

-- there are as many parts as asked for
count : (c : In_ok-ring) → length c.in_ok-ring.ring.list ≡ c.args.blocks
count c = ap (λ (parts : List (Part Head)). length parts) c.in_ok-ring.ensures.list ∙ length-replicate c.args.blocks (empty_part MISSING)

pub invariant_of-result : goal.invariant_of-result
invariant_of-result c =
    let here = (goal.at.invariant_of-result c).In_ok-ring in
    let parts = c.in_ok-ring.ring.list in
    record {
      few = omega (arith, count here, c.ranges.blocks);
      marked = none_marked _ parts (unused here) refl refl refl;
      run = none_first parts (unused here);
      settled = none_settled parts (unused here);
      limit = omega (arith, c.requires);
      next = λ _. none_ends-all 0 parts (unused here) (λ at part lt. absurd (omega (arith, lt)));
    }

pub returns : goal.returns
returns c =
    let here = (goal.at.returns c).In_ok-ring in
    rw (c.in_ok-ring.ensures.room, count here, placed_from-unused c.in_ok-ring.ring.list c.args.start (unused here)) refl
