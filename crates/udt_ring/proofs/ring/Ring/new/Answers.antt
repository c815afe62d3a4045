use Rattle.std.proofs.Common.{◌≡◌, sym, ap, ◌∙◌, List, ◌∷◌, ◌++◌, [], arith}
use Rattle.std.proofs.lemmas.List.{append-nil}
use Rattle.udt_ring.specs.declared.ring.Place.{Place}
use Rattle.udt_ring.proofs.SlotLemmas.{fresh, fresh_none, fresh_more, fresh_len, fresh_short, fresh_slots, fresh_parts}
use Rattle.udt_ring.proofs.ring.Ring.new.Given.{Over}
use Rattle.udt_ring.proofs.ring.Ring.new.Goals as goal
use Rattle.udt_ring.proofs.ring.Ring.new.Goals.{After-loop-slot}

pub loop-slot-init : goal.loop-slot-init
loop-slot-init g c = c.in_ok-places.ensures.items ∙ sym (fresh_none c.args.head)

-- one place more, with the next slot
pub loop-slot-preserved : goal.loop-slot-preserved
loop-slot-preserved g c =
    let place : Place g.row.H.Denot = record { head = c.args.head; len = 0; slot = c.loop-slot.slot } in
    c.in_ok-push.ensures.items ∙ ap (λ (ps : List (Place g.row.H.Denot)). ps ++ place ∷ []) c.loop-slot.invariant ∙ fresh_more c.args.head c.loop-slot.slot

-- all places are there
places : (g : Over) (c : After-loop-slot g) → c.loop-slot.places.items ≡ fresh c.args.head c.args.count
places g c = let all : c.loop-slot.slot ≡ c.args.count = omega (arith, c.loop-slot-test.false, c.loop-slot.auto.slot-end) in c.loop-slot.invariant ∙ ap (fresh c.args.head) all

pub invariant_of-result : goal.invariant_of-result
invariant_of-result g c =
    let is = places g c in
    let len = fresh_len c.args.head c.args.count in
    let memory = c.in_ok-memory.ensures.len in
    record {
      memory = rw (is, len) (omega (arith, memory, c.in_ok-memory.memory.ok.0));
      short = rw is (fresh_short c.args.head c.args.room c.args.count);
      slots = rw is (fresh_slots c.args.head c.args.count);
      few = rw (is, len) (omega (arith, c.ranges.count));
      small = omega (arith, c.ranges.room);
      first = omega arith;
      hot = omega arith;
    }

-- each part begins with the head and no bytes
pub returns-clause-list : goal.returns-clause-list
returns-clause-list g c =
    rw (places g c) (append-nil _ ∙ fresh_parts c.args.head c.args.room c.args.count c.in_ok-memory.memory.items)
