use Rattle.std.proofs.Common.{◌≡◌, ℕ, List, ◌+◌, ◌-◌, ◌≤◌, true, false, Some, refl, ap, ◌∙◌, sym, arith}
use Rattle.std.proofs.lemmas.List.{length-set}
use Rattle.std.proofs.lemmas.Option.{slice_get_within, same_Some}
use Rattle.udt_model.specs.declared.answers.Placed.TheVariants as placing
use Rattle.udt_model.specs.ReceiveBlocks.{is_taken, placing_of}
use Rattle.udt_rcv_buffer.specs.declared.head.Head.{Head}
use Rattle.udt_ring.specs.Parts.{Part, Parts}
use Rattle.std.specs.Prelude.{slice_get}
use Rattle.udt_rcv_buffer.specs.PlacedParts.{placed_from}
use Rattle.udt_rcv_buffer.specs.Buffers.{received_of}
use Rattle.udt_rcv_buffer.proofs.PlacedLemmas.{is_taken-part, put_block-part}
use Rattle.udt_rcv_buffer.proofs.ReceivedLemmas.{placing-below, placing-above, placing-within, after_place-is}
use Rattle.udt_rcv_buffer.proofs.BufferLemmas.{placed_marked, placed_settled, get-set, get-set_other, ends-set}
use Rattle.udt_rcv_buffer.proofs.NextLemmas.{gapless-after}
use Rattle.udt_rcv_buffer.proofs.buffer.RcvBuffer.place.Goals as goal
use Rattle.udt_rcv_buffer.proofs.buffer.RcvBuffer.place.Goals.{Then-offset-self, Then-offset-self-2, Then-head, Else-head}

-- ---- outside

below : (c : Then-offset-self) → placing_of c.args.self.now c.args.offset ≡ placing.Below
below c = rw (← c.self.view_is) (placing-below (received_of c.self.inside) c.args.offset c.if-offset-self.true)

pub returns-then-offset-self-clause-value : goal.returns-then-offset-self-clause-value
returns-then-offset-self-clause-value c = rw (below c) refl

pub returns-then-offset-self-clause-next : goal.returns-then-offset-self-clause-next
returns-then-offset-self-clause-next c = sym (after_place-is c.args.self.now c.args.offset c.args.flags c.args.bytes.now placing.Below (below c))

above : (c : Then-offset-self-2) → placing_of c.args.self.now c.args.offset ≡ placing.Above
above c = rw (← c.self.view_is) (placing-above (received_of c.self.inside) c.args.offset c.if-offset-self.false (omega (arith, c.if-offset-self.false, c.if-offset-self-2.true, c.count.ensures.value)))

pub returns-then-offset-self-2-clause-value : goal.returns-then-offset-self-2-clause-value
returns-then-offset-self-2-clause-value c = rw (above c) refl

pub returns-then-offset-self-2-clause-next : goal.returns-then-offset-self-2-clause-next
returns-then-offset-self-2-clause-next c = sym (after_place-is c.args.self.now c.args.offset c.args.flags c.args.bytes.now placing.Above (above c))

-- ---- where there is one already

-- the offset is that of the part
taken : (base offset : ℕ) (parts : List (Part Head)) (part : Part Head) → base ≤ offset → slice_get parts (offset - base) ≡ Some part → is_taken offset (placed_from base parts) ≡ part.head.used
taken base offset parts part from found =
    let again : base + (offset - base) ≡ offset = omega (arith, from) in
    rw again at (is_taken-part parts base (offset - base) part found)

double : (c : Then-head) → placing_of c.args.self.now c.args.offset ≡ placing.Double
double c =
    let b = c.self.inside in
    let is = taken b.base c.args.offset b.ring.list _ c.if-offset-self.false c.part.ensures.value ∙ c.if-head.true in
    rw (← c.self.view_is) (placing-within (received_of b) c.args.offset true c.if-offset-self.false (omega (arith, c.if-offset-self.false, c.if-offset-self-2.false, c.count.ensures.value)) is)

pub returns-then-head-clause-value : goal.returns-then-head-clause-value
returns-then-head-clause-value c = rw (double c) refl

pub returns-then-head-clause-next : goal.returns-then-head-clause-next
returns-then-head-clause-next c = sym (after_place-is c.args.self.now c.args.offset c.args.flags c.args.bytes.now placing.Double (double c))

-- ---- new

new : (c : Else-head) → placing_of c.args.self.now c.args.offset ≡ placing.New
new c =
    let b = c.self.inside in
    let is = taken b.base c.args.offset b.ring.list _ c.if-offset-self.false c.part.ensures.value ∙ c.if-head.false in
    rw (← c.self.view_is) (placing-within (received_of b) c.args.offset false c.if-offset-self.false (omega (arith, c.if-offset-self.false, c.if-offset-self-2.false, c.count.ensures.value)) is)

pub add-requires : goal.add-requires
add-requires c =
    let b = c.self.inside in
    let place = c.args.offset - b.base in
    let with : Part Head = record { head = record { used = true; consumed = false; flags = c.args.flags }; bytes = c.args.bytes.now } in
    let list = ap (λ (ps : Parts Head). ps.list) c.put.ensures.next in
    let within = slice_get_within b.ring.list place _ c.part.ensures.value in
    record {
      marked = rw list (placed_marked b.marks _ b.ring.list place _ with c.self.invariant.marked c.part.ensures.value c.if-head.false refl refl refl);
      block = record { part = with; found = rw list (get-set b.ring.list place with within); used = refl; bytes = refl };
      run = λ other. rw list (ends-set b.marks.run b.ring.list place with other c.self.invariant.run);
      few = rw (list, length-set b.ring.list place with) c.self.invariant.few;
      fits = c.put.ensures.fits;
    }

-- what was next before the block came
pub add-requires-2-clause-was : goal.add-requires-2-clause-was
add-requires-2-clause-was c kept =
    let b = c.self.inside in
    let place = c.args.offset - b.base in
    let with : Part Head = record { head = record { used = true; consumed = false; flags = c.args.flags }; bytes = c.args.bytes.now } in
    let list = ap (λ (ps : Parts Head). ps.list) c.put.ensures.next in
    record {
      before = b.ring.list;
      len = rw list (sym (length-set b.ring.list place with));
      same = λ k other. rw list (sym (get-set_other b.ring.list k place with other));
      missing = λ part found. let same = same_Some _ part (sym c.part.ensures.value ∙ found) in rw (← same) c.if-head.false;
      next = c.self.invariant.next kept;
      gapped = λ k le. gapless-after b.marks.run k b.ring.list c.self.invariant.run (omega (arith, le, c.add.ensures.later));
    }

pub invariant_of-self : goal.invariant_of-self
invariant_of-self c =
    let b = c.self.inside in
    let i = c.self.invariant in
    let place = c.args.offset - b.base in
    let part : Part Head = record { head = record { used = true; consumed = false; flags = c.args.flags }; bytes = c.args.bytes.now } in
    let list = ap (λ (ps : Parts Head). ps.list) c.put.ensures.next in
    let len = length-set b.ring.list place part in
    record {
      few = rw (list, len) i.few;
      marked = c.add.ensures.marked;
      run = c.add.ensures.run;
      settled = rw (list, c.add.ensures.given) (placed_settled b.marks.given b.ring.list place _ part i.settled c.part.ensures.value c.if-head.false refl c.requires.some);
      limit = omega (arith, i.limit, c.add.ensures.top, c.requires.limit, c.if-offset-self.false);
      next = c.add-2.ensures;
    }

pub returns-clause-value : goal.returns-clause-value
returns-clause-value c = rw (new ((goal.at.returns-clause-value c).Else-head)) refl

pub returns-clause-next : goal.returns-clause-next
returns-clause-next c =
    let b = c.self.inside in
    let list = ap (λ (ps : Parts Head). ps.list) c.put.ensures.next in
    let room = ap (λ (ps : Parts Head). ps.room) c.put.ensures.next in
    let place = c.args.offset - b.base in
    let part : Part Head = record { head = record { used = true; consumed = false; flags = c.args.flags }; bytes = c.args.bytes.now } in
    let again : b.base + place ≡ c.args.offset = omega (arith, c.if-offset-self.false) in
    let put = rw again at (put_block-part b.ring.list b.base place part (slice_get_within b.ring.list place _ c.part.ensures.value) refl) in
    let len = length-set b.ring.list place part in
    rw (after_place-is c.args.self.now c.args.offset c.args.flags c.args.bytes.now placing.New (new ((goal.at.returns-clause-next c).Else-head)), list, room, len, c.add.ensures.given, ← put, ← c.self.view_is) refl
