use Rattle.std.proofs.Common.{◌≡◌, ◌<◌, ◌≤◌, length, Some, ap, refl, ◌∙◌, arith}
use Rattle.std.specs.Prelude.{slice_get}
use Rattle.std.specs.Vec.{with_items}
use Rattle.std.proofs.lemmas.List.{with_items_is, length-set}
use Rattle.std.proofs.lemmas.List.Elements.{All-set}
use Rattle.std.proofs.lemmas.Option.{slice_get_read}
use Rattle.udt_ring.specs.declared.ring.Place.{Place}
use Rattle.udt_ring.specs.Parts.{Parts}
use Rattle.udt_ring.specs.Rings.{AreShort, AreSlots, slots_of, parts_in}
use Rattle.udt_ring.proofs.SlotLemmas.{slot_below, slots_of-set}
use Rattle.udt_ring.proofs.PartLemmas.{slot_before}
use Rattle.udt_ring.proofs.RingLemmas.{count_is, put_is, all_fit}
use Rattle.udt_ring.proofs.ring.Ring.put.Goals as goal
use Rattle.udt_ring.proofs.ring.Ring.put.Given.{Over}
use Rattle.udt_ring.proofs.ring.Ring.put.Goals.{After-len, After-take_slot-self-inside, After-index}

-- there is a place for the part
some : (g : Over) (c : After-len g) → c.args.i < length c.self.inside.places.items
some g c =
    let same = ap (λ (p : Parts g.row.H.Denot). length p.list) c.self.view_is in
    omega (arith, count_is c.self.inside c.self.invariant, same, c.requires.within)

pub place_after-at-requires-clause-place : goal.place_after-at-requires-clause-place
place_after-at-requires-clause-place g c = omega (arith, some g ((goal.at.place_after-at-requires-clause-place g c).After-len), c.len.ensures, c.self.inside.places.ok.0, c.self.invariant.first)

pub place_after-at-requires-clause-by : goal.place_after-at-requires-clause-by
place_after-at-requires-clause-by g c = omega (arith, some g ((goal.at.place_after-at-requires-clause-by g c).After-len), c.len.ensures, c.self.inside.places.ok.0)

-- ---- the places once two may have each other's slot

len : (g : Over) (c : After-take_slot-self-inside g) → length c.take_slot-self-inside.new.places ≡ length c.self.inside.places.items
len g c = omega (arith, c.take_slot-self-inside.auto.places, c.deref_mut.ensures.len, c.self.inside.places.ok.0)

items : (g : Over) (c : After-take_slot-self-inside g) → (with_items c.self.inside.places c.take_slot-self-inside.new.places).items ≡ c.take_slot-self-inside.new.places
items g c = with_items_is c.self.inside.places c.take_slot-self-inside.new.places (omega (arith, len g c, c.self.inside.places.ok.0))

short : (g : Over) (c : After-take_slot-self-inside g) → AreShort c.self.inside.room c.take_slot-self-inside.new.places
short g c = c.take_slot-self-inside.ensures.kept.short c.self.inside.room (rw c.deref_mut.ensures.value c.self.invariant.short)

slots : (g : Over) (c : After-take_slot-self-inside g) → AreSlots (slots_of c.take_slot-self-inside.new.places)
slots g c = c.take_slot-self-inside.ensures.kept.slots (rw c.deref_mut.ensures.value c.self.invariant.slots)

-- the place of the part
found : (g : Over) (c : After-index g) → slice_get c.take_slot-self-inside.new.places c.place_after-at.result ≡ Some c.index.result.now
found g c =
    let r = c.self.inside in
    let same : length c.take_slot-self-inside.new.places ≡ length r.places.items = omega (arith, c.take_slot-self-inside.auto.places, c.deref_mut.ensures.len, r.places.ok.0) in
    let all = with_items_is r.places c.take_slot-self-inside.new.places (omega (arith, same, r.places.ok.0)) in
    slice_get_read c.take_slot-self-inside.new.places (length c.take_slot-self-inside.new.places) c.place_after-at.result c.index.result.now refl
    (omega (arith, same, c.place_after-at.ensures.within, c.len.ensures, r.places.ok.0)) (rw all at c.index.ensures)

pub write-requires : goal.write-requires
write-requires g c =
    let r = c.self.inside in
    let e = (goal.at.write-requires g c).After-take_slot-self-inside in
    let below = slot_below c.take_slot-self-inside.new.places c.place_after-at.result c.index.result.now (slots g e) (found g ((goal.at.write-requires g c).After-index)) in
    let lt : c.index.result.now.slot < length r.places.items = omega (arith, below, len g e) in
    let end = slot_before c.index.result.now.slot (length r.places.items) r.room lt in
    let room = ap (λ (p : Parts g.row.H.Denot). p.room) c.self.view_is in
    omega (arith, end, c.self.invariant.memory, room, c.requires.room, c.deref_mut-2.ensures.len, r.memory.ok.0)

pub invariant_of-self : goal.invariant_of-self
invariant_of-self g c =
    let r = c.self.inside in
    let i = c.self.invariant in
    let e = (goal.at.invariant_of-self g c).After-take_slot-self-inside in
    let there = found g ((goal.at.invariant_of-self g c).After-index) in
    let ps = c.take_slot-self-inside.new.places in
    let at = c.place_after-at.result in
    let with : Place g.row.H.Denot = record { head = c.args.head; len = length c.args.bytes.now; slot = c.index.result.now.slot } in
    let lens = length-set ps at with in
    let room = ap (λ (p : Parts g.row.H.Denot). p.room) c.self.view_is in
    let written : length c.write.new.memory ≡ length r.memory.items = omega (arith, c.write.auto.memory, c.deref_mut-2.ensures.len, r.memory.ok.0) in
    let memory = with_items_is r.memory c.write.new.memory (omega (arith, written, r.memory.ok.0)) in
    record {
      memory = rw (memory, items g e, lens, len g e) (written ∙ i.memory);
      short = rw (items g e) (All-set (λ (p : Place g.row.H.Denot). p.len ≤ r.room) ps at with (omega (arith, room, c.requires.room)) (short g e));
      slots = rw (items g e, slots_of-set ps at c.index.result.now c.args.head (length c.args.bytes.now) there) (slots g e);
      few = rw (items g e) (omega (arith, lens, len g e, i.few));
      small = i.small;
      first = rw (items g e) (omega (arith, lens, len g e, i.first));
      hot = rw (items g e) (omega (arith, lens, len g e, c.take_slot-self-inside.ensures.hint, c.deref_mut.ensures.len, r.places.ok.0));
    }

pub returns-clause-next : goal.returns-clause-next
returns-clause-next g c =
    let r = c.self.inside in
    let e = (goal.at.returns-clause-next g c).After-take_slot-self-inside in
    let one = some g ((goal.at.returns-clause-next g c).After-len) in
    let there = found g ((goal.at.returns-clause-next g c).After-index) in
    let ps = c.take_slot-self-inside.new.places in
    let all : c.len.result ≡ length r.places.items = omega (arith, c.len.ensures, r.places.ok.0) in
    let at = rw all at c.place_after-at.ensures.value in
    let same : length ps ≡ length r.places.items = len g e in
    let parts : parts_in r.room r.memory.items ps ≡ parts_in r.room r.memory.items r.places.items = rw c.deref_mut.ensures.value at (c.take_slot-self-inside.ensures.kept.parts r.room r.memory.items) in
    let room = ap (λ (p : Parts g.row.H.Denot). p.room) c.self.view_is in
    let written : length c.write.new.memory ≡ length r.memory.items = omega (arith, c.write.auto.memory, c.deref_mut-2.ensures.len, r.memory.ok.0) in
    let memory = with_items_is r.memory c.write.new.memory (omega (arith, written, r.memory.ok.0)) in
    let list = put_is r.room r.memory.items ps r.first c.args.i c.args.head c.args.bytes.now c.index.result.now (rw same c.self.invariant.memory) (short g e) (slots g e)
    (omega (arith, same, one, c.self.invariant.first)) (omega (arith, same, one)) (rw (same, ← at) there) (omega (arith, room, c.requires.room)) in
    rw (memory, c.write.ensures, c.deref_mut-2.ensures.value, items g e, at, rw (same, parts) at list, ← c.self.view_is) refl

-- the bytes of all parts lie in memory
pub returns-clause-fits : goal.returns-clause-fits
returns-clause-fits g c = all_fit _ (invariant_of-self g c)
