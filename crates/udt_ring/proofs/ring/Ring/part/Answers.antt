use Rattle.std.proofs.Common.{◌≡◌, ◌+◌, ◌-◌, ◌*◌, ◌^◌, ◌<◌, ◌≤◌, length, refl, ap, Some, arith}
use Rattle.std.specs.Prelude.{slice_get}
use Rattle.std.proofs.Math.Nat.{mul-le-mul}
use Rattle.std.proofs.lemmas.Option.{slice_get_read}
use Rattle.udt_ring.specs.Parts.{Parts}
use Rattle.udt_ring.proofs.SlotLemmas.{slot_below}
use Rattle.udt_ring.proofs.RingLemmas.{count_is, part_is, place_short, slot_fits, all_fit}
use Rattle.udt_ring.proofs.ring.Ring.part.Goals as goal
use Rattle.udt_ring.proofs.ring.Ring.part.Given.{Over}
use Rattle.udt_ring.proofs.ring.Ring.part.Goals.{After-len, After-index-place}

-- there is a place for the part
some : (g : Over) (c : After-len g) → c.args.i < length c.self.inside.places.items
some g c =
    let len = count_is c.self.inside c.self.invariant in
    let same = ap (λ (p : Parts g.row.H.Denot). length p.list) c.self.view_is in
    omega (arith, len, same, c.requires)

pub place_after-at-requires-clause-place : goal.place_after-at-requires-clause-place
place_after-at-requires-clause-place g c = omega (arith, some g ((goal.at.place_after-at-requires-clause-place g c).After-len), c.len.ensures, c.self.inside.places.ok.0, c.self.invariant.first)

pub place_after-at-requires-clause-by : goal.place_after-at-requires-clause-by
place_after-at-requires-clause-by g c = omega (arith, some g ((goal.at.place_after-at-requires-clause-by g c).After-len), c.len.ensures, c.self.inside.places.ok.0)

-- it is found there
found : (g : Over) (c : After-index-place g) → slice_get c.self.inside.places.items c.place_after-at.result ≡ Some c.index-place.result.now
found g c =
    let r = c.self.inside in
    slice_get_read r.places.items (length r.places.items) c.place_after-at.result c.index-place.result.now refl
    (omega (arith, c.place_after-at.ensures.within, c.len.ensures, r.places.ok.0)) c.index-place.ensures

-- its bytes lie in memory
fits : (g : Over) (c : After-index-place g) → c.index-place.result.now.slot * c.self.inside.room + c.self.inside.room ≤ length c.self.inside.memory.items
fits g c = slot_fits c.self.inside c.self.invariant c.place_after-at.result c.index-place.result.now (found g c)

short : (g : Over) (c : After-index-place g) → c.index-place.result.now.len ≤ c.self.inside.room
short g c = place_short c.self.inside.room c.self.inside.places.items c.place_after-at.result c.index-place.result.now c.self.invariant.short (found g c)

pub overflow_cast-from : goal.overflow_cast-from
overflow_cast-from g c =
    let here = (goal.at.overflow_cast-from g c).After-index-place in
    let below = slot_below c.self.inside.places.items c.place_after-at.result c.index-place.result.now c.self.invariant.slots (found g here) in
    omega (arith, below, c.self.invariant.few)

pub overflow_mul-from : goal.overflow_mul-from
overflow_mul-from g c =
    let here = (goal.at.overflow_mul-from g c).After-index-place in
    let below = slot_below c.self.inside.places.items c.place_after-at.result c.index-place.result.now c.self.invariant.slots (found g here) in
    let most : c.index-place.result.now.slot * c.self.inside.room ≤ 2 ^ 32 * (2 ^ 32 - 1) = mul-le-mul {n₂ = 2 ^ 32} {m₂ = 2 ^ 32 - 1} (omega (arith, below, c.self.invariant.few)) (omega (arith, c.self.invariant.small)) in
    omega (arith, most)

pub bytes_at-requires : goal.bytes_at-requires
bytes_at-requires g c = let here = (goal.at.bytes_at-requires g c).After-index-place in omega (arith, fits g here, short g here, c.deref.ensures.len, c.self.inside.memory.ok.0)

pub returns-clause-value : goal.returns-clause-value
returns-clause-value g c =
    let r = c.self.inside in
    let here = (goal.at.returns-clause-value g c).After-index-place in
    let one = some g ((goal.at.returns-clause-value g c).After-len) in
    let all : c.len.result ≡ length r.places.items = omega (arith, c.len.ensures, r.places.ok.0) in
    let at = rw all at c.place_after-at.ensures.value in
    rw (c.bytes_at.ensures, c.deref.ensures.value, ← c.self.view_is) (part_is r c.self.invariant c.args.i c.index-place.result.now one (rw at at (found g here)))

-- the bytes of all parts lie in memory
pub returns-clause-fits : goal.returns-clause-fits
returns-clause-fits g c = rw (← c.self.view_is) (all_fit c.self.inside c.self.invariant)
