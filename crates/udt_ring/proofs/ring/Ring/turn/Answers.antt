use Rattle.std.proofs.Common.{◌≡◌, ◌<◌, ◌≤◌, length, ap, refl, arith}
use Rattle.std.specs.Vec.{with_items}
use Rattle.std.proofs.lemmas.List.{with_items_is}
use Rattle.udt_ring.specs.Parts.{Parts}
use Rattle.udt_ring.proofs.RingLemmas.{count_is}
use Rattle.udt_ring.proofs.ring.Ring.turn.Goals as goal
use Rattle.udt_ring.proofs.ring.Ring.turn.Given.{Over}
use Rattle.udt_ring.proofs.ring.Ring.turn.Goals.{After-deref_mut, After-empty-next}

-- there are as many places as are to be emptied
enough : (g : Over) (c : After-deref_mut g) → c.args.by ≤ length c.self.inside.places.items
enough g c =
    let same = ap (λ (p : Parts g.row.H.Denot). length p.list) c.self.view_is in
    omega (arith, count_is c.self.inside c.self.invariant, same, c.requires)

-- and a first one
some : (g : Over) (c : After-deref_mut g) → c.self.inside.first < length c.self.inside.places.items
some g c = omega (arith, enough g c, c.if-by-eq0.false, c.self.invariant.first)

pub empty-next-requires-clause-first : goal.empty-next-requires-clause-first
empty-next-requires-clause-first g c = omega (arith, some g ((goal.at.empty-next-requires-clause-first g c).After-deref_mut), c.deref_mut.ensures.len, c.self.inside.places.ok.0)

pub empty-next-requires-clause-by : goal.empty-next-requires-clause-by
empty-next-requires-clause-by g c = omega (arith, enough g ((goal.at.empty-next-requires-clause-by g c).After-deref_mut), c.deref_mut.ensures.len, c.self.inside.places.ok.0)

-- ---- the places once some are emptied

len : (g : Over) (c : After-empty-next g) → length c.empty-next.new.places ≡ length c.self.inside.places.items
len g c = omega (arith, c.empty-next.auto.places, c.deref_mut.ensures.len, c.self.inside.places.ok.0)

items : (g : Over) (c : After-empty-next g) → (with_items c.self.inside.places c.empty-next.new.places).items ≡ c.empty-next.new.places
items g c = with_items_is c.self.inside.places c.empty-next.new.places (omega (arith, len g c, c.self.inside.places.ok.0))

pub previous_place-self-inside-requires : goal.previous_place-self-inside-requires
previous_place-self-inside-requires g c =
    omega (arith, c.empty-next.ensures.within, len g ((goal.at.previous_place-self-inside-requires g c).After-empty-next), c.len.ensures, c.self.inside.places.ok.0)

pub invariant_of-self : goal.invariant_of-self
invariant_of-self g c =
    let r = c.self.inside in
    let i = c.self.invariant in
    let e = (goal.at.invariant_of-self g c).After-empty-next in
    record {
      memory = rw (items g e, len g e) i.memory;
      short = rw (items g e) (c.empty-next.ensures.short r.room (rw c.deref_mut.ensures.value i.short));
      slots = rw (items g e) (c.empty-next.ensures.slots (rw c.deref_mut.ensures.value i.slots));
      few = rw (items g e) (omega (arith, len g e, i.few));
      small = i.small;
      first = rw (items g e) (omega (arith, c.empty-next.ensures.within));
      hot = rw (items g e) (omega (arith, len g e, c.previous_place-self-inside.ensures, c.len.ensures, r.places.ok.0));
    }

-- the emptied parts come after all others
pub returns : goal.returns
returns g c =
    let r = c.self.inside in
    let e = (goal.at.returns g c).After-empty-next in
    let list = rw c.deref_mut.ensures.value at (c.empty-next.ensures.parts r.room r.memory.items) in
    rw (items g e, list, ← c.self.view_is) refl
