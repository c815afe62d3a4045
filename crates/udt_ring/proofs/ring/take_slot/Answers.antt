use Rattle.std.proofs.Common.{arith}
use Rattle.udt_ring.specs.Rings.{KeepsParts}
use Rattle.udt_ring.proofs.SlotLemmas.{exchanged, kept}
use Rattle.udt_ring.proofs.ring.take_slot.Given.{Over}
use Rattle.udt_ring.proofs.ring.take_slot.Goals as goal
use Rattle.udt_ring.proofs.ring.take_slot.Goals.{Joined-hinted-eq0, then-hinted-eq0, else-hinted-eq0}

-- two places that have each other's slot have no bytes
keeps : (g : Over) (c : Joined-hinted-eq0 g) → KeepsParts c.args.places.now c.if-hinted-eq0.places
keeps g c = elim c.if-hinted-eq0.branch [
  | then-hinted-eq0 w ↦
      rw w.places-is (exchanged c.args.places.now c.args.at c.args.hot c.index-places-at.result c.index-places-hot.result _ _ c.requires.at c.requires.hot
      c.index-places-at.is c.index-places-hot.is (omega (arith, c.if-place-gt0.false)) w.if-hinted-eq0.true)
  | else-hinted-eq0 w ↦ rw w.places-is (kept c.args.places.now)
]

pub returns-clause-kept : goal.returns-clause-kept
returns-clause-kept g c = keeps g ((goal.at.returns-clause-kept g c).Joined-hinted-eq0)
