use Rattle.std.proofs.Common.{◌≡◌, length, Some, refl, arith}
use Rattle.std.specs.Prelude.{slice_get}
use Rattle.std.proofs.lemmas.List.{length-set}
use Rattle.std.proofs.lemmas.Option.{slice_get_read}
use Rattle.udt_ring.proofs.RingLemmas.{empties_none, empties_more}
use Rattle.udt_ring.proofs.ring.empty.Goals as goal

pub loop-passed-init : goal.loop-passed-init
loop-passed-init g c = empties_none c.args.head c.args.first c.args.places.now c.requires.first

-- one place more is emptied
pub loop-passed-preserved : goal.loop-passed-preserved
loop-passed-preserved g c =
    let l = c.loop-passed in
    let place = c.index-places-at.result in
    let found : slice_get l.places l.at ≡ Some place = slice_get_read l.places (length l.places) l.at place refl l.invariant.within c.index-places-at.is in
    rw (c.next_place-at.ensures, length-set, ← c.index-places-at.is)
    (empties_more l.passed c.args.head c.args.first l.at c.args.places.now l.places place (omega (arith, c.loop-passed-test.true, c.requires.by)) c.requires.first found l.invariant)
