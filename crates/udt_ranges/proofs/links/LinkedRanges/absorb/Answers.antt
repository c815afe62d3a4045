use Rattle.std.proofs.Common.{refl, sym, ◌∙◌, arith}
use Rattle.udt_ranges.specs.Ranges.{IsFrom}
use Rattle.udt_ranges.specs.Merging.{absorbed, unabsorbed}
use Rattle.udt_ranges.proofs.PlaceLemmas.{head_none, head_some}
use Rattle.udt_ranges.proofs.links.LinkedRanges.absorb.Goals as goal

pub returns-in-None-clause-following : goal.returns-in-None-clause-following
unfolding unabsorbed
returns-in-None-clause-following g c = rw (head_none _ c.in-None.ensures.value) refl

pub returns-in-None-clause-value : goal.returns-in-None-clause-value
unfolding absorbed
returns-in-None-clause-value g c = rw (head_none _ c.in-None.ensures.value) refl

pub joins-requires : goal.joins-requires
unfolding IsFrom
joins-requires g c =
    let h = rw (head_some _ c.in-Some.next c.in-Some.ensures.value) at c.requires.following in
    omega (arith, h.0)

pub returns-then-not-joins-clause-following : goal.returns-then-not-joins-clause-following
unfolding unabsorbed
returns-then-not-joins-clause-following g c =
    rw (head_some _ c.in-Some.next c.in-Some.ensures.value, sym c.joins.ensures ∙ c.if-not-joins.true) refl

pub returns-then-not-joins-clause-value : goal.returns-then-not-joins-clause-value
unfolding absorbed
returns-then-not-joins-clause-value g c =
    rw (head_some _ c.in-Some.next c.in-Some.ensures.value, sym c.joins.ensures ∙ c.if-not-joins.true) refl

pub returns-clause-following : goal.returns-clause-following
unfolding unabsorbed
returns-clause-following g c =
    c.unlink.ensures.following ∙ rw (head_some _ c.in-Some.next c.in-Some.ensures.value, sym c.joins.ensures ∙ c.if-not-joins.false) refl

pub returns-clause-value : goal.returns-clause-value
unfolding absorbed
returns-clause-value g c =
    rw (head_some _ c.in-Some.next c.in-Some.ensures.value, sym c.joins.ensures ∙ c.if-not-joins.false) refl
