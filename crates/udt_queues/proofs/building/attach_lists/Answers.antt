-- List after list.
use Rattle.std.proofs.Common.{◌≡◌, ℕ, subst, arith}
use Rattle.udt_queues.specs.Starting.{AreBuilt}
use Rattle.udt_queues.proofs.ListByList.{built_none, built_more}
use Rattle.udt_queues.proofs.building.attach_lists.Goals as goal

pub loop-i-init : goal.loop-i-init
loop-i-init g c = built_none _ _ _ c.in_ok-passes.ensures

pub loop-i-preserved : goal.loop-i-preserved
loop-i-preserved g c = built_more _ _ _ _ _ _ c.loop-i.invariant c.in_ok-column.ensures c.in_ok-hand_out.ensures

pub returns : goal.returns
returns g c =
    let all : c.loop-i.i ≡ c.args.takers = omega (arith, c.loop-i-test.false, c.loop-i.auto.i-end) in
    subst (λ (z : ℕ × ℕ). AreBuilt c.args.takers z.0 z.1 c.loop-i.passes.items) (λ i. (c.max-places.ensures i, all i)) c.loop-i.invariant
