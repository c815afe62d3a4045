use Rattle.std.proofs.Common.{◌≡◌, ◌+◌, ◌*◌, suc, arith}
use Rattle.udt_world.proofs.RunLemmas.{generated_more}
use Rattle.udt_world.proofs.generated.generate.Goals as goal

pub loop-turn-init : goal.loop-turn-init
loop-turn-init g c = record { run = c.in_ok-run.ensures.run; set = c.in_ok-run.ensures.set; below = c.in_ok-run.ensures.below }

pub turn-requires-clause-set : goal.turn-requires-clause-set
turn-requires-clause-set g c = c.loop-turn.invariant.set

pub turn-requires-clause-accepted : goal.turn-requires-clause-accepted
turn-requires-clause-accepted g c = omega (arith, c.loop-turn.invariant.below.accepted, c.loop-turn-test.true, c.requires)

pub turn-requires-clause-delivered : goal.turn-requires-clause-delivered
turn-requires-clause-delivered g c = omega (arith, c.loop-turn.invariant.below.delivered, c.loop-turn-test.true, c.requires)

-- one more turn
pub loop-turn-preserved : goal.loop-turn-preserved
loop-turn-preserved g c =
    let turn = c.loop-turn.turn in
    let next : turn + 1 ≡ suc turn = omega arith in
    let most : 4096 * turn + 4096 ≡ 4096 * (turn + 1) = omega arith in
    let more = generated_more g.C.Control.ways c.args.n turn in
    record {
      run = rw (next, more) (c.in_ok-turn.ensures.run _ c.loop-turn.invariant.run);
      set = c.in_ok-turn.ensures.set;
      below = rw most at (c.in_ok-turn.ensures.below (4096 * turn) c.loop-turn.invariant.below);
    }

pub summary-requires : goal.summary-requires
summary-requires g c = c.loop-turn.invariant.set

-- all turns were made
pub returns : goal.returns
returns g c =
    let last : c.loop-turn.turn ≡ c.args.turns = omega (arith, c.loop-turn.auto.turn-end, c.loop-turn-test.false) in
    rw last at (c.summary.ensures _ c.loop-turn.invariant.run)
