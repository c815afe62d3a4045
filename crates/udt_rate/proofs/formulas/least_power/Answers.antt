-- Each step is to the next power, and where the loop ends the power is the least one.
use Rattle.std.proofs.Common.{suc, arith}
use Rattle.std.proofs.Math.Nat.{pow-suc, one-le-pow}
use Rattle.udt_rate.proofs.Powers.{none_below, least_from, least_is_one, power_is_least, below_ten_times}
use Rattle.udt_rate.proofs.formulas.least_power.Goals as goal

pub loop-power-smaller : goal.loop-power-smaller
loop-power-smaller c =
    let k = c.loop-power.invariant.0 in
    omega (arith, one-le-pow k 10 (omega arith), c.loop-power.invariant.1)

pub loop-power-preserved : goal.loop-power-preserved
loop-power-preserved c =
    let k = c.loop-power.invariant.0 in (
      suc k,
      omega (arith, pow-suc 10 k, c.loop-power.invariant.1),
      none_below k _ (omega (arith, c.loop-power.invariant.1)),
    )

pub returns-clause-value : goal.returns-clause-value
returns-clause-value c =
    let i = c.loop-power.invariant in
    least_is_one _ _ _ (least_from _ i.0 c.args.need i.1 (omega arith) i.2) (power_is_least c.args.need)

pub returns-clause-near : goal.returns-clause-near
returns-clause-near c positive =
    let i = c.loop-power.invariant in
    let l = least_from _ i.0 c.args.need i.1 (omega arith) i.2 in
    below_ten_times _ c.args.need l.exponent l.is_power l.is_least positive
