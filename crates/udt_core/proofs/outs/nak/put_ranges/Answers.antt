-- The words of a range are put after those before it.
use Rattle.std.proofs.Common.{◌≤◌, length, map, refl, ap, arith}
use Rattle.std.proofs.lemmas.List.{drop_all}
use Rattle.udt_packet.proofs.RangeBytes.{puts, put-fits, put-end, put-all}
use Rattle.udt_core.specs.Emitted.{numbers_from}
use Rattle.udt_core.proofs.NakLemmas.{drop_first, ranges-fit}
use Rattle.udt_core.proofs.outs.nak.put_ranges.Goals as goal

pub put_offsets-end-requires : goal.put_offsets-end-requires
put_offsets-end-requires c =
    let first = drop_first (numbers_from c.args.isn) c.args.ranges.now.ranges c.loop-i.i _ c.get.ensures in
    put-fits _ c.loop-i.into _ _ _ _ _ _ _ first refl (omega (arith, c.requires, ranges-fit c.args.isn c.args.ranges.now.ranges)) c.loop-i.invariant

pub loop-i-preserved : goal.loop-i-preserved
loop-i-preserved c =
    let first = drop_first (numbers_from c.args.isn) c.args.ranges.now.ranges c.loop-i.i _ c.get.ensures in
    puts _ _ _ _ _ _ _ _ _ _ _ first refl (omega (arith, c.requires, ranges-fit c.args.isn c.args.ranges.now.ranges, c.loop-i.invariant.within)) c.put_offsets-end.ensures.value c.put_offsets-end.ensures.after c.loop-i.invariant

pub returns-clause-value : goal.returns-clause-value
returns-clause-value c =
    let all : length c.args.ranges.now.ranges ≤ c.loop-i.i = omega arith in
    put-end _ _ _ _ _ _ (ap (map (numbers_from c.args.isn)) (drop_all _ _ all)) c.loop-i.invariant

pub returns-clause-after : goal.returns-clause-after
returns-clause-after c =
    let all : length c.args.ranges.now.ranges ≤ c.loop-i.i = omega arith in
    put-all _ _ _ _ _ _ (ap (map (numbers_from c.args.isn)) (drop_all _ _ all)) c.loop-i.invariant
