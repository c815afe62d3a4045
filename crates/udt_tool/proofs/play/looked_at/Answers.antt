use Rattle.std.proofs.Common.{arith, sym}
use Rattle.std.proofs.lemmas.List.{length-take-le, take_all}
use Rattle.udt_tool.proofs.play.looked_at.Goals as goal

-- the text is longer
pub slice_bounds-result-end : goal.slice_bounds-result-end
slice_bounds-result-end c = sym (length-take-le 67108865 c.args.text.now (omega (arith, c.if-text-most.true)))

-- the text is no longer
pub returns-else-text-most : goal.returns-else-text-most
returns-else-text-most c = sym (take_all 67108865 c.args.text.now c.if-text-most.false)
