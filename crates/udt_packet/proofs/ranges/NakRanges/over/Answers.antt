-- The field spells the ranges of its words.
use Rattle.std.proofs.Common.{◌∙◌, sym, arith}
use Rattle.udt_packet.proofs.RangeWords.{field-empty, field-broken, field-some, field-unspelled, some-in, from-in_range}
use Rattle.udt_packet.proofs.ranges.NakRanges.over.Goals as goal

pub returns-then-field-eq0-clause-value : goal.returns-then-field-eq0-clause-value
returns-then-field-eq0-clause-value c = field-empty c.args.field.now c.if-field-eq0.true

pub returns-then-field-ne0-clause-value : goal.returns-then-field-ne0-clause-value
returns-then-field-ne0-clause-value c = field-broken c.args.field.now c.if-field-ne0.true

pub returns-then-are_ranges-clause-value : goal.returns-then-are_ranges-clause-value
returns-then-are_ranges-clause-value c =
    field-some c.args.field.now c.if-field-eq0.false (omega arith) (sym c.are_ranges.ensures ∙ c.if-are_ranges.true)

pub returns-then-are_ranges-clause-some : goal.returns-then-are_ranges-clause-some
returns-then-are_ranges-clause-some c =
    some-in c.args.field.now c.if-field-eq0.false (omega arith) (sym c.are_ranges.ensures ∙ c.if-are_ranges.true)

pub returns-then-are_ranges-clause-in_range : goal.returns-then-are_ranges-clause-in_range
returns-then-are_ranges-clause-in_range c = from-in_range _ _ tt

pub returns-else-are_ranges-clause-value : goal.returns-else-are_ranges-clause-value
returns-else-are_ranges-clause-value c =
    field-unspelled c.args.field.now c.if-field-eq0.false (omega arith) (sym c.are_ranges.ensures ∙ c.if-are_ranges.false)
