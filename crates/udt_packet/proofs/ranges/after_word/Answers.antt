-- A word is passed over as the definition passes over it.
use Rattle.std.proofs.Common.{ℕ, ◌∷◌, Option, ◌∙◌, ap, arith}
use Rattle.std.specs.Option.{is_some}
use Rattle.udt_model.specs.Wire.{ranges_from}
use Rattle.udt_packet.proofs.RangeWords.{stands_alone, begins, ends_well, ends_high, ends_far, some-before}
use Rattle.udt_packet.proofs.ranges.after_word.Goals as goal

pub returns-then-word-lt-BEGINS-clause-some : goal.returns-then-word-lt-BEGINS-clause-some
returns-then-word-lt-BEGINS-clause-some c words =
    ap (λ (begun : Option ℕ). is_some (ranges_from begun (c.args.word ∷ words))) c.in-None.is
    ∙ ap is_some (stands_alone c.args.word words (omega arith)) ∙ some-before _ _

pub returns-else-word-lt-BEGINS-clause-some : goal.returns-else-word-lt-BEGINS-clause-some
returns-else-word-lt-BEGINS-clause-some c words =
    ap (λ (begun : Option ℕ). is_some (ranges_from begun (c.args.word ∷ words))) c.in-None.is
    ∙ ap is_some (begins c.args.word words (omega arith) (omega arith))

pub returns-then-word-ge-BEGINS-clause-none : goal.returns-then-word-ge-BEGINS-clause-none
returns-then-word-ge-BEGINS-clause-none c words =
    ap (λ (begun : Option ℕ). is_some (ranges_from begun (c.args.word ∷ words))) c.in-Some.is
    ∙ ap is_some (ends_high c.args.word words c.in-Some.first (omega arith))

pub returns-then-reach-ge-NEAR-clause-none : goal.returns-then-reach-ge-NEAR-clause-none
returns-then-reach-ge-NEAR-clause-none c words =
    ap (λ (begun : Option ℕ). is_some (ranges_from begun (c.args.word ∷ words))) c.in-Some.is
    ∙ ap is_some (ends_far c.args.word words c.in-Some.first (omega arith))

pub returns-else-reach-ge-NEAR-clause-some : goal.returns-else-reach-ge-NEAR-clause-some
returns-else-reach-ge-NEAR-clause-some c words =
    ap (λ (begun : Option ℕ). is_some (ranges_from begun (c.args.word ∷ words))) c.in-Some.is
    ∙ ap is_some (ends_well c.args.word words c.in-Some.first (omega arith) (omega arith)) ∙ some-before _ _
