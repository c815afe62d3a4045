-- What the words that are left decide is what all words do.
use Rattle.std.proofs.Common.{ℕ, ◌+◌, ◌≤◌, List, ◌∷◌, length, drop, sym, ◌∙◌, ap, arith}
use Rattle.std.specs.Option.{is_some}
use Rattle.udt_model.specs.Wire.{words_of, ranges_from}
use Rattle.udt_packet.proofs.RangeWords.{words-from, words-end, closed}
use Rattle.udt_packet.proofs.ranges.are_ranges.Goals as goal

pub returns-in-None : goal.returns-in-None
returns-in-None c =
    let here = words-from c.args.field.now c.loop-place.place (omega (arith, c.requires, c.loop-place.invariant.whole)) in
    sym (c.in-None.ensures.none (words_of (drop (c.loop-place.place + 4) c.args.field.now)))
    ∙ ap (λ (word : ℕ). is_some (ranges_from c.loop-place.begun (word ∷ words_of (drop (c.loop-place.place + 4) c.args.field.now)))) c.word_at.ensures
    ∙ ap (λ (words : List ℕ). is_some (ranges_from c.loop-place.begun words)) (sym here) ∙ c.loop-place.invariant.same

pub loop-place-preserved : goal.loop-place-preserved
loop-place-preserved c =
    let within : c.loop-place.place + 4 ≤ length c.args.field.now = omega (arith, c.requires, c.loop-place.invariant.whole) in
    let here = words-from c.args.field.now c.loop-place.place within in
    record {
      whole = omega (arith, c.loop-place.invariant.whole);
      within = within;
      begun = c.in-Some.ensures.within;
      same =
          sym (c.in-Some.ensures.some (words_of (drop (c.loop-place.place + 4) c.args.field.now)))
          ∙ ap (λ (word : ℕ). is_some (ranges_from c.loop-place.begun (word ∷ words_of (drop (c.loop-place.place + 4) c.args.field.now)))) c.word_at.ensures
          ∙ ap (λ (words : List ℕ). is_some (ranges_from c.loop-place.begun words)) (sym here) ∙ c.loop-place.invariant.same;
    }

pub returns : goal.returns
returns c =
    closed c.loop-place.begun c.is_none.result c.is_none.ensures
    ∙ ap (λ (words : List ℕ). is_some (ranges_from c.loop-place.begun words)) (sym (words-end c.args.field.now c.loop-place.place (omega arith)))
    ∙ c.loop-place.invariant.same
