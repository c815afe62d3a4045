use Rattle.std.proofs.Common.{◌≡◌, ◌++◌, ◌<◌, ◌^◌, ◌∷◌, [], false, true, Some, map, refl, sym, ap, ◌∙◌, arith}
use Rattle.std.proofs.lemmas.Option.{same_Some}
use Rattle.udt_model.specs.Script.{size_of, fits_after, printed_after}
use Rattle.udt_world.specs.Kept.{items_of}
use Rattle.udt_world.specs.ScriptLines.{Refuses}
use Rattle.udt_world.specs.Transcripts.{TellsLine}
use Rattle.udt_world.specs.Views.{view_of}
use Rattle.udt_world.specs.Worlds.{lines_in}
use Rattle.udt_world.proofs.TranscriptLemmas.{accepted-more, tells}
use Rattle.udt_world.proofs.WorldLemmas.{printed-none, accepted, refused, Accepted, Refused, small_world}
use Rattle.udt_world.proofs.WorldLemmas.{adopts, adopts_small, steps, steps_small, shows, shows_small}
use Rattle.udt_world.proofs.world.World.line.Goals as goal

-- the line doesn't fit
pub returns-then-not-fits-clause-answer : goal.returns-then-not-fits-clause-answer
returns-then-not-fits-clause-answer g c =
    let lines = lines_in c.self.inside in
    let out = c.args.out.now.items in
    let here : Some lines ≡ c.args.self.now = rw c.if-self.false at c.self.view_is in
    let not_in : fits_after lines c.args.line.now ≡ false =
    sym (c.fits.ensures.value lines (c.self.invariant.size_is c.if-self.false)) ∙ c.if-not-fits.true in
    let refuses : Refuses (printed_after g.C.Control.ways lines c.args.line.now) lines (Some lines) out out =
    record { refused = printed-none g.C.Control.ways lines c.args.line.now not_in; same = refl; output = refl } in
    rw (sym here) refuses

pub returns-then-not-fits-clause-adoption : goal.returns-then-not-fits-clause-adoption
returns-then-not-fits-clause-adoption g c =
    rw (sym c.self.view_is) (adopts g.C.Control.ways c.self.inside c.self.invariant)

pub returns-then-not-fits-clause-in_step : goal.returns-then-not-fits-clause-in_step
returns-then-not-fits-clause-in_step g c = rw (sym c.self.view_is) (steps g.C.Control.ways c.self.inside c.self.invariant)

pub returns-then-not-fits-clause-shown : goal.returns-then-not-fits-clause-shown
returns-then-not-fits-clause-shown g c = rw (sym c.self.view_is) (shows g.C.Control.ways c.self.inside c.self.invariant)

was_accepted : (g : _) (c : goal.After-self-1 g)
    → Accepted g.C.Control.ways (lines_in c.self.inside) (map items_of c.keep_line.new.lines.items) c.args.line.now
    (view_of c.keep_line.new.network) c.args.out.now.items c.keep_line.new.out.items
was_accepted g c =
    let lines = lines_in c.self.inside in
    let fits : fits_after lines c.args.line.now ≡ true =
    sym (c.fits.ensures.value lines (c.self.invariant.size_is c.if-self.false)) ∙ c.if-not-fits.false in
    accepted g.C.Control.ways lines _ c.args.line.now _ _ _ (view_of c.self.inside.network)
    (c.self.invariant.shown c.if-self.false) fits c.in-Ok-true.field-0 c.in-Ok-true.field-0-test
    c.in-Ok-true.ensures.lines c.in-Ok-true.ensures.done

-- one more line was accepted
pub invariant_of-self : goal.invariant_of-self
invariant_of-self g c =
    let ways = g.C.Control.ways in
    let lines = lines_in c.self.inside in
    let size = c.self.invariant.size_is c.if-self.false in
    let more = was_accepted g c in
    let kept = same_Some _ _ more.answer.kept in
    record {
      shown = λ _. more.shown;
      wired = λ _. c.in-Ok-true.ensures.wired;
      size_is = λ _. omega (arith, size, more.size);
      bound = omega (arith, c.fits.ensures.bound c.if-not-fits.false);
      accepted = λ _. rw kept (accepted-more ways [] lines c.args.line.now more.answer.text
          (c.self.invariant.accepted c.if-self.false) more.answer.printed);
    }

pub returns-in-Ok-true-clause-answer : goal.returns-in-Ok-true-clause-answer
returns-in-Ok-true-clause-answer g c =
    let here : Some (lines_in c.self.inside) ≡ c.args.self.now = rw c.if-self.false at c.self.view_is in
    rw (sym here, c.if-self.false) (was_accepted g c).answer

pub returns-in-Ok-true-clause-adoption : goal.returns-in-Ok-true-clause-adoption
returns-in-Ok-true-clause-adoption g c = adopts g.C.Control.ways _ (invariant_of-self g c)

pub returns-in-Ok-true-clause-in_step : goal.returns-in-Ok-true-clause-in_step
returns-in-Ok-true-clause-in_step g c = steps g.C.Control.ways _ (invariant_of-self g c)

pub returns-in-Ok-true-clause-shown : goal.returns-in-Ok-true-clause-shown
returns-in-Ok-true-clause-shown g c = shows g.C.Control.ways _ (invariant_of-self g c)

-- and what it printed tells it
pub returns-in-Ok-true-clause-prefix : goal.returns-in-Ok-true-clause-prefix
returns-in-Ok-true-clause-prefix g c =
    let ways = g.C.Control.ways in
    let lines = lines_in c.self.inside in
    let line = c.args.line.now in
    let here : Some lines ≡ c.args.self.now = rw c.if-self.false at c.self.view_is in
    let size = c.self.invariant.size_is c.if-self.false in
    let more = was_accepted g c in
    let small : size_of (map items_of c.keep_line.new.lines.items) < 2 ^ 30 =
    omega (arith, size, more.size, c.fits.ensures.bound c.if-not-fits.false) in
    let few : size_of (lines ++ line ∷ []) < 2 ^ 30 = rw (same_Some _ _ more.answer.kept) at small in
    let told : TellsLine ways lines line c.args.out.now.items c.keep_line.new.out.items =
    tells ways lines line _ _ _ (c.self.invariant.accepted c.if-self.false) few more.answer in
    rw (sym here) told

was_refused : (g : _) (c : goal.In-Ok-false g)
    → Refused g.C.Control.ways (lines_in c.self.inside) (map items_of c.keep_line.new.lines.items) c.args.line.now
    (view_of c.keep_line.new.network) c.args.out.now.items c.keep_line.new.out.items
was_refused g c =
    let lines = lines_in c.self.inside in
    let fits : fits_after lines c.args.line.now ≡ true =
    sym (c.fits.ensures.value lines (c.self.invariant.size_is c.if-self.false)) ∙ c.if-not-fits.false in
    refused g.C.Control.ways lines _ c.args.line.now _ _ _ (view_of c.self.inside.network)
    (c.self.invariant.shown c.if-self.false) fits c.in-Ok-false.field-0 c.in-Ok-false.field-0-test
    c.in-Ok-false.ensures.lines c.in-Ok-false.ensures.done

-- the line was refused
pub returns-in-Ok-false-clause-answer : goal.returns-in-Ok-false-clause-answer
returns-in-Ok-false-clause-answer g c =
    let here : Some (lines_in c.self.inside) ≡ c.args.self.now = rw c.if-self.false at c.self.view_is in
    rw (sym here, c.if-self.false) (was_refused g c).answer

-- and its lines are as few as before
small_after : (g : _) (c : goal.In-Ok-false g) → c.self.inside.lost ≡ false
    → size_of (map items_of c.keep_line.new.lines.items) < 2 ^ 30
small_after g c kept =
    let same = ap size_of (was_refused g c).same in
    omega (arith, same, small_world g.C.Control.ways c.self.inside c.self.invariant kept)

pub returns-in-Ok-false-clause-adoption : goal.returns-in-Ok-false-clause-adoption
returns-in-Ok-false-clause-adoption g c = adopts_small g.C.Control.ways _ c.self.inside.lost (small_after g c)

pub returns-in-Ok-false-clause-in_step : goal.returns-in-Ok-false-clause-in_step
returns-in-Ok-false-clause-in_step g c = steps_small g.C.Control.ways _ c.self.inside.lost (small_after g c)

pub returns-in-Ok-false-clause-shown : goal.returns-in-Ok-false-clause-shown
returns-in-Ok-false-clause-shown g c = shows_small g.C.Control.ways _ c.self.inside.lost (small_after g c)
