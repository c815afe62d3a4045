use Rattle.std.proofs.Common.{◌≡◌, ◌∙◌, ◌+◌, ◌≤◌, ◌++◌, true, [], length, take, arith, sym, ap}
use Rattle.std.proofs.lemmas.List.{nil_from_length, length-take}
use Rattle.std.specs.Prelude.{Err}
use Rattle.udt_model.specs.declared.limits.TheConstants.{LONGEST_SCRIPT}
use Rattle.udt_model.specs.Script.{Played, played_with, line_in, refused_at}
use Rattle.udt_tool.specs.Plays.{AnswersPiece}
use Rattle.udt_world.specs.declared.world.LineNo.TheVariants.{Refused}
use Rattle.udt_tool.proofs.Progress.{starts, accepted, refused, ends, shorter_text}
use Rattle.udt_tool.proofs.play.play.Goals as goal

-- nothing was played yet
pub loop-rest-init : goal.loop-rest-init
loop-rest-init g c =
    let begun = starts g.C.Control.ways c.args.text.now in
    rw (c.new-world.ensures, c.new-out.ensures.items, c.looked_at-rest.ensures) begun

-- the piece is no longer than what is looked at
pub play_piece-requires-clause-fits : goal.play_piece-requires-clause-fits
play_piece-requires-clause-fits g c =
    let most : length (take (LONGEST_SCRIPT + 1) c.args.text.now) ≤ 67108865 = grind (arith, length-take (LONGEST_SCRIPT + 1) c.args.text.now) in
    omega (arith, most, c.loop-rest.invariant.shorter, c.first_piece.ensures.lengths)

-- the piece is refused
pub returns-in-Err-Refused-clause-value : goal.returns-in-Err-Refused-clause-value
returns-in-Err-Refused-clause-value g c =
    let answer : AnswersPiece g.C.Control.ways c.loop-rest.world c.first_piece.result.0.now (Err Refused) c.play_piece.new.world c.loop-rest.out.items c.play_piece.new.out.items = rw c.in-Err-Refused.field-0-is at c.in-Err-Refused.ensures in
    let whole : played_with g.C.Control.ways c.args.text.now ≡ record { text = c.play_piece.new.out.items ++ (refused_at c.loop-rest.number).text; refused = true } = refused g.C.Control.ways c.args.text.now c.loop-rest.world c.play_piece.new.world c.loop-rest.out.items c.play_piece.new.out.items c.loop-rest.rest.now c.first_piece.result.0.now c.first_piece.result.1.now c.loop-rest.number c.loop-rest.size c.loop-rest.invariant c.first_piece.ensures.pieces answer in
    ap (λ t. let q : Played = record { text = t; refused = true } in q) c.in-Ok-print_refused.ensures.ok ∙ sym whole

-- the piece was accepted
pub loop-rest-preserved : goal.loop-rest-preserved
loop-rest-preserved g c =
    let short : length (line_in c.first_piece.result.0.now) ≤ length c.first_piece.result.0.now = grind (arith, c.line_len.ensures.value, c.line_len.ensures.within) in
    rw c.line_len.ensures.value (accepted g.C.Control.ways c.args.text.now c.loop-rest.world c.play_piece.new.world c.loop-rest.out.items c.play_piece.new.out.items c.loop-rest.rest.now c.first_piece.result.0.now c.first_piece.result.1.now c.loop-rest.number c.loop-rest.size c.loop-rest.invariant c.first_piece.ensures.pieces c.first_piece.ensures.lengths c.first_piece.ensures.line short c.in-Ok.ensures)

-- all was played
pub returns-clause-value : goal.returns-clause-value
returns-clause-value g c =
    let none : c.loop-rest.rest.now ≡ [] = nil_from_length _ (omega (arith, c.loop-rest-test.false)) in
    sym (ends g.C.Control.ways c.args.text.now c.loop-rest.world c.loop-rest.out.items c.loop-rest.rest.now c.loop-rest.number c.loop-rest.size c.loop-rest.invariant none)

-- and so it was within the limit
pub returns-clause-fits : goal.returns-clause-fits
returns-clause-fits g c =
    let looked : length (take (LONGEST_SCRIPT + 1) c.args.text.now) ≤ LONGEST_SCRIPT = omega (arith, c.loop-rest.invariant.within, c.loop-rest-test.false) in
    λ _. shorter_text c.args.text.now looked
