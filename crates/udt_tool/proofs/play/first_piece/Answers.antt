use Rattle.std.proofs.Common.{◌≡◌, ◌∷◌, ◌<◌, [], suc, length, take, drop, arith}
use Rattle.std.proofs.lemmas.Grind.{common_steps}
use Rattle.udt_model.specs.Script.{pieces_of, line_in}
use Rattle.udt_tool.proofs.Pieces.{one_piece, first_piece, line_length, no_pieces}
use Rattle.udt_tool.proofs.play.first_piece.Goals as goal

-- the text has no line feed
pub returns-then-at-text-clause-pieces : goal.returns-then-at-text-clause-pieces
returns-then-at-text-clause-pieces c =
    let all : length (line_in c.args.text.now) ≡ length c.args.text.now = grind (arith, c.line_len-at.ensures.value) in
    let one : pieces_of c.args.text.now ≡ c.args.text.now ∷ [] = one_piece c.args.text.now c.requires.some all in
    let front = c.split_at.ensures.front in
    let back = c.split_at.ensures.back in
    grind (arith, common_steps, one, front, back, no_pieces)

-- the first line ends with its line feed
pub returns-else-at-text-clause-pieces : goal.returns-else-at-text-clause-pieces
returns-else-at-text-clause-pieces c =
    let ends : length (line_in c.args.text.now) < length c.args.text.now = grind (arith, c.line_len-at.ensures.value, c.line_len-at.ensures.within) in
    let pieces : pieces_of c.args.text.now ≡ take (suc (length (line_in c.args.text.now))) c.args.text.now ∷ pieces_of (drop (suc (length (line_in c.args.text.now))) c.args.text.now) = first_piece c.args.text.now ends in
    let front = c.split_at-else-at-text.ensures.front in
    let back = c.split_at-else-at-text.ensures.back in
    let value = c.line_len-at.ensures.value in
    grind (arith, common_steps, pieces, front, back, value)

-- and is the line of that piece
pub returns-else-at-text-clause-line : goal.returns-else-at-text-clause-line
returns-else-at-text-clause-line c =
    let same : length (line_in (take (suc (length (line_in c.args.text.now))) c.args.text.now)) ≡ length (line_in c.args.text.now) = line_length c.args.text.now in
    let front = c.split_at-else-at-text.ensures.front in
    let value = c.line_len-at.ensures.value in
    grind (arith, common_steps, same, front, value)
