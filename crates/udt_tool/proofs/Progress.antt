-- A script that is played piece by piece.
use Rattle.std.proofs.Common.{◌≡◌, ◌∙◌, ℕ, ◌+◌, ◌≤◌, List, [], ◌∷◌, ◌++◌, length, take, refl, sym, ap, arith, rules, true, false, Bool, Option, Some, None, cond, append_assoc, append-nil}
use Rattle.std.proofs.lemmas.Grind.{common_steps}
use Rattle.std.proofs.lemmas.List.{length-take}
use Rattle.std.specs.Prelude.{min, nat_le, Ok, Err}
use Rattle.udt_model.specs.declared.limits.TheConstants.{LONGEST_SCRIPT}
use Rattle.udt_model.specs.Rate.{Ways}
use Rattle.udt_model.specs.Script.{Played, pieces_of, line_in, played_with, played_from, then_played, refused_at, piece_printed, size_of}
use Rattle.udt_world.specs.declared.world.LineNo.TheVariants.{Refused}
use Rattle.udt_tool.specs.Plays.{AnswersPiece}
use Rattle.udt_world.specs.ScriptLines.{Accepts, Refuses}
use Rattle.udt_tool.proofs.Pieces.{no_pieces}

-- text in front of what is played
abbrev pub following : List ℕ → Played → Played
following text p = record p { text = text ++ p.text }

-- what is found only under a test passed it
fits_by : (b : Bool) (printed : Option (List ℕ)) (text : List ℕ) → cond b printed None ≡ Some text → b ≡ true
fits_by true printed text h = refl
fits_by false printed text h = absurd (cc)

-- what an accepted piece printed stands in front of the others
then_more : (out text : List ℕ) (number : ℕ) (others : Played) → following out (then_played number (Some text) others) ≡ following (out ++ text) others
then_more out text number others = ap (λ t. let p : Played = record { text = t; refused = others.refused } in p) (sym (append_assoc out text others.text))

-- a text of which no more than the limit was looked at is within the limit
pub shorter_text : (text : List ℕ) → length (take (LONGEST_SCRIPT + 1) text) ≤ LONGEST_SCRIPT → length text ≤ LONGEST_SCRIPT
shorter_text text looked =
    let same : length (take (LONGEST_SCRIPT + 1) text) ≡ min (LONGEST_SCRIPT + 1) (length text) = length-take (LONGEST_SCRIPT + 1) text in
    omega (arith, same, looked)

module _ {C : Type 0} (w : Ways C) where
  -- the lines that were accepted, and what is left
  pub record Progress (text : List ℕ) (world : Option (List (List ℕ))) (out rest : List ℕ) (number size : ℕ) : Type 0 where
    pub lines : List (List ℕ)
    pub is : world ≡ Some lines
    pub so_far : played_with w text ≡ following out (played_from w lines (pieces_of rest))
    pub next : number ≡ length lines + 1
    pub counted : size ≡ size_of lines
    pub bound : size ≤ LONGEST_SCRIPT + 1
    pub few : number ≤ size + 1
    pub passed : length (take (LONGEST_SCRIPT + 1) text) ≤ size + length rest
    pub within : length (take (LONGEST_SCRIPT + 1) text) ≤ LONGEST_SCRIPT + length rest
    pub shorter : length rest ≤ length (take (LONGEST_SCRIPT + 1) text)

  -- nothing was played yet
  pub starts : (text : List ℕ) → Progress text (Some []) [] (take (LONGEST_SCRIPT + 1) text) 1 0
  starts text = record {
    lines = [];
    is = refl;
    so_far = refl;
    next = omega arith;
    counted = refl;
    bound = omega arith;
    few = omega arith;
    passed = omega arith;
    within = omega arith;
    shorter = omega arith;
  }

  -- a piece that prints fits
  pub fits : (lines : List (List ℕ)) (piece text : List ℕ) → piece_printed w lines piece ≡ Some text → size_of lines + length piece ≤ LONGEST_SCRIPT
  fits lines piece text h =
      let small : nat_le (size_of lines + length piece) LONGEST_SCRIPT ≡ true = fits_by _ _ text h in
      search (rules, small)

  pub plays_on : (lines : List (List ℕ)) (piece : List ℕ) (pieces : List (List ℕ)) → played_from w lines (piece ∷ pieces) ≡ then_played (length lines + 1) (piece_printed w lines piece) (played_from w (lines ++ line_in piece ∷ []) pieces)
  unfolding played_from
  plays_on lines piece pieces = refl

  pub plays_none : (lines : List (List ℕ)) → played_from w lines [] ≡ record { text = []; refused = false }
  unfolding played_from
  plays_none lines = refl

  -- one more line was accepted
  pub accepted : (text : List ℕ) (world new : Option (List (List ℕ))) (out after rest piece others : List ℕ) (number size : ℕ)
      → Progress text world out rest number size
      → pieces_of rest ≡ piece ∷ pieces_of others
      → length piece + length others ≡ length rest
      → length piece ≤ length (line_in piece) + 1
      → length (line_in piece) ≤ length piece
      → AnswersPiece w world piece (Ok tt) new out after
      → Progress text new after others (number + 1) (size + (length (line_in piece) + 1))
  accepted text world new out after rest piece others number size p pieces lengths line short answer =
      let there : Accepts (piece_printed w p.lines piece) p.lines (line_in piece) new out after = rw p.is at answer in
      let small : size_of p.lines + length piece ≤ LONGEST_SCRIPT = fits p.lines piece there.text there.printed in
      let fits_after : size + length piece ≤ LONGEST_SCRIPT = omega (arith, small, p.counted) in
      let more : size_of (p.lines ++ line_in piece ∷ []) ≡ size_of p.lines + (length (line_in piece) + 1) = grind (arith, common_steps) in
      record {
        lines = p.lines ++ line_in piece ∷ [];
        is = there.kept;
        so_far =
            p.so_far
            ∙ ap (λ ps. following out (played_from w p.lines ps)) pieces
            ∙ ap (following out) (plays_on p.lines piece (pieces_of others))
            ∙ ap (λ t. following out (then_played (length p.lines + 1) t (played_from w (p.lines ++ line_in piece ∷ []) (pieces_of others)))) there.printed
            ∙ then_more out there.text (length p.lines + 1) (played_from w (p.lines ++ line_in piece ∷ []) (pieces_of others))
            ∙ ap (λ o. following o (played_from w (p.lines ++ line_in piece ∷ []) (pieces_of others))) (sym there.output);
        next = grind (arith, common_steps, p.next);
        counted = ap (λ n. n + (length (line_in piece) + 1)) p.counted ∙ sym more;
        bound = omega (arith, fits_after, short);
        few = omega (arith, p.few);
        passed = omega (arith, p.passed, lengths, line);
        within = omega (arith, p.passed, fits_after, lengths);
        shorter = omega (arith, p.shorter, lengths);
      }

  -- the next piece is refused, and its line is printed
  pub refused : (text : List ℕ) (world new : Option (List (List ℕ))) (out after rest piece others : List ℕ) (number size : ℕ)
      → Progress text world out rest number size
      → pieces_of rest ≡ piece ∷ pieces_of others
      → AnswersPiece w world piece (Err Refused) new out after
      → played_with w text ≡ record { text = after ++ (refused_at number).text; refused = true }
  refused text world new out after rest piece others number size p pieces answer =
      let there : Refuses (piece_printed w p.lines piece) p.lines new out after = rw p.is at answer in
      p.so_far
      ∙ ap (λ ps. following out (played_from w p.lines ps)) pieces
      ∙ ap (following out) (plays_on p.lines piece (pieces_of others))
      ∙ ap (λ t. following out (then_played (length p.lines + 1) t (played_from w (p.lines ++ line_in piece ∷ []) (pieces_of others)))) there.refused
      ∙ ap (λ n. following out (refused_at n)) (sym p.next)
      ∙ ap (λ o. following o (refused_at number)) (sym there.output)

  -- all was played
  pub ends : (text : List ℕ) (world : Option (List (List ℕ))) (out rest : List ℕ) (number size : ℕ)
      → Progress text world out rest number size
      → rest ≡ []
      → played_with w text ≡ record { text = out; refused = false }
  ends text world out rest number size p none =
      p.so_far
      ∙ ap (λ r. following out (played_from w p.lines (pieces_of r))) none
      ∙ ap (λ ps. following out (played_from w p.lines ps)) no_pieces
      ∙ ap (following out) (plays_none p.lines)
      ∙ ap (λ t. let q : Played = record { text = t; refused = false } in q) (append-nil out)
