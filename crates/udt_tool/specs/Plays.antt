-- What a script's pieces answer, and what a played script is.
use Rattle.std.specs.Prelude.{ℕ, List, Option, Some, None, Result, Ok, Err}
use Rattle.udt_model.specs.Rate.{Ways}
use Rattle.udt_model.specs.Script.{Played, piece_printed, line_in}
use Rattle.udt_tool.specs.declared.play.Output.{Output}
use Rattle.udt_world.specs.declared.world.LineNo.{LineNo}
use Rattle.udt_world.specs.declared.world.LineNo.TheVariants.{Refused, OutOfMemory}
use Rattle.udt_world.specs.ScriptLines.{Accepts, Refuses, LosesLine}

-- a played script, as its definition gives it
abbrev pub played_of : Output → Played
played_of output = record { text = output.text.items; refused = output.refused }

module _ {C : Type 0} (w : Ways C) where
  -- a piece's answer after these lines, what it leaves and what the output was before and after it
  abbrev pub AnswersPiece :
      Option (List (List ℕ)) → List ℕ → Result (Unit {0}) LineNo
      → Option (List (List ℕ)) → List ℕ → List ℕ → Type 0
  AnswersPiece (Some lines) piece (Ok done) new before after =
      Accepts (piece_printed w lines piece) lines (line_in piece) new before after
  AnswersPiece (Some lines) piece (Err Refused) new before after = Refuses (piece_printed w lines piece) lines new before after
  AnswersPiece (Some lines) piece (Err OutOfMemory) new before after = LosesLine new before after
  AnswersPiece None piece answer new before after = Unit {0}
