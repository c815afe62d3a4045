-- What a world answers to a line.
use Rattle.std.specs.Prelude.{◌≡◌, ℕ, List, [], ◌∷◌, ◌++◌, Option, Some, None, Result, Ok, Err}
use Rattle.udt_model.specs.Rate.{Ways}
use Rattle.udt_model.specs.Script.{printed_after}
use Rattle.udt_world.specs.declared.world.LineNo.{LineNo}
use Rattle.udt_world.specs.declared.world.LineNo.TheVariants.{Refused, OutOfMemory}

-- a line that is answered with this text was accepted after these, and the text stands at the end of the output
pub record Accepts (answer : Option (List ℕ)) (lines : List (List ℕ)) (line : List ℕ)
    (new : Option (List (List ℕ))) (before after : List ℕ) : Type 0 where
  pub text : List ℕ
  pub printed : answer ≡ Some text
  pub kept : new ≡ Some (lines ++ line ∷ [])
  pub output : after ≡ before ++ text

-- a line without an answer was refused after these, and nothing changed
pub record Refuses (answer : Option (List ℕ)) (lines : List (List ℕ)) (new : Option (List (List ℕ)))
    (before after : List ℕ) : Type 0 where
  pub refused : answer ≡ None
  pub same : new ≡ Some lines
  pub output : after ≡ before

-- memory ran out, and nothing was printed
pub record LosesLine (new : Option (List (List ℕ))) (before after : List ℕ) : Type 0 where
  pub lost : new ≡ None
  pub output : after ≡ before

module _ {C : Type 0} (w : Ways C) where
  -- a line's answer, what it leaves and what the output was before and after it. Without memory no line is accepted or refused
  abbrev pub AnswersLine :
      Option (List (List ℕ)) → List ℕ → Result (Unit {0}) LineNo
      → Option (List (List ℕ)) → List ℕ → List ℕ → Type 0
  AnswersLine (Some lines) line (Ok done) new before after =
      Accepts (printed_after w lines line) lines line new before after
  AnswersLine (Some lines) line (Err Refused) new before after =
      Refuses (printed_after w lines line) lines new before after
  AnswersLine (Some lines) line (Err OutOfMemory) new before after = LosesLine new before after
  AnswersLine None line (Ok done) new before after = ⊥
  AnswersLine None line (Err Refused) new before after = ⊥
  AnswersLine None line (Err OutOfMemory) new before after = LosesLine new before after
