-- What a script and its output say that was sent and received, name by name.
use Rattle.std.specs.Prelude.{◌≡◌, ℕ, List, [], ◌∷◌, ◌++◌, map, Option, Some, Result, Ok, if◌then◌else◌}
use Rattle.std.specs.List.{Contains, flat_map}
use Rattle.udt_model.specs.Emissions.{IsPrefix}
use Rattle.udt_model.specs.Events.{Act, Reply}
use Rattle.udt_model.specs.History.{taken_by, given_by}
use Rattle.udt_model.specs.Lines.{Pairing, Line, PairLine, CallLine, read_line, AreEmitted}
use Rattle.udt_model.specs.Rate.{Ways}
use Rattle.udt_model.specs.Script.{printed_after}
use Rattle.udt_model.specs.Texts.{event_text, listen_twice_text, meet_taken_text}
use Rattle.udt_model.specs.Words.{is_word}
use Rattle.udt_world.specs.declared.world.LineNo.{LineNo}

-- the answer to a call: what the socket replied, or that the place of a listener or of a meeting is taken
pub data Answer : Type 0 where
  Replied : (reply : Reply) → Answer
  ListensTwice : Answer
  MeetsTaken : Answer

-- a line of a script and what it printed: the answer, where the line is a call, and the rest of its text
pub record Entry : Type 0 where
  pub line : List ℕ
  pub answer : Answer
  pub rest : List ℕ

-- the text that tells the answer to a call
abbrev pub told_text : List ℕ → Act → Answer → List ℕ
told_text name act (Replied reply) = event_text name act reply
told_text name act ListensTwice = listen_twice_text name
told_text name act MeetsTaken = meet_taken_text name

abbrev pub answer_text : Option Line → Answer → List ℕ
answer_text (Some (CallLine name event)) answer = told_text name event.act answer
answer_text line answer = []

abbrev pub entry_text : Entry → List ℕ
entry_text entry = answer_text (read_line entry.line) entry.answer ++ entry.rest

-- the bytes that an answer gave, and those that it took
abbrev pub given_in : Answer → List ℕ
given_in (Replied reply) = given_by reply
given_in taken = []

abbrev pub taken_in : Act → Answer → List ℕ
taken_in act (Replied reply) = taken_by act reply
taken_in act taken = []

-- the bytes that a call of this name gave
abbrev pub given_to : List ℕ → Option Line → Answer → List ℕ
given_to name (Some (CallLine other event)) answer = if is_word other name then given_in answer else []
given_to name line answer = []

-- and those that it took
abbrev pub taken_from : List ℕ → Option Line → Answer → List ℕ
taken_from name (Some (CallLine other event)) answer = if is_word other name then taken_in event.act answer else []
taken_from name line answer = []

-- all bytes that this name received, and all that it sent
abbrev pub received : List ℕ → List Entry → List ℕ
received name entries = flat_map (λ entry. given_to name (read_line entry.line) entry.answer) entries

abbrev pub sent : List ℕ → List Entry → List ℕ
sent name entries = flat_map (λ entry. taken_from name (read_line entry.line) entry.answer) entries

-- of each two names that a line made a pair, the one received a prefix of what the other sent
pub record AreInStep (entries : List Entry) : Type 0 where
  pub second : (entry : Entry) (p : Pairing) → Contains entries entry → read_line entry.line ≡ Some (PairLine p)
      → IsPrefix (received p.b entries) (sent p.a entries)
  pub first : (entry : Entry) (p : Pairing) → Contains entries entry → read_line entry.line ≡ Some (PairLine p)
      → IsPrefix (received p.a entries) (sent p.b entries)

-- the lines of the entries
abbrev pub lines_in : List Entry → List (List ℕ)
lines_in entries = map (λ (entry : Entry). entry.line) entries

module _ {C : Type 0} (w : Ways C) where
  -- each line is printed as the definitions say, after these and the ones before it
  unfoldable pub ArePrinted : List (List ℕ) → List Entry → Type 0
  ArePrinted lines [] = Unit {0}
  ArePrinted lines (entry ∷ entries) =
      (printed_after w lines entry.line ≡ Some (entry_text entry)) × ArePrinted (lines ++ entry.line ∷ []) entries

  -- one more line was printed after these: where none gives bytes of its own, by this text and by what the others print each
  -- name received a prefix of what its peer sent
  pub record TellsLine (lines : List (List ℕ)) (line before after : List ℕ) : Type 0 where
    pub entries : List Entry
    pub last : Entry
    pub lines_are : lines_in entries ≡ lines
    pub line_is : last.line ≡ line
    pub printed : ArePrinted [] entries
    pub text : after ≡ before ++ entry_text last
    pub in_step : AreEmitted (lines ++ line ∷ []) → AreInStep (entries ++ last ∷ [])

  -- what a world's line printed after these
  abbrev pub KeepsPrefix : Option (List (List ℕ)) → List ℕ → Result (Unit {0}) LineNo → List ℕ → List ℕ → Type 0
  KeepsPrefix (Some lines) line (Ok done) before after = TellsLine lines line before after
  KeepsPrefix lines line answer before after = Unit {0}
