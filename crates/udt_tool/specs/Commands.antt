-- What the program does for the words of its command line.
use Rattle.std.specs.Prelude.{◌≡◌, ℕ, ◌==◌, ◌≤◌, Bool, true, false, ◌||◌, List, [], ◌∷◌, ◌++◌, length, codes, Option, Some, IfSome, IsTrue, if◌then◌else◌}
use Rattle.std.specs.List.{list_any}
use Rattle.udt_model.specs.declared.limits.TheConstants.{FIXED_PERIOD}
use Rattle.udt_model.specs.declared.scripts.ControlName.{ControlName}
use Rattle.udt_model.specs.declared.scripts.ControlName.TheVariants.{Native, Fixed, Aimd}
use Rattle.udt_model.specs.declared.scripts.Summary.{Summary}
use Rattle.udt_model.specs.Controls.{fixed, additive}
use Rattle.udt_model.specs.Generated.{generated_summary, summary_text}
use Rattle.udt_model.specs.Rate.{native}
use Rattle.udt_model.specs.Script.{Played, played}
use Rattle.udt_model.specs.Texts.{ended}
use Rattle.udt_model.specs.Words.{is_word}
use Rattle.udt_outside.specs.Faults.{Rose}
use Rattle.udt_tool.specs.declared.offline.TheConstants.{DONE, NO_COMMAND, REFUSED, SOURCE_FAILED, SINK_FAILED, OUT_OF_MEMORY}
use Rattle.udt_words.specs.declared.order.Order.{Order}
use Rattle.udt_words.specs.declared.order.Order.TheVariants.{Replay, World}
use Rattle.udt_words.specs.Table.{order_of}
pub use Rattle.udt_words.specs.Table.{spelled}
use Rattle.udt_tool.specs.Streamed.{Reads, ReadsMore, Wrote, WrotePart, WrotePrefix}

-- ---- words

-- no words, or a first one that names a command which needs no network
abbrev pub is_offline : List (List ℕ) → Bool
is_offline [] = true
is_offline (first ∷ others) = is_word first (codes "replay") || is_word first (codes "world")

-- the order is to replay a script
abbrev pub is_replaying : Option Order → Bool
is_replaying (Some (Replay control)) = true
is_replaying order = false

-- the order is one that is done here: to replay a script, or to generate one
abbrev pub is_done : Option Order → Bool
is_done (Some (Replay control)) = true
is_done (Some (World n turns control)) = true
is_done order = false

-- the words are the command to replay a script
abbrev pub is_replay : List (List ℕ) → Bool
is_replay words = is_replaying (order_of words)

-- the words are a command that is done here
abbrev pub is_command : List (List ℕ) → Bool
is_command words = is_done (order_of words)

-- ---- answers

-- what words that are no command print
abbrev pub usage_line : List ℕ
usage_line =
    ended (codes "usage: udt replay [CONTROL] | world N TURNS [CONTROL] | pair SIZE COUNT N | "
    ++ codes "recv PORT FILE COUNT | recv6 PORT FILE COUNT | send FILE ADDR PORT | record TURNS N | check")

-- what is printed in the end, and the status
pub record Outcome : Type 0 where
  pub text : List ℕ
  pub status : ℕ

-- a replayed script prints what it plays, and its status tells whether a line was refused
abbrev pub replayed : Played → Outcome
replayed p = record { text = p.text; status = if p.refused then REFUSED else DONE }

-- what the replay of a script under a control ends with
abbrev pub replays : ControlName → List ℕ → Outcome
replays control script = replayed (played control script)

-- the numbers of a generated run under the control that a command names
unfoldable pub generated_by : ControlName → ℕ → ℕ → Summary
generated_by Native n turns = generated_summary native n turns
generated_by Fixed n turns = generated_summary (fixed FIXED_PERIOD) n turns
generated_by Aimd n turns = generated_summary additive n turns

-- what a generated run ends with: its line
abbrev pub generates : ControlName → ℕ → ℕ → Outcome
generates control n turns = record { text = summary_text n turns (generated_by control n turns); status = DONE }

-- what words that are no command end with
abbrev pub faulty : Outcome
faulty = record { text = usage_line; status = NO_COMMAND }

-- the outcome is this one, whatever the input
abbrev pub always : Outcome → List ℕ → Outcome
always outcome script = outcome

-- what an order ends with, by the input. One that is not done here counts as no command
abbrev pub done_of : Option Order → List ℕ → Outcome
done_of (Some (Replay control)) = replays control
done_of (Some (World n turns control)) = always (generates control n turns)
done_of order = always faulty

-- what a command line ends with, by the input
abbrev pub outcome_of : List (List ℕ) → List ℕ → Outcome
outcome_of words = done_of (order_of words)

-- ---- runs

-- the statuses of runs that ended early
abbrev pub is_early : ℕ → Bool
is_early status = list_any (λ early. early == status) (SOURCE_FAILED ∷ SINK_FAILED ∷ OUT_OF_MEMORY ∷ [])

-- it is one of these statuses
abbrev pub IsAmong : List ℕ → ℕ → Type 0
IsAmong statuses status = IsTrue (list_any (λ known. known == status) statuses)

-- the statuses there are
abbrev pub IsStatus : ℕ → Type 0
IsStatus status = IsAmong (DONE ∷ NO_COMMAND ∷ REFUSED ∷ SOURCE_FAILED ∷ SINK_FAILED ∷ OUT_OF_MEMORY ∷ []) status

-- where it is told what the input had, a run that did not end early has the outcome's status
abbrev pub HasStatus : (List ℕ → Outcome) → Option (List ℕ) → ℕ → Type 0
HasStatus outcome before status = IfSome before (λ script. is_early status ≡ false → status ≡ (outcome script).status)

-- where it is told, a run that did not end early wrote the outcome's text
abbrev pub HasText : (List ℕ → Outcome) → Option (List ℕ) → Option (List ℕ) → Option (List ℕ) → ℕ → Type 0
HasText outcome before taken_before taken_after status =
    IfSome before (λ script. is_early status ≡ false → Wrote taken_before taken_after (outcome script).text)

-- the beginning of a text was written, with which some input ends that begins with what was read
pub record BreaksOff (outcome : List ℕ → Outcome) (before : List ℕ) (after : Option (List ℕ)) (taken_before : List ℕ)
    (taken_after : Option (List ℕ)) : Type 0 where
  pub read : List ℕ
  pub reads : Reads before after read
  pub unread : List ℕ
  pub unwritten : List ℕ
  pub wrote : WrotePrefix taken_before taken_after (outcome (read ++ unread)).text unwritten

-- where it is told, the run broke off
abbrev pub BreaksOffThere : (List ℕ → Outcome) → Option (List ℕ) → Option (List ℕ) → Option (List ℕ) → Option (List ℕ) → Type 0
BreaksOffThere outcome before after taken_before taken_after =
    IfSome before (λ script. IfSome taken_before (λ taken. BreaksOff outcome script after taken taken_after))

-- where it is told, a run that ended early broke off
abbrev pub EndsEarly : (List ℕ → Outcome) → Option (List ℕ) → Option (List ℕ) → Option (List ℕ) → Option (List ℕ) → ℕ → Type 0
EndsEarly outcome before after taken_before taken_after status =
    is_early status ≡ true → BreaksOffThere outcome before after taken_before taken_after

-- where it is told, a script that was done was read to its end
abbrev pub ReadsToEnd : Option (List ℕ) → Option (List ℕ) → ℕ → Type 0
ReadsToEnd before after status = status ≡ DONE → IfSome before (λ script. after ≡ Some [])

-- where it is told, at least a byte was read
abbrev pub ReadsThere : Option (List ℕ) → Option (List ℕ) → Type 0
ReadsThere before after = IfSome before (λ script. ReadsMore script after)

-- memory runs out only where words follow the command's name, or a script was being replayed, of which at least a byte was read
abbrev pub LosesMemory : List (List ℕ) → Option (List ℕ) → Option (List ℕ) → ℕ → Type 0
LosesMemory words before after status =
    status ≡ OUT_OF_MEMORY → length words ≤ 1 → (is_replay words ≡ true) × ReadsThere before after

-- the statuses of runs in which neither the source nor the sink failed
abbrev pub IsFaultless : ℕ → Type 0
IsFaultless status = IsAmong (DONE ∷ NO_COMMAND ∷ REFUSED ∷ OUT_OF_MEMORY ∷ []) status

-- ---- promises

-- what a source has left and a sink took, where they tell it, and how many faults they counted
pub record Streams : Type 0 where
  pub left : Option (List ℕ)
  pub source_faults : ℕ
  pub taken : Option (List ℕ)
  pub sink_faults : ℕ

abbrev pub streams : Option (List ℕ) → ℕ → Option (List ℕ) → ℕ → Streams
streams left source_faults taken sink_faults =
    record { left = left; source_faults = source_faults; taken = taken; sink_faults = sink_faults }

-- what each run promises that has this outcome
pub record Runs (ends : List ℕ → Outcome) (old new : Streams) (status : ℕ) : Type 0 where
  pub known : IsStatus status
  pub outcome : HasStatus ends old.left status
  pub text : HasText ends old.left old.taken new.taken status
  pub early : EndsEarly ends old.left new.left old.taken new.taken status
  pub source_failed : status ≡ SOURCE_FAILED → Rose old.source_faults new.source_faults
  pub sink_failed : status ≡ SINK_FAILED → Rose old.sink_faults new.sink_faults
  pub faultless : ¬ Rose old.source_faults new.source_faults → ¬ Rose old.sink_faults new.sink_faults → IsFaultless status

-- an outcome is printed: the sink took its text, or a prefix of it where the sink failed or memory ran out
pub record Prints (outcome : Outcome) (before after : Option (List ℕ)) (status : ℕ) : Type 0 where
  pub known : IsAmong (OUT_OF_MEMORY ∷ SINK_FAILED ∷ outcome.status ∷ []) status
  pub whole : status ≡ outcome.status → Wrote before after outcome.text
  pub part : WrotePart before after outcome.text
