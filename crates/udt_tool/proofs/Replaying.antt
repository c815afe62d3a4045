-- How a run ends, by what was read and written.
use Rattle.std.proofs.Common.{◌≡◌, ◌∙◌, ℕ, ◌+◌, ◌<◌, ◌≤◌, List, [], ◌∷◌, ◌++◌, length, take, refl, sym, ap, subst, rules, arith, Option, Some, None, Bool, true, false, append-nil, nat_le}
use Rattle.std.proofs.lemmas.Bool.Decides.{nat_tests}
use Rattle.std.proofs.lemmas.List.{take-append-le}
use Rattle.std.specs.Prelude.{IfSome, if◌then◌else◌}
use Rattle.udt_model.specs.declared.limits.TheConstants.{FIXED_PERIOD, LONGEST_SCRIPT}
use Rattle.udt_model.specs.declared.scripts.ControlName.{ControlName}
use Rattle.udt_model.specs.declared.scripts.ControlName.TheVariants.{Native, Fixed, Aimd}
use Rattle.udt_model.specs.Controls.{fixed, additive}
use Rattle.udt_model.specs.Rate.{native}
use Rattle.udt_model.specs.Script.{played, played_from, pieces_of}
use Rattle.udt_tool.specs.Streamed.{Reads, ReadsSome, ReadsMore, ReadsScript, Wrote, WrotePart}
use Rattle.udt_tool.specs.Commands.{Outcome, replayed, replays, always, is_early, IsAmong, IsStatus, IsFaultless, BreaksOffThere, ReadsThere, Streams, Runs, Prints}
use Rattle.udt_tool.specs.declared.offline.TheConstants.{DONE, NO_COMMAND, REFUSED, SOURCE_FAILED, SINK_FAILED, OUT_OF_MEMORY}
use Rattle.udt_outside.specs.Faults.{Rose}
use Rattle.udt_tool.proofs.Streaming.{ReadTo, nothing_read}

same_rest : (rest other : List ℕ) → Some rest ≡ Some other → rest ≡ other
same_rest rest other same = cc

-- what holds of each, holds where there is one
any_some : {A : Type 0} (o : Option A) (P : A → Type 0) → ((x : A) → P x) → IfSome o P
any_some None P all = tt
any_some (Some x) P all = all x

follow : {A : Type 0} (o : Option A) (P Q : A → Type 0) → ((x : A) → P x → Q x) → IfSome o P → IfSome o Q
follow None P Q f p = tt
follow (Some x) P Q f p = f x p

-- ---- what was read

-- no more is looked at than what was read
looked_the_same : (before : List ℕ) (after : Option (List ℕ)) (script : List ℕ) → ReadsScript before after script → take (LONGEST_SCRIPT + 1) script ≡ take (LONGEST_SCRIPT + 1) before
looked_the_same before after script r =
    elim (nat_le (length script) LONGEST_SCRIPT) as (λ b. nat_le (length script) LONGEST_SCRIPT ≡ b → take (LONGEST_SCRIPT + 1) script ≡ take (LONGEST_SCRIPT + 1) before) [
      | true ↦ λ e.
          let small : length script ≤ LONGEST_SCRIPT = search (rules, e) in
          let none : r.reads.rest ≡ [] = same_rest r.reads.rest [] (sym r.reads.left ∙ r.to_end small) in
          let same : before ≡ script = r.reads.whole ∙ ap (λ rest. script ++ rest) none ∙ append-nil script in
          ap (take (LONGEST_SCRIPT + 1)) (sym same)
      | false ↦ λ e.
          let past : LONGEST_SCRIPT + 1 ≤ length script = search (rules, e) in
          sym (ap (take (LONGEST_SCRIPT + 1)) r.reads.whole ∙ take-append-le (LONGEST_SCRIPT + 1) script r.reads.rest past)
    ] refl

-- so it plays the same
enough : (control : ControlName) (before : List ℕ) (after : Option (List ℕ)) (script : List ℕ) → ReadsScript before after script → replays control script ≡ replays control before
unfolding played
enough Native before after script r = ap (λ text. replayed (played_from native [] (pieces_of text))) (looked_the_same before after script r)
enough Fixed before after script r = ap (λ text. replayed (played_from (fixed FIXED_PERIOD) [] (pieces_of text))) (looked_the_same before after script r)
enough Aimd before after script r = ap (λ text. replayed (played_from additive [] (pieces_of text))) (looked_the_same before after script r)

-- a script within the limit was read to its end
pub read_to_end : (before after : Option (List ℕ)) (script : List ℕ) → IfSome before (λ left. ReadsScript left after script) → length script ≤ LONGEST_SCRIPT → IfSome before (λ left. after ≡ Some [])
read_to_end before after script r small = follow before (λ left. ReadsScript left after script) (λ left. after ≡ Some []) (λ left read. read.to_end small) r

-- a script with a byte in it was read
pub read_a_byte : (before after : Option (List ℕ)) (script : List ℕ) → IfSome before (λ left. ReadsScript left after script) → 0 < length script → ReadsThere before after
read_a_byte before after script r some =
    follow before (λ left. ReadsScript left after script) (λ left. ReadsMore left after) (λ left read. record { bytes = script; some = some; reads = read.reads }) r

-- ---- what was written

-- nothing is written before the script is read
breaks_off_reading : (ends : List ℕ → Outcome) (before after taken : Option (List ℕ)) → IfSome before (λ left. ReadsSome left after) → BreaksOffThere ends before after taken taken
breaks_off_reading ends None after taken r = tt
breaks_off_reading ends (Some left) after None r = tt
breaks_off_reading ends (Some left) after (Some taken) r = record {
  read = r.0;
  reads = r.1;
  unread = [];
  unwritten = (ends (r.0 ++ [])).text;
  wrote = record { prefix = []; taken = ap Some (sym (append-nil taken)); whole = refl };
}

-- a part of a text was written
breaks_off_writing : (ends : List ℕ → Outcome) (before after taken_before taken_after : Option (List ℕ)) (script : List ℕ) → ReadTo before after script → WrotePart taken_before taken_after (ends script).text → BreaksOffThere ends before after taken_before taken_after
breaks_off_writing ends None after taken_before taken_after script r w = tt
breaks_off_writing ends (Some left) after None taken_after script r w = tt
breaks_off_writing ends (Some left) after (Some taken) taken_after script r w = record {
  read = script;
  reads = r;
  unread = [];
  unwritten = w.0;
  wrote = record {
    prefix = w.1.prefix;
    taken = w.1.taken;
    whole = ap (λ text. (ends text).text) (append-nil script) ∙ w.1.whole;
  };
}

-- ---- runs

-- the source failed before anything was written
pub source_failed_runs : (ends : List ℕ → Outcome) (old new : Streams) → new.taken ≡ old.taken → IfSome old.left (λ left. ReadsSome left new.left)
    → Rose old.source_faults new.source_faults → Runs ends old new SOURCE_FAILED
source_failed_runs ends old new same read rose = record {
  known = refl;
  outcome = any_some old.left _ (λ script late. absurd (cc));
  text = any_some old.left _ (λ script late. absurd (cc));
  early = λ _. rw same (breaks_off_reading ends old.left new.left old.taken read);
  source_failed = λ _. rose;
  sink_failed = λ is. absurd (omega (arith, is));
  faultless = λ no_source no_sink. absurd (no_source rose);
}

-- memory ran out before anything was written
pub lost_runs : (ends : List ℕ → Outcome) (old new : Streams) → new.taken ≡ old.taken → IfSome old.left (λ left. ReadsSome left new.left)
    → Runs ends old new OUT_OF_MEMORY
lost_runs ends old new same read = record {
  known = refl;
  outcome = any_some old.left _ (λ script late. absurd (cc));
  text = any_some old.left _ (λ script late. absurd (cc));
  early = λ _. rw same (breaks_off_reading ends old.left new.left old.taken read);
  source_failed = λ is. absurd (omega (arith, is));
  sink_failed = λ is. absurd (omega (arith, is));
  faultless = λ no_source no_sink. refl;
}

-- statuses that are not early
abbrev pub IsLate : ℕ → Type 0
IsLate status = IsAmong (DONE ∷ NO_COMMAND ∷ REFUSED ∷ []) status

module _ (ok status : ℕ) (late : IsLate ok) (among : IsAmong (OUT_OF_MEMORY ∷ SINK_FAILED ∷ ok ∷ []) status) where
  is_known : IsStatus status
  is_known = grind (arith, nat_tests, late, among)

  is_ok : is_early status ≡ false → status ≡ ok
  is_ok not_early = grind (arith, nat_tests, late, among, not_early)

  is_no_source : status ≡ SOURCE_FAILED → ⊥
  is_no_source is = grind (arith, nat_tests, late, among, is)

  is_faultless : (status ≡ SINK_FAILED → ⊥) → IsFaultless status
  is_faultless no_sink = grind (arith, nat_tests, late, among, no_sink)

-- what was read decides the outcome, which was printed
module _ (ends : List ℕ → Outcome) (old new : Streams) (script : List ℕ) (status : ℕ) (late : IsLate (ends script).status)
    (read : ReadTo old.left new.left script) (same : IfSome old.left (λ left. ends script ≡ ends left))
    (printed : Prints (ends script) old.taken new.taken status) (rose : status ≡ SINK_FAILED → Rose old.sink_faults new.sink_faults) where
  pub prints_run : Runs ends old new status
  prints_run = record {
    known = is_known (ends script).status status late printed.known;
    outcome = follow old.left (λ left. ends script ≡ ends left) (λ left. is_early status ≡ false → status ≡ (ends left).status)
        (λ left e not_early. is_ok (ends script).status status late printed.known not_early ∙ ap (λ (o : Outcome). o.status) e) same;
    text = follow old.left (λ left. ends script ≡ ends left) (λ left. is_early status ≡ false → Wrote old.taken new.taken (ends left).text)
        (λ left e not_early. subst (λ (o : Outcome). Wrote old.taken new.taken o.text) e
        (printed.whole (is_ok (ends script).status status late printed.known not_early))) same;
    early = λ _. breaks_off_writing ends old.left new.left old.taken new.taken script read printed.part;
    source_failed = λ is. absurd (is_no_source (ends script).status status late printed.known is);
    sink_failed = rose;
    faultless = λ no_source no_sink. is_faultless (ends script).status status late printed.known (λ is. no_sink (rose is));
  }

-- a replay is late, if it is not early
replayed_late : (refused : Bool) → IsLate (if refused then REFUSED else DONE)
replayed_late true = refl
replayed_late false = refl

-- a script was read and played
pub read_runs : (control : ControlName) (old new : Streams) (script : List ℕ) (status : ℕ) → IfSome old.left (λ left. ReadsScript left new.left script)
    → Prints (replays control script) old.taken new.taken status → (status ≡ SINK_FAILED → Rose old.sink_faults new.sink_faults)
    → Runs (replays control) old new status
read_runs control old new script status read printed rose =
    prints_run (replays control) old new script status (replayed_late (played control script).refused)
    (follow old.left (λ left. ReadsScript left new.left script) (λ left. Reads left new.left script) (λ left r. r.reads) read)
    (follow old.left (λ left. ReadsScript left new.left script) (λ left. replays control script ≡ replays control left)
    (λ left r. enough control left new.left script r) read)
    printed rose

-- an outcome was printed whatever the input, of which nothing was read
pub unread_runs : (outcome : Outcome) (old new : Streams) (status : ℕ) → IsLate outcome.status → new.left ≡ old.left
    → Prints outcome old.taken new.taken status → (status ≡ SINK_FAILED → Rose old.sink_faults new.sink_faults)
    → Runs (always outcome) old new status
unread_runs outcome old new status late unread printed rose =
    prints_run (always outcome) old new [] status late
    (rw unread (nothing_read old.left))
    (any_some old.left _ (λ left. refl))
    printed rose
