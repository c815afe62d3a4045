-- What a script plays tells it.
use Rattle.std.proofs.Common.{◌≡◌, ◌∙◌, ℕ, ◌+◌, ◌^◌, ◌≤◌, ◌<◌, List, [], ◌∷◌, ◌++◌, length, map, take, refl, sym, ap, subst, arith, true, false, Bool, Option, Some, None, append_assoc, append-nil}
use Rattle.std.specs.Prelude.{nat_le, not, ◌==◌, if◌then◌else◌}
use Rattle.std.specs.List.{flat_map, prefix_len}
use Rattle.std.proofs.lemmas.List.{length-append, length-take}
use Rattle.std.proofs.lemmas.Grind.{common_steps}
use Rattle.udt_model.specs.declared.limits.TheConstants.{FIXED_PERIOD, LONGEST_SCRIPT}
use Rattle.udt_model.specs.declared.scripts.ControlName.{ControlName}
use Rattle.udt_model.specs.declared.scripts.ControlName.TheVariants.{Native, Fixed, Aimd}
use Rattle.udt_model.specs.Controls.{fixed, additive}
use Rattle.udt_model.specs.Rate.{Ways, native}
use Rattle.udt_model.specs.Script.{Played, pieces_of, line_in, played, played_with, played_from, then_played, refused_at, piece_printed, printed_after, size_of}
use Rattle.udt_world.specs.Transcripts.{Entry, entry_text, lines_in}
use Rattle.udt_world.proofs.TranscriptLemmas.{Transcript, More, no_transcript, one-told, in-step}
use Rattle.udt_tool.specs.Commands.{replayed, replays, done_of, outcome_of, is_replaying, is_replay, is_early, Streams, Runs, HasStatus, HasText}
use Rattle.udt_words.specs.declared.order.Order.{Order}
use Rattle.udt_words.specs.declared.order.Order.TheVariants as order
use Rattle.udt_words.specs.Table.{order_of}
use Rattle.udt_tool.specs.declared.offline.TheConstants.{DONE, REFUSED}
use Rattle.udt_tool.specs.Told.{TellsScript, WroteTold, PlaysInStep}
use Rattle.udt_tool.proofs.Progress.{fits, plays_on, plays_none}

-- a line is no longer than its piece
short_line : (piece : List ℕ) → length (line_in piece) ≤ length piece
short_line piece = omega (arith, length-take (prefix_len (λ byte. not (byte == 10)) piece) piece)

size-more : (lines : List (List ℕ)) (line : List ℕ) → size_of (lines ++ line ∷ []) ≡ size_of lines + (length line + 1)
size-more lines line = grind (arith, common_steps)

printed_when : (b : Bool) (printed : Option (List ℕ)) (text : List ℕ) → (if b then printed else None) ≡ Some text → printed ≡ Some text
printed_when true printed text is = is
printed_when false printed text is = absurd (cc)

module _ {C : Type 0} (w : Ways C) where
  -- entries tell the lines of these pieces, after others
  record TellsPieces (lines : List (List ℕ)) (told : List Entry) (pieces : List (List ℕ)) (p : Played) : Type 0 where
    entries : List Entry
    others : List (List ℕ)
    lines_are : map line_in pieces ≡ lines_in entries ++ others
    text : p.text ≡ flat_map entry_text entries ++ (if p.refused then (refused_at (length lines + length entries + 1)).text else [])
    whole : p.refused ≡ false → others ≡ []
    transcript : Transcript w (lines ++ lines_in entries) (told ++ entries)
    bound : size_of (lines ++ lines_in entries) ≤ LONGEST_SCRIPT + 1

  module _ (lines : List (List ℕ)) (told : List Entry) (t : Transcript w lines told) (small : size_of lines ≤ LONGEST_SCRIPT + 1) where
    nothing_more : TellsPieces lines told [] (record { text = []; refused = false })
    nothing_more = record {
      entries = [];
      others = [];
      lines_are = refl;
      text = refl;
      whole = λ _. refl;
      transcript = rw (append-nil lines, append-nil told) t;
      bound = rw (append-nil lines) small;
    }

    refused-here : (piece : List ℕ) (pieces : List (List ℕ)) → TellsPieces lines told (piece ∷ pieces) (refused_at (length lines + 1))
    refused-here piece pieces =
        let number : length lines + 0 + 1 ≡ length lines + 1 = omega arith in
        record {
          entries = [];
          others = map line_in (piece ∷ pieces);
          lines_are = refl;
          text = rw number refl;
          whole = λ done. absurd (cc);
          transcript = rw (append-nil lines, append-nil told) t;
          bound = rw (append-nil lines) small;
        }

  -- a piece that was accepted, and those after it
  onward : (lines : List (List ℕ)) (told : List Entry) (piece text : List ℕ) (pieces : List (List ℕ)) (p : Played) (more : More w lines told (line_in piece) text)
      → TellsPieces (lines ++ line_in piece ∷ []) (told ++ more.entry ∷ []) pieces p
      → TellsPieces lines told (piece ∷ pieces) (record p { text = text ++ p.text })
  onward lines told piece text pieces p more rest =
      let number : length (lines ++ line_in piece ∷ []) + length rest.entries + 1 ≡ length lines + length (more.entry ∷ rest.entries) + 1 =
      omega (arith, length-append lines (line_in piece ∷ [])) in
      let all_lines : (lines ++ line_in piece ∷ []) ++ lines_in rest.entries ≡ lines ++ lines_in (more.entry ∷ rest.entries) =
      append_assoc lines (line_in piece ∷ []) (lines_in rest.entries) ∙ ap (λ line. lines ++ line ∷ lines_in rest.entries) (sym more.line_is) in
      let all_entries : (told ++ more.entry ∷ []) ++ rest.entries ≡ told ++ more.entry ∷ rest.entries = append_assoc told (more.entry ∷ []) rest.entries in
      record {
        entries = more.entry ∷ rest.entries;
        others = rest.others;
        lines_are = rw (more.line_is, rest.lines_are) refl;
        text = rw (more.text_is, rest.text, number, append_assoc) refl;
        whole = rest.whole;
        transcript = subst (λ all. Transcript w all (told ++ more.entry ∷ rest.entries)) all_lines
            (subst (Transcript w ((lines ++ line_in piece ∷ []) ++ lines_in rest.entries)) all_entries rest.transcript);
        bound = subst (λ all. size_of all ≤ LONGEST_SCRIPT + 1) all_lines rest.bound;
      }

  printed_by : (lines : List (List ℕ)) (piece text : List ℕ) → piece_printed w lines piece ≡ Some text → printed_after w lines (line_in piece) ≡ Some text
  printed_by lines piece text is = printed_when (nat_le (size_of lines + length piece) LONGEST_SCRIPT) _ text is

  -- each script is told by what it plays, piece by piece
  tells-from : (lines : List (List ℕ)) (told : List Entry) (pieces : List (List ℕ)) → Transcript w lines told → size_of lines ≤ LONGEST_SCRIPT + 1
      → TellsPieces lines told pieces (played_from w lines pieces)
  tells-from lines told [] t small = rw (plays_none w lines) (nothing_more lines told t small)
  tells-from lines told (piece ∷ pieces) t small =
      rw (plays_on w lines piece pieces)
      (elim (piece_printed w lines piece) as (λ found. piece_printed w lines piece ≡ found
      → TellsPieces lines told (piece ∷ pieces) (then_played (length lines + 1) found (played_from w (lines ++ line_in piece ∷ []) pieces))) [
        | None ↦ λ e. refused-here lines told t small piece pieces
        | Some text ↦ λ e.
            let within = fits w lines piece text e in
            let more = one-told w lines told (line_in piece) text t (printed_by lines piece text e) in
            let size = size-more lines (line_in piece) in
            let next : size_of (lines ++ line_in piece ∷ []) ≤ LONGEST_SCRIPT + 1 = omega (arith, within, size, short_line piece) in
            onward lines told piece text pieces _ more (tells-from (lines ++ line_in piece ∷ []) (told ++ more.entry ∷ []) pieces more.transcript next)
      ] refl)

  told-with : (script : List ℕ) → TellsScript script (played_with w script)
  told-with script =
      let t = tells-from [] [] (pieces_of (take (LONGEST_SCRIPT + 1) script)) (no_transcript w) (omega arith) in
      let number : length {A = List ℕ} [] + length t.entries + 1 ≡ length t.entries + 1 = omega arith in
      record {
        entries = t.entries;
        others = t.others;
        lines_are = t.lines_are;
        text = rw number at t.text;
        whole = t.whole;
        in_step = λ emitted.
            let few : size_of (lines_in t.entries) < 2 ^ 30 = omega (arith, t.bound) in
            in-step w (lines_in t.entries) t.entries few emitted t.transcript.told;
      }

-- whatever the control
pub told-played : (control : ControlName) (script : List ℕ) → TellsScript script (played control script)
unfolding played
told-played Native script = told-with native script
told-played Fixed script = told-with (fixed FIXED_PERIOD) script
told-played Aimd script = told-with additive script

done_whole : (p : Played) → DONE ≡ (replayed p).status → p.refused ≡ false
done_whole p is = elim p.refused as (λ r. DONE ≡ (if r then REFUSED else DONE) → r ≡ false) [
  | true ↦ λ e. absurd (cc)
  | false ↦ λ e. refl
] is

refused_there : (p : Played) → REFUSED ≡ (replayed p).status → p.refused ≡ true
refused_there p is = elim p.refused as (λ r. REFUSED ≡ (if r then REFUSED else DONE) → r ≡ true) [
  | true ↦ λ e. refl
  | false ↦ λ e. absurd (cc)
] is

module _ (control : ControlName) where
  wrote_told : (script taken : List ℕ) (after : Option (List ℕ)) (refused : Bool) → (played control script).refused ≡ refused
      → after ≡ Some (taken ++ (played control script).text) → WroteTold script refused taken after
  wrote_told script taken after refused is wrote = (
    (played control script).text,
    wrote,
    subst (λ (r : Bool). TellsScript script (record { text = (played control script).text; refused = r })) is (told-played control script),
  )

  -- so a run with its outcome's status and text is in step
  plays-in-step : (before taken_before taken_after : Option (List ℕ)) (status : ℕ) → HasStatus (replays control) before status
      → HasText (replays control) before taken_before taken_after status → PlaysInStep before taken_before taken_after status
  plays-in-step None taken_before taken_after status has wrote = record { done = λ _. tt; refused = λ _. tt }
  plays-in-step (Some script) None taken_after status has wrote = record { done = λ _. tt; refused = λ _. tt }
  plays-in-step (Some script) (Some taken) taken_after status has wrote = record {
    done = λ is.
        let late : is_early status ≡ false = rw is refl in
        wrote_told script taken taken_after false (done_whole (played control script) (sym is ∙ has late)) (wrote late);
    refused = λ is.
        let late : is_early status ≡ false = rw is refl in
        wrote_told script taken taken_after true (refused_there (played control script) (sym is ∙ has late)) (wrote late);
  }

order_in_step : (found : Option Order) (old new : Streams) (status : ℕ) → Runs (done_of found) old new status → is_replaying found ≡ true
    → PlaysInStep old.left old.taken new.taken status
order_in_step (Some (order.Replay control)) old new status runs is = plays-in-step control old.left old.taken new.taken status runs.outcome runs.text
order_in_step (Some (order.World n turns control)) old new status runs is = absurd (cc)
order_in_step (Some (order.Pair size count n)) old new status runs is = absurd (cc)
order_in_step (Some (order.Recv port name count)) old new status runs is = absurd (cc)
order_in_step (Some (order.Recv6 port name count)) old new status runs is = absurd (cc)
order_in_step (Some (order.Send name to)) old new status runs is = absurd (cc)
order_in_step (Some (order.Record turns n)) old new status runs is = absurd (cc)
order_in_step (Some order.Check) old new status runs is = absurd (cc)
order_in_step None old new status runs is = absurd (cc)

pub runs_in_step : (words : List (List ℕ)) (old new : Streams) (status : ℕ) → Runs (outcome_of words) old new status → is_replay words ≡ true
    → PlaysInStep old.left old.taken new.taken status
runs_in_step words old new status runs is = order_in_step (order_of words) old new status runs is
