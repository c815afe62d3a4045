-- What is due in a list of ranges.
use Rattle.std.specs.Prelude.{◌≡◌, ℕ, ◌+◌, ◌<◌, ◌≤◌, Option, Some, List, [], ◌∷◌, ◌++◌}
use Rattle.udt_model.specs.Losses.{LostRange, due_ranges}
use Rattle.udt_ranges.specs.declared.range.Range.{Range}
use Rattle.udt_ranges.specs.Ranges.{IsFrom, EndsBelow}
use Rattle.udt_ranges.specs.Cursors.{before, following, beyond, IsCursor}
use Rattle.udt_rcv_loss.specs.declared.due.Run.{Run}
use Rattle.udt_rcv_loss.specs.declared.last_report.LastReport.{LastReport}
use Rattle.udt_rcv_loss.specs.Tags.{missing_in}

-- the longest runs of consecutive offsets that are due in ranges
abbrev pub runs_of : ℕ → ℕ → List (Range LastReport) → List LostRange
runs_of now rtt ranges = due_ranges now rtt (missing_in ranges)

-- all of these end by an offset
unfoldable pub AllBy : ℕ → List LostRange → Type 0
AllBy last [] = Unit {0}
AllBy last (r ∷ rs) = (r.last < last + 1) × AllBy last rs

-- a place with the ranges before it that end by an offset, and those after it
pub record IsCutAt (cursor last : ℕ) (ranges : List (Range LastReport)) : Type 0 where
  pub cursor_is : IsCursor (Some cursor) ranges
  pub ends : EndsBelow (last + 1) (before (Some cursor) ranges)
  pub from : IsFrom (last + 1) (following (Some cursor) ranges)

-- the first ranges of all that is due were taken, up to an offset, and the others lie after the ranges up to it
pub record IsTaken (now rtt last : ℕ) (taken : List LostRange) (ranges : List (Range LastReport)) : Type 0 where
  pub front : List (Range LastReport)
  pub back : List (Range LastReport)
  pub is : ranges ≡ front ++ back
  pub ends : EndsBelow (last + 1) front
  pub from : IsFrom (last + 1) back
  pub by : AllBy last taken
  pub due : runs_of now rtt ranges ≡ taken ++ runs_of now rtt back

-- a run, by its ends
abbrev pub ends_of_run : Run → LostRange
ends_of_run run = record { first = run.first; last = run.last }

-- a run is the first of all that is due after a place
pub record IsNextRun (now rtt : ℕ) (from : Option ℕ) (ranges : List (Range LastReport)) (run : Run) : Type 0 where
  pub cut : IsCutAt run.cursor run.last ranges
  pub order : run.first ≤ run.last
  pub later : (k : ℕ) → IsFrom k (following from ranges) → k ≤ run.first
  pub due : runs_of now rtt (following from ranges) ≡ ends_of_run run ∷ runs_of now rtt (beyond run.cursor ranges)
