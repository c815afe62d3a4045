-- Lists of lost packets: those that are to be retransmitted, and those that have not arrived, each with its last report.
use Rattle.std.specs.Prelude.{ℕ, ◌+◌, ◌-◌, ◌*◌, ◌^◌, ◌==◌, ◌&&◌, ◌||◌, min, Bool, List, [], ◌∷◌, ◌++◌, map, nat_lt, nat_le, if◌then◌else◌}
use Rattle.std.specs.List.{filter, list_any, range_with_len}

-- ---- ranges

-- the offsets from the one to the other, both included
abbrev pub offsets_between : ℕ → ℕ → List ℕ
offsets_between from to = range_with_len from (to + 1 - from)

-- consecutive offsets, by their ends
pub record LostRange : Type 0 where
  pub first : ℕ
  pub last : ℕ

-- an offset before these ranges, of which the first may go on from it
abbrev pub before_ranges : ℕ → List LostRange → List LostRange
before_ranges offset [] = record { first = offset; last = offset } ∷ []
before_ranges offset (range ∷ ranges) =
    if range.first == offset + 1
    then record { first = offset; last = range.last } ∷ ranges
    else record { first = offset; last = offset } ∷ range ∷ ranges

-- a rising list as the longest ranges of consecutive offsets
unfoldable pub ranges_of : List ℕ → List LostRange
ranges_of [] = []
ranges_of (offset ∷ offsets) = before_ranges offset (ranges_of offsets)

-- ---- the sender's list: rising offsets

-- the list with all offsets of a range, each once
unfoldable pub with_range : ℕ → ℕ → List ℕ → List ℕ
with_range from to lost = filter (λ n. nat_lt n from) lost ++ offsets_between from to ++ filter (λ n. nat_lt to n) lost

-- the list without the offsets below this one
unfoldable pub from_offset : ℕ → List ℕ → List ℕ
from_offset offset lost = filter (λ n. nat_le offset n) lost

-- the list without the offsets of a range
unfoldable pub without_range : ℕ → ℕ → List ℕ → List ℕ
without_range from to lost = filter (λ n. nat_lt n from || nat_lt to n) lost

-- ---- the receiver's list: rising offsets with their last reports

-- a packet that has not arrived: its offset, the moment of its last report in microseconds, and how many round trips
-- pass from that report to the next
pub record Missing : Type 0 where
  pub offset : ℕ
  pub reported : ℕ
  pub wait : ℕ

-- the list with the offsets of a range after it, reported now. They are reported again after two round trips
unfoldable pub with_missing : ℕ → ℕ → ℕ → List Missing → List Missing
with_missing from to now missing =
    missing ++ map (λ n. record { offset = n; reported = now; wait = 2 }) (offsets_between from to)

-- the list without the offsets of a range
unfoldable pub without_missing : ℕ → ℕ → List Missing → List Missing
without_missing from to missing = filter (λ lost. nat_lt lost.offset from || nat_lt to lost.offset) missing

-- this offset is missing
abbrev pub is_missing : ℕ → List Missing → Bool
is_missing offset missing = list_any (λ lost. lost.offset == offset) missing

-- a packet is to be reported again at this moment, with round trips of this many microseconds
abbrev pub is_due : ℕ → ℕ → Missing → Bool
is_due now rtt lost = nat_le (lost.wait * rtt) (now - lost.reported)

-- the longest ranges of consecutive offsets that are due
abbrev pub due_ranges : ℕ → ℕ → List Missing → List LostRange
due_ranges now rtt missing = ranges_of (map (λ (lost : Missing). lost.offset) (filter (is_due now rtt) missing))

-- how many words a range takes in a loss report
abbrev pub words_of_range : LostRange → ℕ
words_of_range range = if range.first == range.last then 1 else 2

-- the first ranges that fit into this many words
unfoldable pub fitting_ranges : ℕ → List LostRange → List LostRange
fitting_ranges words [] = []
fitting_ranges words (range ∷ ranges) =
    if nat_le (words_of_range range) words then range ∷ fitting_ranges (words - words_of_range range) ranges else []

-- what is reported at this moment in this many words
unfoldable pub report : ℕ → ℕ → ℕ → List Missing → List LostRange
report now rtt words missing = fitting_ranges words (due_ranges now rtt missing)

-- the offset lies in one of the ranges
abbrev pub is_within : List LostRange → ℕ → Bool
is_within ranges offset = list_any (λ range. nat_le range.first offset && nat_le offset range.last) ranges

-- a packet once it was reported. The wait grows up to 2^32 - 1
abbrev pub reported_at : ℕ → Missing → Missing
reported_at now lost = record lost { reported = now; wait = min (lost.wait + 1) (2 ^ 32 - 1) }

-- the list once these ranges were reported
unfoldable pub after_report : ℕ → List LostRange → List Missing → List Missing
after_report now ranges missing = map (λ lost. if is_within ranges lost.offset then reported_at now lost else lost) missing

-- ---- consecutive offsets with one report

-- the packets of a range that were last reported together
pub record MissingRange : Type 0 where
  pub first : ℕ
  pub last : ℕ
  pub reported : ℕ
  pub wait : ℕ

-- the ranges with a packet before them, which the first may go on from
abbrev pub before_missing : Missing → List MissingRange → List MissingRange
before_missing lost [] = record { first = lost.offset; last = lost.offset; reported = lost.reported; wait = lost.wait } ∷ []
before_missing lost (range ∷ ranges) =
    if range.first == lost.offset + 1 && range.reported == lost.reported && range.wait == lost.wait
    then record range { first = lost.offset } ∷ ranges
    else record { first = lost.offset; last = lost.offset; reported = lost.reported; wait = lost.wait } ∷ range ∷ ranges

-- a rising list as the longest ranges of consecutive offsets with one report
unfoldable pub missing_ranges : List Missing → List MissingRange
missing_ranges [] = []
missing_ranges (lost ∷ others) = before_missing lost (missing_ranges others)
