-- The ranges of a NAK, one by one.
use Rattle.std.proofs.Common.{◌≡◌, ℕ, true, List, [], ◌∷◌, ◌++◌, min, Option, Some, None, refl, sym}
use Rattle.std.specs.Prelude.{option_map}
use Rattle.udt_model.specs.Losses.{LostRange, with_range}
use Rattle.udt_model.specs.Rate.{Ways}
use Rattle.udt_model.specs.SendHalf.{Sending}
use Rattle.udt_model.specs.SendReports.{entering, with_ranges, least_first, after_entering, feedback}
use Rattle.udt_model.specs.Timing.{RoundTrip}
use Rattle.udt_model.specs.Wire.{WireRange}
use Rattle.udt_sender.specs.Reports.{any_enters, entering_of, lesser, least_of}

-- ranges enter a list one after the other
with_ranges-append : (xs ys : List LostRange) (lost : List ℕ) → with_ranges (xs ++ ys) lost ≡ with_ranges ys (with_ranges xs lost)
unfolding with_ranges
with_ranges-append [] ys lost = refl
with_ranges-append (x ∷ xs) ys lost = with_ranges-append xs ys (with_range x.first x.last lost)

least_of-append : (least : Option ℕ) (xs ys : List LostRange) → least_of least (xs ++ ys) ≡ least_of (least_of least xs) ys
least_of-append least [] ys = refl
least_of-append least (x ∷ xs) ys = least_of-append (Some (lesser least x.first)) xs ys

-- the first range of a NAK has entered, and the others are to enter
pub enters_lost : {C : Type 0} (s : Sending C) (range : WireRange) (ranges all : List WireRange) (lost : List ℕ) → all ≡ range ∷ ranges
    → with_ranges (entering s ranges) (with_ranges (entering_of s range) lost) ≡ with_ranges (entering s all) lost
unfolding entering
enters_lost s range ranges all lost is = rw is (sym (with_ranges-append (entering_of s range) (entering s ranges) lost))

pub enters_least : {C : Type 0} (s : Sending C) (range : WireRange) (ranges all : List WireRange) (least : Option ℕ) → all ≡ range ∷ ranges
    → least_of (least_of least (entering_of s range)) (entering s ranges) ≡ least_of least (entering s all)
unfolding entering
enters_least s range ranges all least is = rw is (sym (least_of-append least (entering_of s range) (entering s ranges)))

-- where none is left, all have entered
pub all_entered : {C : Type 0} (s : Sending C) (ranges : List WireRange) (lost : List ℕ) → ranges ≡ [] → with_ranges (entering s ranges) lost ≡ lost
unfolding entering with_ranges
all_entered s ranges lost none = rw none refl

pub all_compared : {C : Type 0} (s : Sending C) (ranges : List WireRange) (least : Option ℕ) → ranges ≡ [] → least_of least (entering s ranges) ≡ least
unfolding entering
all_compared s ranges least none = rw none refl

-- ---- the least offset

least_of-first : (first : ℕ) (ranges : List LostRange) → least_of (Some first) ranges ≡ Some (least_first first ranges)
least_of-first first [] = refl
least_of-first first (range ∷ ranges) = least_of-first (min first range.first) ranges

-- no range enters where there is no least offset
pub none_enters : (ranges : List LostRange) → None ≡ least_of None ranges → ranges ≡ []
none_enters [] is = refl
none_enters (range ∷ ranges) is = let some = least_of-first range.first ranges in cc

pub some_enters : (ranges : List LostRange) (first : ℕ) → Some first ≡ least_of None ranges → any_enters ranges ≡ true
some_enters [] first is = cc
some_enters (range ∷ ranges) first is = refl

module _ {C : Type 0} (w : Ways C) where
  -- the half whose control was told of a NAK
  abbrev pub told : Sending C → RoundTrip → ℕ → Sending C
  told s known first = record s { control = option_map (λ c. w.after_nak c first s.next (feedback s 0 known)) s.control }

  -- it is told of the least offset
  pub tells_least : (s : Sending C) (known : RoundTrip) (ranges : List LostRange) (first : ℕ) → Some first ≡ least_of None ranges
      → after_entering w s known ranges ≡ told (record s { lost = with_ranges ranges s.lost }) known first
  tells_least s known [] first is = cc
  tells_least s known (range ∷ ranges) first is =
      let same : least_first range.first ranges ≡ first = let some = least_of-first range.first ranges in cc in
      rw same refl
