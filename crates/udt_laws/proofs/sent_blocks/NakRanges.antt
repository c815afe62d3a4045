-- The ranges of a NAK are ranges of packets that are missing.
use Rattle.std.proofs.Common.{◌≡◌, ℕ, ◌+◌, ◌-◌, ◌^◌, ◌<◌, ◌≤◌, true, false, List, [], ◌∷◌, Some, None, refl, sym, ap, subst, inl, inr, arith}
use Rattle.std.specs.Prelude.{Option, map, nat_lt, nat_le, ◌==◌, if◌then◌else◌}
use Rattle.std.specs.List.{filter}
use Rattle.std.proofs.lemmas.Bool.{eqb-true, eq-eqb, or_left, or_right, ltb-true}
use Rattle.std.proofs.lemmas.List.Elements.{Contains-append_cases, Contains-push_cases}
use Rattle.std.specs.List.{AllByRecursion, Contains, concat}
use Rattle.udt_model.specs.declared.answers.Placed.{Placed}
use Rattle.udt_model.specs.declared.answers.Placed.TheVariants as placing
use Rattle.udt_model.specs.Losses.{LostRange, Missing, is_missing, is_due, before_ranges, ranges_of, due_ranges, words_of_range, fitting_ranges, report}
use Rattle.udt_model.specs.Numbers.{sequence_number}
use Rattle.udt_model.specs.ReceiveHalf.{Receiving, gap_before, offset_of, placing_at, arrived_as, block_answer, drop_range}
use Rattle.udt_model.specs.ReceiveReports.{nak_report, nak_words}
use Rattle.udt_model.specs.State.{State}
use Rattle.udt_model.specs.Ticks.{numbers_of, ends_of}
use Rattle.udt_model.specs.Timing.{RoundTrip}
use Rattle.udt_model.specs.Wire.{IsRange}
use Rattle.udt_model.proofs.DropLemmas.{drop_range-is}
use Rattle.udt_model.proofs.ReceivingLemmas.{placing-new}
use Rattle.udt_laws.proofs.sent_blocks.ReportsFit.{ReportsFit}

-- ---- both ends of each range

-- both ends of each of these ranges meet this, and the first isn't above the last
abbrev pub EndsMeet : (ℕ → Type 0) → List LostRange → Type 0
EndsMeet P [] = Unit {0}
EndsMeet P (range ∷ ranges) = (P range.first) × (P range.last) × (range.first ≤ range.last) × EndsMeet P ranges

abbrev AllMeet : (ℕ → Type 0) → List ℕ → Type 0
AllMeet P [] = Unit {0}
AllMeet P (n ∷ ns) = P n × AllMeet P ns

before-ends : (P : ℕ → Type 0) (offset : ℕ) (ranges : List LostRange) → P offset → EndsMeet P ranges → EndsMeet P (before_ranges offset ranges)
before-ends P offset [] here ends = (here, here, omega arith, tt)
before-ends P offset (range ∷ ranges) here ends =
    elim (range.first == offset + 1) as (λ follows. (range.first == offset + 1) ≡ follows → EndsMeet P (
    if follows
    then record { first = offset; last = range.last } ∷ ranges
    else record { first = offset; last = offset } ∷ range ∷ ranges)) [
      | true ↦ λ test.
          let same = eqb-true range.first (offset + 1) test in
          (here, ends.1, omega (arith, same, ends.2), ends.3)
      | false ↦ λ test. (here, here, omega arith, ends)
    ] refl

ranges-ends : (P : ℕ → Type 0) (ns : List ℕ) → AllMeet P ns → EndsMeet P (ranges_of ns)
unfolding ranges_of
ranges-ends P [] all = tt
ranges-ends P (n ∷ ns) all = before-ends P n (ranges_of ns) all.0 (ranges-ends P ns all.1)

fitting-ends : (P : ℕ → Type 0) (words : ℕ) (ranges : List LostRange) → EndsMeet P ranges → EndsMeet P (fitting_ranges words ranges)
unfolding fitting_ranges
fitting-ends P words [] ends = tt
fitting-ends P words (range ∷ ranges) ends =
    elim (nat_le (words_of_range range) words) as (λ fits. EndsMeet P (
    if fits then range ∷ fitting_ranges (words - words_of_range range) ranges else [])) [
      | true ↦ (ends.0, ends.1, ends.2, fitting-ends P (words - words_of_range range) ranges ends.3)
      | false ↦ tt
    ]

due-meet : (P : ℕ → Type 0) (now rtt : ℕ) (missing : List Missing) → ((n : ℕ) → is_missing n missing ≡ true → P n)
    → AllMeet P (map (λ (lost : Missing). lost.offset) (filter (is_due now rtt) missing))
due-meet P now rtt [] all = tt
due-meet P now rtt (lost ∷ others) all =
    let rest = due-meet P now rtt others (λ n there. all n (or_right (lost.offset == n) _ there)) in
    elim (is_due now rtt lost) as (λ due. AllMeet P (map (λ (lost : Missing). lost.offset) (
    if due then lost ∷ filter (is_due now rtt) others else filter (is_due now rtt) others))) [
      | true ↦ (all lost.offset (or_left (lost.offset == lost.offset) _ (eq-eqb lost.offset lost.offset refl)), rest)
      | false ↦ rest
    ]

report-ends : (P : ℕ → Type 0) (now rtt words : ℕ) (missing : List Missing) → ((n : ℕ) → is_missing n missing ≡ true → P n)
    → EndsMeet P (report now rtt words missing)
unfolding report
report-ends P now rtt words missing all = fitting-ends P words (due_ranges now rtt missing) (ranges-ends P _ (due-meet P now rtt missing all))

-- an offset lies from the base up to the top
abbrev pub IsBetween : Receiving → ℕ → Type 0
IsBetween r n = (r.blocks.base ≤ n) × (n < r.top)

-- what the NAK timer reports
pub nak-ends : (r : Receiving) (now : ℕ) (known : RoundTrip) → ReportsFit r → EndsMeet (IsBetween r) (nak_report r now known)
unfolding nak_report
nak-ends r now known fits =
    elim (nat_lt now r.nak_due) as (λ early. EndsMeet (IsBetween r) (
    if early then [] else report now known.rtt (nak_words r) r.missing)) [
      | true ↦ tt
      | false ↦ report-ends (IsBetween r) now known.rtt (nak_words r) r.missing (λ n there. (fits.order.from n there, fits.order.below n there))
    ]

-- ---- a gap

-- the ends of a gap: it begins at the top, and there is room for each of its packets
pub record IsGap (r : Receiving) (ends : ℕ × ℕ) : Type 0 where
  pub from : ends.0 ≡ r.top
  pub order : ends.0 ≤ ends.1
  pub room : ends.1 + 1 < r.blocks.base + r.blocks.capacity

gap-is : (r : Receiving) (offset : ℕ) (ends : ℕ × ℕ) → offset < r.blocks.base + r.blocks.capacity → gap_before r.top offset ≡ Some ends → IsGap r ends
gap-is r offset ends room is =
    elim (nat_lt r.top offset) as (λ above. nat_lt r.top offset ≡ above → (if above then Some (r.top, offset - 1) else None) ≡ Some ends → IsGap r ends) [
      | true ↦ λ test found.
          let less = ltb-true r.top offset test in
          let from : r.top ≡ ends.0 = cc in
          let to : offset - 1 ≡ ends.1 = cc in
          record { from = sym from; order = omega (arith, less, from, to); room = omega (arith, less, to, room) }
      | false ↦ λ test none. absurd (cc)
    ] refl is

-- it ends before the block that shows it
gap-ends : (top offset : ℕ) (ends : ℕ × ℕ) → gap_before top offset ≡ Some ends → offset ≡ ends.1 + 1
gap-ends top offset ends is =
    elim (nat_lt top offset) as (λ above. nat_lt top offset ≡ above → (if above then Some (top, offset - 1) else None) ≡ Some ends → offset ≡ ends.1 + 1) [
      | true ↦ λ test found.
          let less = ltb-true top offset test in
          let to : offset - 1 ≡ ends.1 = cc in
          omega (arith, less, to)
      | false ↦ λ test none. absurd (cc)
    ] refl is

answered-gap : (r : Receiving) (offset : Option ℕ) (p : Placed) (ends : ℕ × ℕ) → placing_at r offset ≡ p → (arrived_as r offset p).gap ≡ Some ends
    → IsGap r ends × (offset ≡ Some (ends.1 + 1))
answered-gap r (Some offset) placing.New ends is gap =
    (gap-is r offset ends (placing-new r.blocks offset is).not_above gap, ap Some (gap-ends r.top offset ends gap))
answered-gap r (Some offset) placing.Below ends is gap = absurd (cc)
answered-gap r (Some offset) placing.Above ends is gap = absurd (cc)
answered-gap r (Some offset) placing.Double ends is gap = absurd (cc)
answered-gap r None placing.New ends is gap = absurd (cc)
answered-gap r None placing.Below ends is gap = absurd (cc)
answered-gap r None placing.Above ends is gap = absurd (cc)
answered-gap r None placing.Double ends is gap = absurd (cc)

pub block-gap : (r : Receiving) (number : ℕ) (ends : ℕ × ℕ) → (block_answer r number).gap ≡ Some ends → IsGap r ends
unfolding block_answer
block-gap r number ends gap = (answered-gap r (offset_of r number) (placing_at r (offset_of r number)) ends refl gap).0

-- the gap that a message drop request shows
pub drop-gap : (r : Receiving) (first last : ℕ) (range : LostRange) (ends : ℕ × ℕ) → drop_range r first last ≡ Some range
    → gap_before r.top range.first ≡ Some ends → IsGap r ends
drop-gap r first last range ends taken gap =
    let takes = (drop_range-is r first last range taken).takes in
    gap-is r range.first ends (omega (arith, takes.some, takes.room)) gap

-- the block that shows a gap has the offset after it
pub gap-found : (r : Receiving) (number : ℕ) (ends : ℕ × ℕ) → (block_answer r number).gap ≡ Some ends → offset_of r number ≡ Some (ends.1 + 1)
unfolding block_answer
gap-found r number ends gap = (answered-gap r (offset_of r number) (placing_at r (offset_of r number)) ends refl gap).1

-- what a NAK of these ranges names meets what their ends meet
pub named-ends : (P : ℕ → Type 0) (ranges : List LostRange) (offset : ℕ) → EndsMeet P ranges → Contains (concat (map ends_of ranges)) offset → P offset
named-ends P [] offset ends named = absurd (omega (arith, named.1))
named-ends P (range ∷ ranges) offset ends named =
    elim (Contains-append_cases (ends_of range) (concat (map ends_of ranges)) offset named) [
      | inl here ↦ elim (Contains-push_cases (range.first ∷ []) range.last offset here) [
        | inl first ↦ elim (Contains-push_cases [] range.first offset first) [
          | inl none ↦ absurd (omega (arith, none.1))
          | inr same ↦ subst P same ends.0
        ]
        | inr same ↦ subst P same ends.1
      ]
      | inr there ↦ named-ends P ranges offset ends.3 there
    ]

-- ---- their numbers

-- a range of offsets that are close has numbers that a NAK can carry
close-range : (isn first last : ℕ) → first ≤ last → last < first + 2 ^ 30
    → IsRange (record { first = sequence_number isn first; last = sequence_number isn last })
close-range isn first last order close = record { first = omega arith; last = omega arith; near = omega arith }

module _ {C : Type 0} where
  pub numbers-are : (s : State C) (t : State C) (ranges : List LostRange) → ReportsFit s.receiving → EndsMeet (IsBetween s.receiving) ranges
      → AllByRecursion IsRange (map (numbers_of t) ranges)
  numbers-are s t [] fits ends = tt
  numbers-are s t (range ∷ ranges) fits ends =
      let room = fits.order.room in
      let capacity = fits.capacity in (
        close-range t.receiving.isn range.first range.last ends.2 (omega (arith, ends.0.0, ends.1.1, room, capacity)),
        numbers-are s t ranges fits ends.3,
      )

  -- a NAK of a gap
  pub gap-number : (s t : State C) (ends : ℕ × ℕ) → ReportsFit s.receiving → IsGap s.receiving ends
      → IsRange (numbers_of t (record { first = ends.0; last = ends.1 }))
  gap-number s t ends fits gap =
      close-range t.receiving.isn ends.0 ends.1 gap.order (omega (arith, gap.from, gap.room, fits.order.base, fits.capacity))
