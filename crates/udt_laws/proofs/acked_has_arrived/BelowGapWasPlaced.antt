-- What a receiving half knows: each offset below its top that isn't missing was placed or dropped, so all below the least missing
-- one were.
use Rattle.std.proofs.Common.{◌≡◌, ℕ, zero, suc, ◌+◌, ◌-◌, ◌<◌, ◌≤◌, max, true, false, List, [], ◌∷◌, Some, None, refl, sym, ◌∙◌, ◌⊎◌, inl, inr, arith}
use Rattle.std.specs.Prelude.{◌==◌, nat_lt, nat_le, if◌then◌else◌, Option, length}
use Rattle.std.specs.List.{range_with_len}
use Rattle.std.proofs.lemmas.Bool.{cases_eq, cases_lt, false_from_ne_true, true≢false, lt-ltb, ltb-true, ltb-false, or_left, or_right, eq-eqb}
use Rattle.std.proofs.lemmas.Bool.Decides.{nat_tests}
use Rattle.udt_model.specs.declared.answers.Placed.{Placed}
use Rattle.udt_model.specs.declared.answers.Placed.TheVariants as placing
use Rattle.udt_model.specs.declared.packets.Flags.{Flags}
use Rattle.udt_model.specs.declared.sockets.SentAck.{SentAck}
use Rattle.udt_model.specs.History.{offsets_of_range}
use Rattle.udt_model.specs.Losses.{LostRange, offsets_between, is_missing, with_missing, without_missing, report, after_report}
use Rattle.udt_model.specs.ReceiveBlocks.{ReceiveBlocks, PlacedBlock, WholeMessage, placing_of, arrived_at, after_placing_of, after_place, with_consumed, given_after, next_message, after_message, after_found, after_read_message}
use Rattle.udt_model.specs.ReceiveHalf.{Receiving, measured, offset_of, placing_at, missing_after, with_new, after_placing, after_block, missing_with, with_taken, after_receive, after_receive_message}
use Rattle.udt_model.specs.ReceiveReports.{ack_offset, nak_words, AckOutcome, IsEarly, IsKnown, EmitsAck, ack_outcome, after_ack_outcome, after_ack_timer, after_nak_timer, confirmed_by, after_ack2}
use Rattle.udt_model.specs.Timing.{RoundTrip, period_of, last_under}
use Rattle.udt_model.proofs.MissingOffsets.{added_keeps, added_has, arrived_keeps, taken_keeps, reported_same, below_least, least_is}
use Rattle.udt_model.proofs.TakenOffsets.{begins_later}
use Rattle.udt_laws.proofs.acked_has_arrived.CountsWithoutGap.{IsAmong, AllBetween}
use Rattle.udt_laws.proofs.sent_blocks.ReportsFit.{ReportsFit}

-- the offset at which a block is placed
abbrev pub placed_by_placing : Option ℕ → Placed → List ℕ
placed_by_placing (Some offset) placing.New = offset ∷ []
placed_by_placing offset other = []

-- each offset from the start on and below the top that isn't missing meets this
pub record Covers (P : ℕ → Type 0) (start : ℕ) (r : Receiving) : Type 0 where
  pub begun : start ≤ r.blocks.base
  pub there : (n : ℕ) → start ≤ n → n < r.top → is_missing n r.missing ≡ false → P n

-- each offset from the start on and below an ACK offset meets this
pub record CoversUpTo (P : ℕ → Type 0) (start end : ℕ) : Type 0 where
  pub begun : start ≤ end
  pub below : AllBetween P start end

among-itself : (offset : ℕ) → IsAmong offset (offset ∷ [])
among-itself offset = grind (arith, nat_tests)

-- a block that is placed leaves the base
put-base : (b : ReceiveBlocks) (block : PlacedBlock) (p : Placed) → (after_placing_of b block p).base ≡ b.base
put-base b block placing.New = refl
put-base b block placing.Below = refl
put-base b block placing.Above = refl
put-base b block placing.Double = refl

place-base : (b : ReceiveBlocks) (offset : ℕ) (flags : Flags) (bytes : List ℕ) → (after_place b offset flags bytes).base ≡ b.base
unfolding after_place
place-base b offset flags bytes = put-base b (arrived_at offset flags bytes) (placing_of b offset)

placing-base : (r : Receiving) (now : ℕ) (flags : Flags) (bytes : List ℕ) (offset : Option ℕ) (p : Placed)
    → (after_placing r now flags bytes offset p).blocks.base ≡ r.blocks.base
placing-base r now flags bytes (Some offset) placing.New = place-base r.blocks offset flags bytes
placing-base r now flags bytes (Some offset) placing.Below = refl
placing-base r now flags bytes (Some offset) placing.Above = refl
placing-base r now flags bytes (Some offset) placing.Double = refl
placing-base r now flags bytes None placing.New = refl
placing-base r now flags bytes None placing.Below = refl
placing-base r now flags bytes None placing.Above = refl
placing-base r now flags bytes None placing.Double = refl

-- the ACK offset isn't above the top, and not below the base
pub ack-within : (r : Receiving) → ReportsFit r → (r.blocks.base ≤ ack_offset r) × (ack_offset r ≤ r.top)
ack-within r fits = elim (least_is r.top r.missing) [
  | inl top ↦ (omega (arith, top, fits.order.base), omega (arith, top))
  | inr lost ↦ (fits.order.from (ack_offset r) lost, omega (arith, fits.order.below (ack_offset r) lost))
]

-- an offset between two others is among those
among-range : (n from count : ℕ) → from ≤ n → n < from + count → IsAmong n (range_with_len from count)
among-range n from zero low high = absurd (omega (arith, low, high))
among-range n from (suc count) low high = elim (cases_eq from n) [
  | inl same ↦ or_left (from == n) _ (eq-eqb from n same)
  | inr apart ↦
      let above : from + 1 ≤ n = elim (cases_lt from n) [ inl less ↦ omega (arith, less) | inr more ↦ absurd (apart (omega (arith, more, low))) ] in
      or_right (from == n) _ (among-range n (from + 1) count above (omega (arith, high)))
]

among-between : (from to n : ℕ) → from ≤ n → n ≤ to → IsAmong n (offsets_between from to)
among-between from to n low high = among-range n from (to + 1 - from) low (omega (arith, low, high))

-- an offset isn't missing where it isn't once more are
not_added : (r : Receiving) (now : ℕ) (range : LostRange) (n : ℕ) → n < max r.top (range.last + 1) → r.top < range.first
    → is_missing n (with_missing r.top (range.first - 1) now r.missing) ≡ false
    → ((n < r.top) × (is_missing n r.missing ≡ false)) ⊎ ((range.first ≤ n) × (n ≤ range.last))
not_added r now range n less above none = elim (cases_lt n r.top) [
  | inl below ↦ inl (below, false_from_ne_true _ (λ there. true≢false (sym (added_keeps r.top (range.first - 1) now n r.missing there) ∙ none)))
  | inr past ↦ elim (cases_lt n range.first) [
    | inl before ↦ absurd (true≢false (sym (added_has r.top (range.first - 1) now n r.missing past (omega (arith, before, above))) ∙ none))
    | inr within ↦ inr (within, omega (arith, less, past))
  ]
]

-- or, once those of the range no longer are, where it isn't one of these
not_removed : (r : Receiving) (range : LostRange) (n : ℕ) → n < max r.top (range.last + 1) → range.first ≤ r.top
    → is_missing n (without_missing range.first range.last r.missing) ≡ false
    → ((n < r.top) × (is_missing n r.missing ≡ false)) ⊎ ((range.first ≤ n) × (n ≤ range.last))
not_removed r range n less most none = elim (cases_lt n range.first) [
  | inl before ↦ inl (
    omega (arith, before, most),
    false_from_ne_true _ (λ there.
        true≢false (sym (taken_keeps range.first range.last n r.missing there (or_left (nat_lt n range.first) _ (lt-ltb n range.first before))) ∙ none)),
  )
  | inr from ↦ elim (cases_lt range.last n) [
    | inl after ↦ inl (
      omega (arith, less, after),
      false_from_ne_true _ (λ there.
          true≢false (sym (taken_keeps range.first range.last n r.missing there (or_right (nat_lt n range.first) _ (lt-ltb range.last n after))) ∙ none)),
    )
    | inr to ↦ inr (from, to)
  ]
]

module _ (P : ℕ → Type 0) (start : ℕ) where
  -- all that an ACK tells of
  pub ack_emitted-covered : (r : Receiving) → ReportsFit r → Covers P start r → CoversUpTo P start (ack_offset r)
  ack_emitted-covered r fits covers =
      let within = ack-within r fits in
      record {
        begun = omega (arith, covers.begun, within.0);
        below = λ n low high. covers.there n low (omega (arith, high, within.1)) (below_least 0 r.top n r.missing fits.rising high);
      }

  -- ---- what the events of a half keep

  -- an offset that isn't missing once a block was placed wasn't missing before, or is that of the block
  not_missing : (r : Receiving) (now offset n : ℕ) → n < max r.top (offset + 1) → is_missing n (missing_after r now offset) ≡ false
      → (n ≡ offset → ⊥) → (n < r.top) × (is_missing n r.missing ≡ false)
  not_missing r now offset n less none other =
      elim (nat_lt r.top offset) as (λ above. nat_lt r.top offset ≡ above → is_missing n (
      if above
      then with_missing r.top (offset - 1) now r.missing
      else (if nat_lt offset r.top then without_missing offset offset r.missing else r.missing)) ≡ false
      → (n < r.top) × (is_missing n r.missing ≡ false)) [
        | true ↦ λ test none.
            let above = ltb-true r.top offset test in
            let old = false_from_ne_true _ (λ there. true≢false (sym (added_keeps r.top (offset - 1) now n r.missing there) ∙ none)) in
            elim (cases_lt n r.top) [
              | inl below ↦ (below, old)
              | inr past ↦ absurd (true≢false (sym (added_has r.top (offset - 1) now n r.missing past (omega (arith, less, other, above))) ∙ none))
            ]
        | false ↦ λ test none.
            let least = ltb-false r.top offset test in
            elim (nat_lt offset r.top) as (λ below. nat_lt offset r.top ≡ below → is_missing n (
            if below then without_missing offset offset r.missing else r.missing) ≡ false → (n < r.top) × (is_missing n r.missing ≡ false)) [
              | true ↦ λ within none. (
                omega (arith, less, ltb-true offset r.top within),
                false_from_ne_true _ (λ there. true≢false (sym (arrived_keeps offset n r.missing there other) ∙ none)),
              )
              | false ↦ λ at none. (omega (arith, less, other, ltb-false offset r.top at, least), none)
            ] refl none
      ] refl none

  new-covers : (r : Receiving) (now : ℕ) (flags : Flags) (bytes : List ℕ) (offset : ℕ) → P offset → (with_new r now flags bytes offset).blocks.base ≡ r.blocks.base
      → Covers P start r → Covers P start (with_new r now flags bytes offset)
  new-covers r now flags bytes offset here same covers = record {
    begun = omega (arith, covers.begun, same);
    there = λ n low less none. elim (cases_eq n offset) [
      | inl own ↦ rw own here
      | inr other ↦
          let was = not_missing r now offset n less none other in
          covers.there n low was.0 was.1
    ];
  }

  placing-covers : (r : Receiving) (now : ℕ) (flags : Flags) (bytes : List ℕ) (offset : Option ℕ) (p : Placed)
      → (after_placing r now flags bytes offset p).blocks.base ≡ r.blocks.base
      → ((n : ℕ) → IsAmong n (placed_by_placing offset p) → P n) → Covers P start r → Covers P start (after_placing r now flags bytes offset p)
  placing-covers r now flags bytes (Some offset) placing.New same meets covers =
      new-covers r now flags bytes offset (meets offset (among-itself offset)) same covers
  placing-covers r now flags bytes (Some offset) placing.Below same meets covers = covers
  placing-covers r now flags bytes (Some offset) placing.Above same meets covers = covers
  placing-covers r now flags bytes (Some offset) placing.Double same meets covers = covers
  placing-covers r now flags bytes None placing.New same meets covers = covers
  placing-covers r now flags bytes None placing.Below same meets covers = covers
  placing-covers r now flags bytes None placing.Above same meets covers = covers
  placing-covers r now flags bytes None placing.Double same meets covers = covers

  found-covers : (r : Receiving) (now number : ℕ) (flags : Flags) (bytes : List ℕ)
      → ((n : ℕ) → IsAmong n (placed_by_placing (offset_of r number) (placing_at r (offset_of r number))) → P n) → Covers P start r
      → Covers P start (after_placing (measured r now number) now flags bytes (offset_of r number) (placing_at r (offset_of r number)))
  found-covers r now number flags bytes meets covers =
      placing-covers (measured r now number) now flags bytes (offset_of r number) (placing_at r (offset_of r number))
      (placing-base (measured r now number) now flags bytes (offset_of r number) (placing_at r (offset_of r number))) meets
      (record { begun = covers.begun; there = covers.there })

  pub block-covers : (r : Receiving) (now number : ℕ) (flags : Flags) (bytes : List ℕ)
      → ((n : ℕ) → IsAmong n (placed_by_placing (offset_of r number) (placing_at r (offset_of r number))) → P n) → Covers P start r
      → Covers P start (after_block r now number flags bytes)
  unfolding after_block
  block-covers r now number flags bytes meets covers = found-covers r now number flags bytes meets covers

  ack_outcome-covers : (r : Receiving) (now : ℕ) (t : AckOutcome) → Covers P start r → Covers P start (after_ack_outcome r now t)
  ack_outcome-covers r now IsEarly covers = covers
  ack_outcome-covers r now IsKnown covers = record { begun = covers.begun; there = covers.there }
  ack_outcome-covers r now (EmitsAck ack) covers = record { begun = covers.begun; there = covers.there }

  nak-covers : (r : Receiving) (now : ℕ) (known : RoundTrip) → Covers P start r → Covers P start (after_nak_timer r now known)
  unfolding after_nak_timer
  nak-covers r now known covers =
      let ranges = report now known.rtt (nak_words r) r.missing in
      elim (nat_lt now r.nak_due) as (λ early. Covers P start (
      if early then r else record r { missing = after_report now ranges r.missing; nak_due = now + period_of known })) [
        | true ↦ covers
        | false ↦ record {
          begun = covers.begun;
          there = λ n low less none. covers.there n low less (sym (reported_same now n ranges r.missing) ∙ none);
        }
      ]

  pub reports-cover : (r : Receiving) (now : ℕ) (known : RoundTrip) → Covers P start r
      → Covers P start (after_nak_timer (after_ack_timer r now known) now known)
  unfolding after_ack_timer
  reports-cover r now known covers = nak-covers _ now known (ack_outcome-covers r now (ack_outcome r now known) covers)

  confirmed-covers : (r : Receiving) (number : ℕ) (found : Option SentAck) → Covers P start r → Covers P start (confirmed_by r number found)
  confirmed-covers r number None covers = covers
  confirmed-covers r number (Some ack) covers = record { begun = covers.begun; there = covers.there }

  pub ack2-covers : (r : Receiving) (number : ℕ) → Covers P start r → Covers P start (after_ack2 r number)
  unfolding after_ack2
  ack2-covers r number covers = confirmed-covers r number (last_under number r.history) covers

  pub receive-covers : (r : Receiving) (count : ℕ) → Covers P start r → Covers P start (after_receive r count)
  receive-covers r count covers =
      let later = begins_later r.blocks.placed r.blocks.base (r.blocks.given + count) in
      record { begun = omega (arith, covers.begun, later); there = covers.there }

  -- ---- messages

  found-begins : (b : ReceiveBlocks) (room : ℕ) (found : Option WholeMessage) → b.base ≤ (after_found b room found).base
  found-begins b room None = omega arith
  found-begins b room (Some m) =
      elim (nat_le (length m.bytes) room) as (λ fits. b.base ≤ (if fits then after_message b m else b).base) [
        | true ↦ begins_later (with_consumed m.first m.count b.placed) b.base (given_after b m.first m.count)
        | false ↦ omega arith
      ]

  pub show-covers : (r : Receiving) (room : ℕ) → Covers P start r → Covers P start (after_receive_message r room)
  show-covers r room covers =
      elim (room == 0) as (λ none. Covers P start (if none then r else record r { blocks = after_read_message r.blocks room })) [
        | true ↦ covers
        | false ↦ record { begun = omega (arith, covers.begun, found-begins r.blocks room (next_message r.blocks)); there = covers.there }
      ]

  -- an offset that isn't missing once a range was taken wasn't missing before, or is of the range
  not_missing_with : (r : Receiving) (now : ℕ) (range : LostRange) (n : ℕ) → n < max r.top (range.last + 1)
      → is_missing n (missing_with r now range) ≡ false → ((n < r.top) × (is_missing n r.missing ≡ false)) ⊎ ((range.first ≤ n) × (n ≤ range.last))
  not_missing_with r now range n less none =
      elim (nat_lt r.top range.first) as (λ above. nat_lt r.top range.first ≡ above → is_missing n (
      if above
      then with_missing r.top (range.first - 1) now r.missing
      else without_missing range.first range.last r.missing) ≡ false
      → ((n < r.top) × (is_missing n r.missing ≡ false)) ⊎ ((range.first ≤ n) × (n ≤ range.last))) [
        | true ↦ λ test none. not_added r now range n less (ltb-true r.top range.first test) none
        | false ↦ λ test none. not_removed r range n less (ltb-false r.top range.first test) none
      ] refl none

  -- what a range that is taken tells of
  pub taken-covers : (r : Receiving) (now : ℕ) (range : LostRange) → ReportsFit r
      → ((n : ℕ) → IsAmong n (offsets_of_range r (Some range)) → P n) → Covers P start r → Covers P start (with_taken r now range)
  taken-covers r now range fits meets covers =
      let from = max range.first r.blocks.base in
      let count = range.last + 1 - from in
      let later = begins_later (with_consumed from count r.blocks.placed) r.blocks.base (given_after r.blocks from count) in
      record {
        begun = omega (arith, covers.begun, later);
        there = λ n low less none. elim (not_missing_with r now range n less none) [
          | inl was ↦ covers.there n low was.0 was.1
          | inr within ↦ elim (cases_lt n r.blocks.base) [
            | inl below ↦ covers.there n low (omega (arith, below, fits.order.base))
                (false_from_ne_true _ (λ there. omega (arith, below, fits.order.from n there)))
            | inr past ↦ meets n (among-between from range.last n (omega (arith, past, within.0)) within.1)
          ]
        ];
      }
