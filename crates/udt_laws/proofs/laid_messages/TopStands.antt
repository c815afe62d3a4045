-- Where the top of a message socket's receiving half stands, over events: not past all that arrivals place or drop.
use Rattle.std.proofs.Common.{◌≡◌, ℕ, ◌<◌, ◌≤◌, List, Some, None, refl, sym, subst, arith}
use Rattle.std.specs.Prelude.{Option, ◌==◌}
use Rattle.std.specs.List.{Contains}
use Rattle.std.proofs.lemmas.Bool.{cases_Bool}
use Rattle.udt_model.specs.declared.answers.Placed.{Placed}
use Rattle.udt_model.specs.declared.answers.Placed.TheVariants as placing
use Rattle.udt_model.specs.declared.packets.Flags.{Flags}
use Rattle.udt_model.specs.Events.{Act, Arrive, Event}
use Rattle.udt_model.specs.Losses.{LostRange}
use Rattle.udt_model.specs.Numbers.{near}
use Rattle.udt_model.specs.Rate.{Ways}
use Rattle.udt_model.specs.ReceiveHalf.{Receiving, measured, offset_of, placing_at, after_placing, after_block, with_taken, after_receive_message}
use Rattle.udt_model.specs.State.{State}
use Rattle.udt_model.specs.Step.{step}
use Rattle.udt_model.proofs.ReceivingLemmas.{offset_of-some}
use Rattle.udt_model.proofs.ReceivingSteps.{receiving-shows}
use Rattle.udt_laws.proofs.delivered_is_carried.ReportsLeave.{reports-leave, ack2-leaves}
use Rattle.udt_laws.proofs.laid_messages.Layout.{LaidMessage, IsBlockOf, IsRangeOf}
use Rattle.udt_laws.proofs.laid_messages.KeepsLayout.{BringsLayout, MeetsLayout}

-- a message that is read leaves the top as it is
pub show-leaves : (r : Receiving) (room : ℕ) → (after_receive_message r room).top ≡ r.top
show-leaves r room = grind (arith, cases_Bool (room == 0))

-- ---- what raises it

-- the top stands between these offsets
pub record StandsBetween (low high top : ℕ) : Type 0 where
  pub not_below : low ≤ top
  pub not_above : top ≤ high

module _ (low high : ℕ) where
  placing-stands : (r : Receiving) (now : ℕ) (flags : Flags) (bytes : List ℕ) (offset : Option ℕ) (p : Placed)
      → ((n : ℕ) → offset ≡ Some n → n < high) → StandsBetween low high r.top → StandsBetween low high (after_placing r now flags bytes offset p).top
  placing-stands r now flags bytes (Some offset) placing.New below stands =
      record { not_below = omega (arith, stands.not_below); not_above = omega (arith, stands.not_above, below offset refl) }
  placing-stands r now flags bytes (Some offset) placing.Below below stands = stands
  placing-stands r now flags bytes (Some offset) placing.Above below stands = stands
  placing-stands r now flags bytes (Some offset) placing.Double below stands = stands
  placing-stands r now flags bytes None placing.New below stands = stands
  placing-stands r now flags bytes None placing.Below below stands = stands
  placing-stands r now flags bytes None placing.Above below stands = stands
  placing-stands r now flags bytes None placing.Double below stands = stands

  pub block-stands : (r : Receiving) (now number : ℕ) (flags : Flags) (bytes : List ℕ)
      → ((offset : ℕ) → near r.isn r.top number ≡ Some offset → offset < high) → StandsBetween low high r.top
      → StandsBetween low high (after_block r now number flags bytes).top
  unfolding after_block
  block-stands r now number flags bytes below stands =
      placing-stands (measured r now number) now flags bytes (offset_of r number) (placing_at r (offset_of r number))
      (λ offset found. below offset (offset_of-some r number offset found).is_near) stands

  pub taken-stands : (r : Receiving) (now : ℕ) (range : LostRange) → range.last < high → StandsBetween low high r.top
      → StandsBetween low high (with_taken r now range).top
  taken-stands r now range below stands =
      record { not_below = omega (arith, stands.not_below); not_above = omega (arith, stands.not_above, below) }

  module _ {C : Type 0} (w : Ways C) (payload : ℕ) (messages : List LaidMessage)
      (below : (laid : LaidMessage) → Contains messages laid → laid.message.last < high) where
    -- a block of the messages lies below what all of them do
    block-below : (offset : ℕ) (flags : Flags) (bytes : List ℕ) → IsBlockOf payload messages offset flags bytes → offset < high
    block-below offset flags bytes of_layout = omega (arith, of_layout.to, below of_layout.laid of_layout.among)

    range-below : (first last : ℕ) → IsRangeOf messages first last → last < high
    range-below first last range = omega (arith, range.ends, below range.laid range.among)

    -- what this act may bring
    brings : (s : State C) (act : Act) (from : _) (raw : List ℕ) → MeetsLayout payload messages s act → act ≡ Arrive from raw
        → BringsLayout payload messages s from raw
    brings s act from raw meets is = subst (MeetsLayout payload messages s) is meets

    -- so the top stays below that
    pub step-stands : (s : State C) (event : Event) → MeetsLayout payload messages s event.act → StandsBetween low high s.receiving.top
        → StandsBetween low high (step w s event).after.receiving.top
    step-stands s event meets stands = receiving-shows w s event (λ r. StandsBetween low high r.top) (record {
      stays = stands;
      reads = λ room streams. stands;
      shows = λ room only. subst (StandsBetween low high) (sym (show-leaves s.receiving room)) stands;
      carries = λ now from raw number flags stamp bytes is sender reads.
          let may = brings s event.act from raw meets is in
          block-stands s.receiving now number flags bytes
          (λ offset found. block-below offset flags bytes (may.places number flags stamp bytes offset sender reads found)) stands;
      drops = λ now from raw message stamp first last range is sender reads only taken.
          let may = brings s event.act from raw meets is in
          taken-stands s.receiving now range (range-below range.first range.last (may.drops message stamp first last range sender reads taken)) stands;
      tells = λ now known. subst (StandsBetween low high)
          (sym (reports-leave s.receiving now known).top) stands;
      confirms = λ number. subst (StandsBetween low high) (sym (ack2-leaves s.receiving number).top) stands;
      links = λ now peer unsettled. stands;
    })
