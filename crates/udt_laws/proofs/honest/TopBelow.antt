-- Where all that arrives at a half names offsets below this, its top stays at most there.
use Rattle.std.proofs.Common.{◌≡◌, ℕ, ◌<◌, true, List, Option, Some, None, Ok, refl, sym, subst}
use Rattle.udt_model.specs.declared.addresses.Addr.{Addr}
use Rattle.udt_model.specs.declared.answers.Placed.{Placed}
use Rattle.udt_model.specs.declared.answers.Placed.TheVariants as placing
use Rattle.udt_model.specs.declared.packets.Flags.{Flags}
use Rattle.udt_model.specs.Events.{Act, Arrive, Event}
use Rattle.udt_model.specs.Losses.{LostRange}
use Rattle.udt_model.specs.Numbers.{near}
use Rattle.udt_model.specs.Rate.{Ways}
use Rattle.udt_model.specs.ReceiveBlocks.{placing_of, arrived_at, after_place}
use Rattle.udt_model.specs.ReceiveHalf.{Receiving, measured, offset_of, placing_at, after_placing, after_block, drop_range}
use Rattle.udt_model.specs.State.{State}
use Rattle.udt_model.specs.Step.{step}
use Rattle.udt_model.specs.Wire.{Block, DropAsk, read}
use Rattle.udt_model.proofs.PhaseLemmas.{is_settled}
use Rattle.udt_model.proofs.ReceivingSteps.{receiving-shows}
use Rattle.udt_laws.proofs.delivered_is_carried.ReportsLeave.{reports-leave, ack2-leaves}
use Rattle.udt_laws.proofs.delivered_prefix.WindowRises.{put-base}
use Rattle.udt_laws.proofs.laid_messages.TopStands.{StandsBetween, show-leaves, block-stands, taken-stands}

-- a block that arrives leaves the base as it is
placing-base : (r : Receiving) (now : ℕ) (flags : Flags) (bytes : List ℕ) (offset : Option ℕ) (p : Placed)
    → (after_placing r now flags bytes offset p).blocks.base ≡ r.blocks.base
unfolding after_place
placing-base r now flags bytes (Some offset) placing.New =
    put-base 0 0 r.blocks (arrived_at offset flags bytes) (placing_of r.blocks offset)
placing-base r now flags bytes (Some offset) placing.Below = refl
placing-base r now flags bytes (Some offset) placing.Above = refl
placing-base r now flags bytes (Some offset) placing.Double = refl
placing-base r now flags bytes None placing.New = refl
placing-base r now flags bytes None placing.Below = refl
placing-base r now flags bytes None placing.Above = refl
placing-base r now flags bytes None placing.Double = refl

pub block-base : (r : Receiving) (now number : ℕ) (flags : Flags) (bytes : List ℕ)
    → (after_block r now number flags bytes).blocks.base ≡ r.blocks.base
unfolding after_block
block-base r now number flags bytes =
    placing-base (measured r now number) now flags bytes (offset_of r number) (placing_at r (offset_of r number))

module _ {C : Type 0} where
  -- the data packets and the message drop requests that come from the peer are read as offsets below this
  pub record BringsBelow (high : ℕ) (s : State C) (from : Addr) (raw : List ℕ) : Type 0 where
    pub places : (number : ℕ) (flags : Flags) (stamp : ℕ) (payload : List ℕ) (offset : ℕ) → from ≡ s.peer.addr
        → read raw ≡ Ok (Block number flags stamp s.own payload) → near s.receiving.isn s.receiving.top number ≡ Some offset
        → offset < high
    pub drops : (message stamp first last : ℕ) (range : LostRange) → from ≡ s.peer.addr
        → read raw ≡ Ok (DropAsk message stamp s.own first last) → drop_range s.receiving first last ≡ Some range
        → range.last < high

  abbrev pub MeetsBelow : ℕ → State C → Act → Type 0
  MeetsBelow high s (Arrive from raw) = BringsBelow high s from raw
  MeetsBelow high s act = Unit {0}

module _ {C : Type 0} (w : Ways C) (low high : ℕ) where
  brings : (s : State C) (act : Act) (from : Addr) (raw : List ℕ) → MeetsBelow high s act → act ≡ Arrive from raw
      → BringsBelow high s from raw
  brings s act from raw meets is = subst (MeetsBelow high s) is meets

  pub step-stands_below : (s : State C) (event : Event) → is_settled s.phase ≡ true → MeetsBelow high s event.act
      → StandsBetween low high s.receiving.top → StandsBetween low high (step w s event).after.receiving.top
  step-stands_below s event settled meets stands = receiving-shows w s event (λ r. StandsBetween low high r.top) (record {
    stays = stands;
    reads = λ room streams. stands;
    shows = λ room only. subst (StandsBetween low high) (sym (show-leaves s.receiving room)) stands;
    carries = λ now from raw number flags stamp bytes is sender reads.
        let may = brings s event.act from raw meets is in
        block-stands low high s.receiving now number flags bytes
        (λ offset found. may.places number flags stamp bytes offset sender reads found) stands;
    drops = λ now from raw message stamp first last range is sender reads only taken.
        let may = brings s event.act from raw meets is in
        taken-stands low high s.receiving now range (may.drops message stamp first last range sender reads taken) stands;
    tells = λ now known. subst (StandsBetween low high) (sym (reports-leave s.receiving now known).top) stands;
    confirms = λ number. subst (StandsBetween low high) (sym (ack2-leaves s.receiving number).top) stands;
    links = λ now peer unsettled. absurd (cc);
  })
